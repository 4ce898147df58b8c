use Rattle.std.proofs.Common.{◌≡◌, ◌<◌, ◌^◌, arith, sym, ◌∙◌}
use Rattle.sg_exchange.proofs.NamedLemmas.{one_number}
use Rattle.sg_exchange.proofs.named.number_named.Goals as goal
use Rattle.sg_exchange.proofs.named.number_named.Goals.{then-number-low-via-then-number-low, then-number-low-via-else-number-low+then-high-number}

pub returns-then-number-low : goal.returns-then-number-low
returns-then-number-low c = λ n low high is.
    let number : c.in-Some.number ≡ n =
    one_number c.args.before.now c.in-Some.number n (omega arith) (omega (arith, high)) (sym c.in-Some.ensures ∙ is) in
    elim c.then-number-low.branch [ then-number-low-via-then-number-low w ↦ omega (arith, low, high, number) | then-number-low-via-else-number-low+then-high-number w ↦ omega (arith, low, high, number) ]
