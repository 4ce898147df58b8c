use Rattle.std.proofs.Common.{◌≡◌, ℕ, ◌<◌, ◌^◌, Ok, Err, decimal, true, arith, sym, ◌∙◌, ap}
use Rattle.std.proofs.lemmas.Bool.Decides.{Decides-eqb}
use Rattle.std.proofs.lemmas.Fmt.{parse-decimal}
use Rattle.std.proofs.lemmas.Slice.Eq.{slice_eq-Decides}
use Rattle.sg_exchange.proofs.NamedLemmas.{digits_utf8, ok_is}
use Rattle.sg_exchange.proofs.named.number.Goals as goal

pub returns-in_default : goal.returns-in_default
returns-in_default c = λ n lt is. c.in_default.ensures.cases.0 (digits_utf8 c.args.digits.now n lt is)

pub returns-in_default-parse : goal.returns-in_default-parse
returns-in_default-parse c = λ n lt is.
    let parsed : Err c.in_default-parse.field-0 ≡ Ok n =
    parse-decimal 32 n c.in-Ok.text.now _ lt (omega (arith, lt)) (c.in-Ok.ensures.cases.0 ∙ is) c.in_default-parse.ensures.value.0 in
    absurd (cc)

pub returns-else-eq : goal.returns-else-eq
returns-else-eq c = λ n lt is.
    let parsed : c.parse.result ≡ Ok n =
    parse-decimal 32 n c.in-Ok.text.now c.parse.result lt (omega (arith, lt)) (c.in-Ok.ensures.cases.0 ∙ is) c.parse.ensures.value.0 in
    let number : c.in-Ok-parse.number ≡ n = ok_is c.parse.result c.in-Ok-parse.number n c.in-Ok-parse.is parsed in
    let same : c.as_bytes.result.now ≡ c.args.digits.now = c.as_bytes.ensures.value ∙ c.format.ensures.text ∙ ap decimal number ∙ sym is in
    let equal : c.eq.result ≡ true = (slice_eq-Decides Decides-eqb _ _ _ c.eq.ensures).1 same in
    let other = c.if-eq.false in
    absurd (cc)
