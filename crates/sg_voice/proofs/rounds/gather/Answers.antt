use Rattle.std.proofs.Common.{◌-◌, List, ◌++◌, ap, sym, ◌∙◌, arith}
use Rattle.sg_voice.specs.declared.play.Play.{Play}
use Rattle.sg_voice.specs.declared.play.Interrupt.{Interrupt}
use Rattle.sg_voice.specs.Hour.{round_of, rounds_of, most_of, total}
use Rattle.sg_voice.specs.Within.{within}
use Rattle.sg_voice.proofs.WithinLemmas.{finished}
use Rattle.sg_voice.proofs.RoundLemmas.{first_round, first_seconds, weight_append}
use Rattle.sg_voice.proofs.rounds.gather.Goals as goal

pub returns-then-left-eq0-clause-items : goal.returns-then-left-eq0-clause-items
returns-then-left-eq0-clause-items c =
    let all = c.args.interrupts.now in
    let after : List Play = rounds_of (most_of all - 1) 1 all in
    finished c.one_round-left.result c.one_round-left.new.plays.items after _ c.if-left-eq0.true
    (c.one_round-left.ensures.items after
    ∙ (ap (λ (q : List Play). q ++ within 3600 (round_of 0 all ++ after)) c.clear.ensures.items
    ∙ ap (λ (q : List Play). within 3600 q) (sym (first_round all c.requires.each))))

pub returns-then-left-eq0-clause-left : goal.returns-then-left-eq0-clause-left
returns-then-left-eq0-clause-left c =
    let all = c.args.interrupts.now in
    omega (arith, c.one_round-left.ensures.left, c.if-left-eq0.true, ap (λ (q : List Play). total q) (first_round all c.requires.each), weight_append (λ p. p.seconds) (round_of 0 all) (rounds_of (most_of all - 1) 1 all))

pub unreachable-requires : goal.unreachable-requires
unreachable-requires c = omega (arith, c.in-Err.ensures.full, c.clear-2.ensures.len, c.clear-2.ensures.capacity, first_seconds c.args.interrupts.now c.requires.each, c.one_round-left.ensures.left, c.if-left-eq0.false, c.requires.alive)

pub returns-clause-items : goal.returns-clause-items
returns-clause-items c =
    let all = c.args.interrupts.now in
    let after : List Play = rounds_of (most_of all - 1) 1 all in
    let copied = c.in-Ok.ensures.items ∙ ap (λ (q : List Interrupt). q ++ all) c.clear-2.ensures.items in
    c.later_rounds.ensures.items
    ∙ (ap (λ (is : List Interrupt). c.one_round-left.new.plays.items ++ within c.one_round-left.result (rounds_of (most_of is - 1) 1 is)) copied
    ∙ (c.one_round-left.ensures.items after
    ∙ (ap (λ (q : List Play). q ++ within 3600 (round_of 0 all ++ after)) c.clear.ensures.items
    ∙ ap (λ (q : List Play). within 3600 q) (sym (first_round all c.requires.each)))))

pub returns-clause-left : goal.returns-clause-left
returns-clause-left c =
    let all = c.args.interrupts.now in
    let copied = c.in-Ok.ensures.items ∙ ap (λ (q : List Interrupt). q ++ all) c.clear-2.ensures.items in
    omega (arith, c.later_rounds.ensures.left, c.one_round-left.ensures.left, ap (λ (is : List Interrupt). total (rounds_of (most_of is - 1) 1 is)) copied, ap (λ (q : List Play). total q) (first_round all c.requires.each), weight_append (λ p. p.seconds) (round_of 0 all) (rounds_of (most_of all - 1) 1 all))
