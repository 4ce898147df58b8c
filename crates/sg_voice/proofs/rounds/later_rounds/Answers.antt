use Rattle.std.proofs.Common.{ℕ, ◌+◌, ◌-◌, ◌<◌, ◌≤◌, List, ◌++◌, subst, ap, sym, ◌∙◌, arith}
use Rattle.std.specs.List.{AllByRecursion}
use Rattle.sg_voice.specs.declared.play.Play.{Play}
use Rattle.sg_voice.specs.declared.play.Interrupt.{Interrupt}
use Rattle.sg_voice.specs.Hour.{IsInterrupt, round_of, rounds_of, most_of, total}
use Rattle.sg_voice.specs.Within.{within}
use Rattle.sg_voice.proofs.WithinLemmas.{finished}
use Rattle.sg_voice.proofs.RoundLemmas.{filter_sound, keep_round, next_rounds, plays_in, weight_append}
use Rattle.sg_voice.proofs.rounds.later_rounds.Goals as goal

abbrev AllSound : List Interrupt → Type 0
AllSound xs = AllByRecursion IsInterrupt xs

pub one_round-left-requires-clause-each : goal.one_round-left-requires-clause-each
one_round-left-requires-clause-each c =
    subst AllSound (sym (c.as_slice-in-loop-round.ensures.value ∙ c.keep.ensures.items)) (filter_sound IsInterrupt (plays_in c.loop-round.round) c.loop-round.alive.items c.loop-round.invariant.sound)

pub loop-round-preserved : goal.loop-round-preserved
loop-round-preserved c =
    let all = c.args.alive.now.items in
    let r = c.loop-round.round in
    let same = λ (s : ℕ) (h : r ≤ s). ap (λ (xs : List Interrupt). round_of s xs) c.keep.ensures.items ∙ (keep_round r s c.loop-round.alive.items h c.loop-round.invariant.sound ∙ c.loop-round.invariant.same s h) in
    let this = ap (λ (xs : List Interrupt). round_of r xs) c.as_slice-in-loop-round.ensures.value ∙ same r (omega arith) in
    let less : r < most_of all = omega (arith, c.loop-round-test.true, c.most-round-end.ensures, ap (λ (xs : List Interrupt). most_of xs) c.as_slice.ensures.value) in
    let next = next_rounds all (most_of all) r less in
    let after : List Play = rounds_of (most_of all - (r + 1)) (r + 1) all in
    record {
      sound = subst AllSound (sym c.keep.ensures.items) (filter_sound IsInterrupt (plays_in r) c.loop-round.alive.items c.loop-round.invariant.sound);
      same = λ s h. same s (omega arith);
      items = c.one_round-left.ensures.items after
          ∙ (ap (λ (q : List Play). c.loop-round.plays.items ++ within c.loop-round.left (q ++ after)) this
          ∙ (ap (λ (q : List Play). c.loop-round.plays.items ++ within c.loop-round.left q) (sym next) ∙ c.loop-round.invariant.items));
      left = omega (arith, c.one_round-left.ensures.left, ap (λ (q : List Play). total q) this, ap (λ (q : List Play). total q) next, weight_append (λ p. p.seconds) (round_of r all) after, c.loop-round.invariant.left);
      hour = c.one_round-left.ensures.hour;
      plays = c.one_round-left.ensures.capacity;
      alive = omega (arith, c.keep.ensures.capacity, c.loop-round.invariant.alive);
    }

pub returns-then-left-eq0-clause-items : goal.returns-then-left-eq0-clause-items
returns-then-left-eq0-clause-items c =
    finished c.loop-round.left c.loop-round.plays.items _ _ c.if-left-eq0.true c.loop-round.invariant.items
