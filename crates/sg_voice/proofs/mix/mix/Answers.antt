use Rattle.std.proofs.Common.{◌+◌, ◌-◌, ◌*◌, List, ◌∷◌, ◌++◌, length, slice_range, ap, sym, ◌∙◌, arith}
use Rattle.std.proofs.lemmas.List.Elements.{All-from_recursion}
use Rattle.sg_voice.specs.declared.play.Play.{Play}
use Rattle.sg_voice.specs.Hour.{IsPlay, cyclic, before, mixed, placed}
use Rattle.sg_voice.proofs.MixLemmas.{before_is, before_more, next_inside, mixed_from, range_step, range_end}
use Rattle.sg_voice.proofs.mix.mix.Goals as goal

pub loop-remainder-init : goal.loop-remainder-init
loop-remainder-init c =
    let all = mixed_from c.args.n c.args.normal.now c.args.plays.now c.loop-j.j c.loop-j.next c.loop-j.remainder c.loop-j-test.true c.loop-j.invariant.place (c.loop-j.invariant.small c.loop-j-test.true) in
    record {
      items = ap (λ (q : List Play). c.loop-j.slots.items ++ placed c.loop-j.at q) (sym all) ∙ c.loop-j.invariant.items;
      place = omega (arith, c.loop-j.invariant.place);
      behind = c.loop-j.invariant.behind;
      capacity = c.loop-j.invariant.capacity;
    }

pub bounds-plays-next : goal.bounds-plays-next
bounds-plays-next c = next_inside c.args.n c.loop-remainder.next c.loop-remainder.remainder (length c.args.plays.now) c.loop-j.j c.loop-j-test.true c.loop-remainder.invariant.place c.loop-remainder-test.true

pub put-at-requires-clause-play : goal.put-at-requires-clause-play
put-at-requires-clause-play c =
    All-from_recursion IsPlay c.args.plays.now c.requires.plays c.loop-remainder.next _
    (next_inside c.args.n c.loop-remainder.next c.loop-remainder.remainder (length c.args.plays.now) c.loop-j.j c.loop-j-test.true c.loop-remainder.invariant.place c.loop-remainder-test.true)

pub loop-remainder-preserved : goal.loop-remainder-preserved
loop-remainder-preserved c =
    let n = c.args.n in
    let ns = c.args.normal.now in
    let bs = c.args.plays.now in
    let j = c.loop-j.j in
    let x = c.loop-remainder.next in
    let inside = next_inside n x c.loop-remainder.remainder (length bs) j c.loop-j-test.true c.loop-remainder.invariant.place c.loop-remainder-test.true in
    let more = before_more n x c.loop-remainder.remainder ((j + 1) * length bs) (omega arith) c.loop-remainder.invariant.place c.loop-remainder-test.true in
    let step = range_step bs x (before n (length bs) (j + 1)) (record { event = 0; layout = 0; seconds = 0 }) inside more in
    let after : List Play = cyclic ns j ∷ mixed n ns bs (n - (j + 1)) (j + 1) in
    record {
      items = c.put-at.ensures.items (slice_range bs (x + 1) (before n (length bs) (j + 1)) ++ after)
          ∙ (ap (λ (q : List Play). c.loop-remainder.slots.items ++ placed c.loop-remainder.at (q ++ after)) (sym step) ∙ c.loop-remainder.invariant.items);
      place = omega (arith, c.loop-remainder.invariant.place);
      behind = c.put-at.ensures.behind;
      capacity = c.put-at.ensures.capacity;
    }

pub loop-j-preserved : goal.loop-j-preserved
loop-j-preserved c =
    let n = c.args.n in
    let ns = c.args.normal.now in
    let bs = c.args.plays.now in
    let j = c.loop-j.j in
    let x = c.loop-remainder.next in
    let same = before_is n x c.loop-remainder.remainder ((j + 1) * length bs) c.loop-remainder.invariant.place c.loop-remainder-test.false in
    let ends = range_end bs x (before n (length bs) (j + 1)) (omega (arith, same)) in
    let after : List Play = mixed n ns bs (n - (j + 1)) (j + 1) in
    record {
      items = c.put-at-in-loop-j.ensures.items after
          ∙ (ap (λ (p : Play). c.loop-remainder.slots.items ++ placed c.loop-remainder.at (p ∷ after)) c.turn-normal_play.ensures.value
          ∙ (ap (λ (q : List Play). c.loop-remainder.slots.items ++ placed c.loop-remainder.at (q ++ (cyclic ns j ∷ after))) (sym ends) ∙ c.loop-remainder.invariant.items));
      place = c.loop-remainder.invariant.place;
      small = λ _. c.loop-remainder-test.false;
      behind = c.put-at-in-loop-j.ensures.behind;
      capacity = c.put-at-in-loop-j.ensures.capacity;
    }
