-- One entry further, the rest of the entries is that entry and what comes after it.
use Rattle.std.proofs.Common.{◌≡◌, ◌+◌, List, [], ◌∷◌, ◌++◌, length, drop, map, ap, ◌∙◌, sym, subst, arith, Bool, length-append}
use Rattle.std.proofs.lemmas.List.{append_assoc, append-nil}
use Rattle.std.proofs.lemmas.List.Elements.{All-from_recursion}
use Rattle.std.proofs.Math.ListN.{drop_of_length-le}
use Rattle.sg_layer.specs.declared.entry.Entry.{Entry}
use Rattle.sg_layer.specs.Lists.{IsEntry, is_active}
use Rattle.sg_layer.specs.Segment.{IsSoonest}
use Rattle.sg_layer.proofs.ListLemmas.{drop_here}
use Rattle.sg_layer.proofs.asking.ask.Goals as goal

pub loop-entry-preserved : goal.loop-entry-preserved
loop-entry-preserved g c =
    let i = c.loop-entry.entry-index in
    let xs = c.args.entries.now in
    let x = c.entry-item.result in
    let one = c.ask_one-soonest in
    let before = c.loop-entry.invariant in
    let next : drop i xs ≡ x ∷ drop (i + 1) xs = drop_here xs i x c.loop-entry-test.true c.entry-item.is in
    record {
      marks = ap (λ (ms : List Bool). ms ++ map (is_active c.args.t) (drop (i + 1) xs)) one.ensures.marks
          ∙ (append_assoc c.loop-entry.marks.items (is_active c.args.t x ∷ []) (map (is_active c.args.t) (drop (i + 1) xs))
          ∙ (ap (λ (ys : List Entry). c.loop-entry.marks.items ++ map (is_active c.args.t) ys) (sym next) ∙ before.marks));
      few = omega (arith, ap (λ (ms : List Bool). length ms) one.ensures.marks, length-append c.loop-entry.marks.items (is_active c.args.t x ∷ []), before.few);
      room = omega (arith, one.ensures.room, before.room);
      soonest = λ rest end h. before.soonest rest end (subst (λ (ys : List Entry). IsSoonest c.loop-entry.soonest (ys ++ rest) c.args.t end) (sym next) (one.ensures.soonest (drop (i + 1) xs ++ rest) end h));
      later = one.ensures.later;
      bound = one.ensures.bound;
      ticks = omega (arith, one.ensures.ticks, before.ticks);
    }

pub ask_one-soonest-requires-clause-entry : goal.ask_one-soonest-requires-clause-entry
ask_one-soonest-requires-clause-entry g c = subst IsEntry (sym c.entry-item.is) (All-from_recursion IsEntry c.args.entries.now c.requires.entries c.loop-entry.entry-index c.entry-item.result c.loop-entry-test.true)

pub ask_one-soonest-requires-clause-room : goal.ask_one-soonest-requires-clause-room
ask_one-soonest-requires-clause-room g c = omega (arith, c.loop-entry.invariant.few, c.loop-entry.invariant.room, c.requires.room, c.loop-entry-test.true)

pub returns-clause-marks : goal.returns-clause-marks
returns-clause-marks g c =
    let past : drop c.loop-entry.entry-index c.args.entries.now ≡ [] = drop_of_length-le c.args.entries.now c.loop-entry-test.false in
    sym (append-nil c.loop-entry.marks.items) ∙ (ap (λ (xs : List Entry). c.loop-entry.marks.items ++ map (is_active c.args.t) xs) (sym past) ∙ c.loop-entry.invariant.marks)

pub returns-clause-soonest : goal.returns-clause-soonest
returns-clause-soonest g c = λ rest end h.
    let past : drop c.loop-entry.entry-index c.args.entries.now ≡ [] = drop_of_length-le c.args.entries.now c.loop-entry-test.false in
    c.loop-entry.invariant.soonest rest end (subst (λ (xs : List Entry). IsSoonest c.loop-entry.soonest (xs ++ rest) c.args.t end) (sym past) h)

pub returns-clause-ticks : goal.returns-clause-ticks
returns-clause-ticks g c = omega (arith, c.loop-entry.invariant.ticks, c.loop-entry-test.false, c.loop-entry.auto.entry-index-end)
