use Rattle.std.proofs.Common.{◌≡◌, ◌+◌, ◌*◌, ◌≤◌, ◌++◌, List, map, drop, vec_len, vec_capacity, ℤ, ◌<ℤ◌, ◌≤ℤ◌}
use Rattle.sg_base.specs.declared.limits.TheConstants.{LOCAL_END}
use Rattle.sg_layer.specs.declared.entry.Entry.{Entry}
use Rattle.sg_layer.specs.Lists.{is_active}
use Rattle.sg_layer.specs.Segment.{IsSoonest}
use Rattle.sg_layer.proofs.asking.ask.Given as goal

abbrev pub invariant-loop-entry : goal.invariant-loop-entry
invariant-loop-entry g l = record {
  marks : l.marks.items ++ map (is_active l.t) (drop l.entry-index l.entries) ≡ map (is_active l.t) l.entries;
  few : vec_len l.marks ≤ l.entry-index;
  room : vec_capacity l.fn.marks ≤ vec_capacity l.marks;
  soonest : (rest : List Entry) (end : ℤ) → IsSoonest l.soonest (drop l.entry-index l.entries ++ rest) l.t end → IsSoonest l.fn.until (l.entries ++ rest) l.t end;
  later : l.t <ℤ l.soonest;
  bound : l.soonest ≤ℤ LOCAL_END;
  ticks : l.steps ≤ l.fn.steps + 2 * l.entry-index;
}
