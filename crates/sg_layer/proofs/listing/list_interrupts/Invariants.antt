use Rattle.std.proofs.Common.{◌≡◌, ◌==◌, ◌≤◌, ◌++◌, map, filter, drop, vec_len, vec_capacity}
use Rattle.sg_layer.specs.Lists.{interrupt_of}
use Rattle.sg_layer.specs.Front.{marked}
use Rattle.sg_layer.proofs.listing.list_interrupts.Given as goal

abbrev pub invariant-loop-i : goal.invariant-loop-i
invariant-loop-i l = record {
  items : l.interrupts.items ++ map interrupt_of (filter (λ x. x.event.priority == l.top) (marked (drop l.i l.marks) (drop l.i l.entries))) ≡ map interrupt_of (filter (λ x. x.event.priority == l.top) (marked l.marks l.entries));
  few : vec_len l.interrupts ≤ l.i;
  room : vec_capacity l.fn.interrupts ≤ vec_capacity l.interrupts;
}
