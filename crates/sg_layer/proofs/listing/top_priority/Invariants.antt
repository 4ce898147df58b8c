use Rattle.std.proofs.Common.{◌≡◌, max, drop}
use Rattle.sg_layer.specs.Lists.{greatest_priority}
use Rattle.sg_layer.specs.Front.{marked}
use Rattle.sg_layer.proofs.listing.top_priority.Given as goal

abbrev pub invariant-loop-i : goal.invariant-loop-i
invariant-loop-i l = max l.top (greatest_priority (marked (drop l.i l.marks) (drop l.i l.entries))) ≡ greatest_priority (marked l.marks l.entries)
