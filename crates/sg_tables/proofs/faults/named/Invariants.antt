use Rattle.std.proofs.Common.{◌≡◌, drop}
use Rattle.sg_tables.specs.Refusals.{references_fault}
use Rattle.sg_tables.proofs.faults.named.Given as goal

abbrev pub invariant-loop-id : goal.invariant-loop-id
invariant-loop-id l = references_fault l.entries.items l.ids ≡ references_fault l.entries.items (drop l.id-index l.ids)
