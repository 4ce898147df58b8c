use Rattle.std.proofs.Common.{◌≡◌, drop}
use Rattle.sg_base.specs.Faults.{first_in}
use Rattle.sg_tables.specs.Refusals.{use_fault}
use Rattle.sg_tables.proofs.faults.first_user.Given as goal

abbrev pub invariant-loop-entry : goal.invariant-loop-entry
invariant-loop-entry l = first_in (use_fault l.id l.kind) l.entries ≡ first_in (use_fault l.id l.kind) (drop l.entry-index l.entries)
