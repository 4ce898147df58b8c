use Rattle.std.proofs.Common.{◌≤◌}
use Rattle.sg_journal_tests.proofs.tests.record_many.Given as goal
use Rattle.sg_disk.specs.declared.places.TheConstants.{DATA}

abbrev pub invariant-loop-i : goal.invariant-loop-i
invariant-loop-i g l = DATA ≤ (g.D.Disk.view l.disk).size
