use Rattle.std.proofs.Common.{◌≡◌, ◌/◌, length}
use Rattle.sg_disk.specs.declared.places.TheConstants.{PAGE}
use Rattle.sg_pages_tests.proofs.tests.taken_in.Given as goal

abbrev pub invariant-loop-taken : goal.invariant-loop-taken
invariant-loop-taken l = length l.set ≡ l.room / PAGE
