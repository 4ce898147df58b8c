use Rattle.std.specs.List.{AllWithin}
use Rattle.sg_placing.specs.Placing.{IsPlaced}
use Rattle.sg_placing_tests.proofs.tests.are_placed.Given as goal

abbrev pub invariant-loop-placed : goal.invariant-loop-placed
invariant-loop-placed l = AllWithin (IsPlaced 131072) l.files 0 l.placed-index
