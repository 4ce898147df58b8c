use Rattle.std.specs.List.{AllWithin}
use Rattle.sg_pages.specs.Shelves.{IsPlacedIn}
use Rattle.sg_pages_tests.proofs.shelves.are_placed_in.Given as goal

abbrev pub invariant-loop-placed : goal.invariant-loop-placed
invariant-loop-placed l = AllWithin (IsPlacedIn l.room) l.files 0 l.placed-index
