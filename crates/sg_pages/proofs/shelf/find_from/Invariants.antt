use Rattle.std.proofs.Common.{◌≡◌, ℕ, ◌*◌, ◌≤◌, List, take, sum_by}
use Rattle.sg_pages.specs.Shelves.{pages_for}
use Rattle.sg_pages.proofs.ShelfLemmas.{Finds}
use Rattle.sg_pages.proofs.shelf.find_from.Given as goal

abbrev pub invariant-loop-placed : goal.invariant-loop-placed
invariant-loop-placed l = (l.first ≤ 65536 * l.placed-index) × (l.first ≡ sum_by pages_for (take l.placed-index l.files)) × ((pages : List ℕ) → Finds l.file pages l.files l.placed-index l.first)
