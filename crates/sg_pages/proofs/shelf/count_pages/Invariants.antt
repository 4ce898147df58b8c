use Rattle.std.proofs.Common.{◌≡◌, ◌*◌, ◌≤◌, take, sum_by}
use Rattle.sg_pages.specs.Shelves.{pages_for}
use Rattle.sg_pages.proofs.shelf.count_pages.Given as goal

abbrev pub invariant-loop-placed : goal.invariant-loop-placed
invariant-loop-placed l = (l.count ≡ sum_by pages_for (take l.placed-index l.files)) × (l.count ≤ 65536 * l.placed-index)
