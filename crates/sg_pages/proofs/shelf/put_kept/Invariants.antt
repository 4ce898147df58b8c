use Rattle.std.proofs.Common.{◌*◌, ◌≤◌}
use Rattle.sg_pages.proofs.ShelfLemmas.{Keeps}
use Rattle.sg_pages.proofs.shelf.put_kept.Given as goal

abbrev pub invariant-loop-placed : goal.invariant-loop-placed
invariant-loop-placed l = (l.first ≤ 65536 * l.placed-index) × Keeps l.files l.from l.kept l.placed-index l.first
