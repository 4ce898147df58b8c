use Rattle.std.proofs.Common.{◌-◌, ◌/◌}
use Rattle.sg_disk.specs.declared.places.TheConstants.{DATA, PAGE}
use Rattle.sg_pages.proofs.MarkLemmas.{Marked}
use Rattle.sg_pages.proofs.marks.mark_extent.Given as goal

abbrev pub invariant-loop-page : goal.invariant-loop-page
invariant-loop-page l = Marked ((l.place - DATA) / PAGE) l.page l.fn.marks l.marks
