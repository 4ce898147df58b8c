use Rattle.std.proofs.Common.{List, ◌++◌, take, map}
use Rattle.sg_disk.specs.Contents.{Segment, page_at}
use Rattle.sg_pages.specs.Pages.{Marks}
use Rattle.sg_pages.proofs.marks.mark_pages.Given as goal

abbrev pub invariant-loop-page : goal.invariant-loop-page
invariant-loop-page l = (taken : List Segment) → Marks taken l.fn.marks → Marks (taken ++ map page_at (take l.page-index l.pages)) l.marks
