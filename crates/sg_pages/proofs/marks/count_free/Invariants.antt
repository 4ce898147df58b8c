use Rattle.std.proofs.Common.{◌≡◌, ◌≤◌, List, length}
use Rattle.sg_disk.specs.Contents.{Segment}
use Rattle.sg_pages.specs.Pages.{free_pages, Marks}
use Rattle.sg_pages.proofs.marks.count_free.Given as goal

abbrev pub invariant-loop-page : goal.invariant-loop-page
invariant-loop-page l = (l.free ≤ l.page) × ((taken : List Segment) → Marks taken l.marks → l.free ≡ length (free_pages taken l.page))
