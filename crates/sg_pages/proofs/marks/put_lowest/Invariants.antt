use Rattle.std.proofs.Common.{◌+◌, ◌≤◌, List, vec_len, vec_capacity}
use Rattle.sg_disk.specs.Contents.{Segment}
use Rattle.sg_pages.specs.Pages.{Marks}
use Rattle.sg_pages.proofs.MarkLemmas.{Lowest}
use Rattle.sg_pages.proofs.marks.put_lowest.Given as goal

abbrev pub invariant-loop-page : goal.invariant-loop-page
invariant-loop-page l = (vec_len l.pages + l.left ≤ vec_capacity l.pages) × (vec_capacity l.fn.pages ≤ vec_capacity l.pages) × ((taken : List Segment) → Marks taken l.marks → Lowest taken l.need l.page l.left l.fn.pages.items l.pages.items)
