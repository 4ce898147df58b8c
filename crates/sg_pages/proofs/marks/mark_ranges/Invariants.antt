use Rattle.std.proofs.Common.{List, ◌++◌, take}
use Rattle.std.specs.List.{flat_map}
use Rattle.sg_disk.specs.Contents.{Segment}
use Rattle.sg_pages.specs.Pages.{Marks}
use Rattle.sg_pages.specs.Shelves.{extent_of}
use Rattle.sg_pages.proofs.marks.mark_ranges.Given as goal

abbrev pub invariant-loop-placed : goal.invariant-loop-placed
invariant-loop-placed l = (taken : List Segment) → Marks taken l.fn.marks → Marks (taken ++ flat_map extent_of (take l.placed-index l.files)) l.marks
