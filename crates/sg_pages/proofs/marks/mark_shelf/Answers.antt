use Rattle.std.proofs.Common.{ℕ, ◌++◌, List, map, subst}
use Rattle.std.specs.List.{flat_map}
use Rattle.sg_placing.specs.declared.placed.Placed.{Placed}
use Rattle.sg_disk.specs.Contents.{page_at}
use Rattle.sg_pages.specs.Pages.{Marks}
use Rattle.sg_pages.specs.Shelves.{extent_of}
use Rattle.sg_pages.proofs.ShelfLemmas.{marks_shelf}
use Rattle.sg_pages.proofs.marks.mark_shelf.Goals as goal

pub returns : goal.returns
returns c taken are =
    let ranges = subst (λ (l : List Placed). Marks (taken ++ flat_map extent_of l) c.mark_ranges.new.marks) c.files.ensures (c.mark_ranges.ensures taken are) in
    let both = subst (λ (l : List ℕ). Marks ((taken ++ flat_map extent_of c.args.shelf.now.files) ++ map page_at l) c.mark_pages.new.marks) c.pages.ensures (c.mark_pages.ensures _ ranges) in
    marks_shelf taken c.args.shelf.now.pages c.args.shelf.now.files c.mark_pages.new.marks c.requires.filled both
