use Rattle.std.proofs.Common.{◌++◌, List, subst, arith}
use Rattle.std.specs.List.{flat_map}
use Rattle.std.proofs.lemmas.List.{take_all}
use Rattle.sg_placing.specs.declared.placed.Placed.{Placed}
use Rattle.sg_placing.proofs.GapLemmas.{nowhere}
use Rattle.sg_pages.specs.Pages.{Marks}
use Rattle.sg_pages.specs.Shelves.{extent_of}
use Rattle.sg_pages.proofs.ShelfLemmas.{ranges_more}
use Rattle.sg_pages.proofs.marks.mark_ranges.Goals as goal

pub loop-placed-preserved : goal.loop-placed-preserved
loop-placed-preserved c taken are =
    ranges_more taken c.args.files.now c.loop-placed.placed-index nowhere c.mark_range_of.new.marks c.loop-placed-test.true
    (c.mark_range_of.ensures _ (c.loop-placed.invariant taken are))

pub returns : goal.returns
returns c taken are = subst (λ (l : List Placed). Marks (taken ++ flat_map extent_of l) c.loop-placed.marks) (take_all c.loop-placed.placed-index c.args.files.now (omega arith)) (c.loop-placed.invariant taken are)
