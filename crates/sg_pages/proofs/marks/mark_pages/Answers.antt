use Rattle.std.proofs.Common.{ℕ, ◌++◌, List, get_or, map, subst, arith}
use Rattle.std.proofs.lemmas.List.{map_more, take_all}
use Rattle.sg_disk.specs.Contents.{page_at}
use Rattle.sg_pages.specs.Pages.{Marks}
use Rattle.sg_pages.proofs.MarkLemmas.{marks_more}
use Rattle.sg_pages.proofs.marks.mark_pages.Goals as goal

pub loop-page-preserved : goal.loop-page-preserved
loop-page-preserved c taken are =
    marks_more taken c.args.pages.now c.loop-page.page-index (get_or c.args.pages.now c.loop-page.page-index 0) c.mark_page.new.marks
    (map_more page_at c.args.pages.now c.loop-page.page-index 0 c.loop-page-test.true)
    (c.mark_page.ensures _ (c.loop-page.invariant taken are))

pub returns : goal.returns
returns c taken are = subst (λ (l : List ℕ). Marks (taken ++ map page_at l) c.loop-page.marks) (take_all c.loop-page.page-index c.args.pages.now (omega arith)) (c.loop-page.invariant taken are)
