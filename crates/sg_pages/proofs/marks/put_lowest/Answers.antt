use Rattle.std.proofs.Common.{sym, ◌∙◌, arith}
use Rattle.sg_pages.proofs.MarkLemmas.{lowest_taken, lowest_more, lowest_over}
use Rattle.sg_pages.proofs.marks.put_lowest.Goals as goal
use Rattle.sg_pages.proofs.marks.put_lowest.Goals.{then-left-ne0+then-not-marks-page, else-left-ne0, else-left-ne0-via-then-left-ne0+else-not-marks-page, else-left-ne0-via-else-left-ne0}

pub loop-page-preserved : goal.loop-page-preserved
loop-page-preserved c = elim c.if-left-ne0.branch [
  | then-left-ne0+then-not-marks-page w ↦ rw (w.pages-is, w.left-is) (
    omega (arith, c.loop-page.invariant.0, w.push_page.ensures.len, w.push_page.ensures.room),
    omega (arith, c.loop-page.invariant.1, w.push_page.ensures.room),
    λ taken are. lowest_more taken c.args.need c.loop-page.page c.loop-page.left c.args.pages.now.items c.loop-page.pages.items w.push_page.new.pages.items (sym (are c.loop-page.page c.loop-page-test.true) ∙ w.if-not-marks-page.true) (omega (arith, w.if-left-ne0.true)) w.push_page.ensures.items (c.loop-page.invariant.2 taken are),
  )
  | else-left-ne0 w ↦ rw (w.pages-is, w.left-is) (
    c.loop-page.invariant.0,
    c.loop-page.invariant.1,
    λ taken are. elim w.else-left-ne0.branch [
      | else-left-ne0-via-then-left-ne0+else-not-marks-page w' ↦ lowest_taken taken c.args.need c.loop-page.page c.loop-page.left c.args.pages.now.items c.loop-page.pages.items (sym (are c.loop-page.page c.loop-page-test.true) ∙ w'.if-not-marks-page.false) (c.loop-page.invariant.2 taken are)
      | else-left-ne0-via-else-left-ne0 w' ↦ lowest_over taken c.args.need c.loop-page.page c.loop-page.left c.args.pages.now.items c.loop-page.pages.items (omega (arith, w'.if-left-ne0.false)) (c.loop-page.invariant.2 taken are)
    ],
  )
]
