use Rattle.std.proofs.Common.{ℕ, ◌+◌, ◌<◌, List, length, get_or, ap, subst, arith}
use Rattle.sg_placing.specs.declared.placed.Placed.{Placed}
use Rattle.sg_placing.proofs.GapLemmas.{nowhere}
use Rattle.sg_pages.proofs.ShelfLemmas.{keeps_more}
use Rattle.sg_pages.proofs.shelf.put_kept.Goals as goal

pub loop-placed-preserved : goal.loop-placed-preserved
loop-placed-preserved c =
    let i = c.loop-placed.placed-index in
    let items : List Placed = c.files-placed-items.result.now in
    let lt : i < length c.args.from.now.files = subst (λ (l : List Placed). i < length l) c.files-placed-items.ensures c.loop-placed-test.true in (
      omega (arith, c.loop-placed.invariant.0, c.pages_for-first.ensures.few),
      keeps_more c.args.files.now c.args.from.now c.loop-placed.kept c.put_if_listed.new.kept i c.loop-placed.first _ (get_or items i nowhere) nowhere lt (ap (λ (l : List Placed). get_or l i nowhere) c.files-placed-items.ensures) (ap (λ (n : ℕ). c.loop-placed.first + n) c.pages_for-first.ensures.value) c.put_if_listed.ensures.stands c.put_if_listed.ensures.filled c.put_if_listed.ensures.few c.put_if_listed.ensures.pages c.loop-placed.invariant.1,
    )
