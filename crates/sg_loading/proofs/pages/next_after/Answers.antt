use Rattle.std.proofs.Common.{◌≡◌, ◌∙◌, ◌-◌, List, length, ap, sym, arith, Some}
use Rattle.std.specs.Option.{option_copied}
use Rattle.std.specs.List.{slice_get}
use Rattle.sg_loading.proofs.PageLemmas.{continues_full, continues_short}
use Rattle.sg_loading.proofs.pages.next_after.Goals as goal

pub returns-then-page-size : goal.returns-then-page-size
returns-then-page-size c kind start low ordered form = continues_short kind start c.args.size c.args.page.now ordered form c.if-page-size.true

pub returns-in-Some : goal.returns-in-Some
returns-in-Some c kind start low ordered form =
    let got : slice_get c.args.page.now (length c.args.page.now - 1) ≡ Some c.in-Some.last.now = sym c.last.ensures.value ∙ ap option_copied c.in-Some.is in
    let fits = c.numbers_of.ensures.fits in
    continues_full kind start c.args.size c.args.page.now c.in-Some.last.now c.numbers_of.result.0 c.numbers_of.result.1 low form got c.numbers_of.ensures.value fits.0 fits.1
