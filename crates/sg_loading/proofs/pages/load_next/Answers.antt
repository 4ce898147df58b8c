use Rattle.std.proofs.Common.{◌≡◌, ◌∙◌, ◌+◌, ◌<◌, ◌≤◌, ℕ, List, Some, None, ap, sym, subst, arith}
use Rattle.std.specs.Prelude.{Option}
use Rattle.std.proofs.lemmas.Result.{err_from_is_err_and}
use Rattle.sg_base.specs.declared.key.Key.{Key}
use Rattle.sg_base.specs.Keys.{number}
use Rattle.sg_keeper.specs.Pages.{HasPageForm, IsPage, end_of, start_of}
use Rattle.sg_loading.specs.declared.fault.LoadFault.TheVariants.{BadRow}
use Rattle.sg_loading.specs.Pages.{Continues}
use Rattle.sg_loading.proofs.PageLemmas.{start_low}
use Rattle.sg_loading.proofs.RunLemmas.{handed_on}
use Rattle.sg_loading.proofs.pages.load_next.Goals as goal

pub returns-clause-left : goal.returns-clause-left
returns-clause-left g c =
    let form = subst (λ es. HasPageForm (start_of c.args.kind c.args.after) (end_of c.args.kind) 256 es) (sym c.as_slice.ensures.value) c.in-Ok.ensures.form in
    (c.next_after-next.ensures c.args.kind (start_of c.args.kind c.args.after) (start_low c.args.kind c.args.after) c.requires.start form).left

pub returns-clause-within : goal.returns-clause-within
returns-clause-within g c =
    let form = subst (λ es. HasPageForm (start_of c.args.kind c.args.after) (end_of c.args.kind) 256 es) (sym c.as_slice.ensures.value) c.in-Ok.ensures.form in
    (c.next_after-next.ensures c.args.kind (start_of c.args.kind c.args.after) (start_low c.args.kind c.args.after) c.requires.start form).within

pub returns-clause-rows : goal.returns-clause-rows
returns-clause-rows g c told rows =
    let kept = (g.K.Keeper.view c.args.keeper.now).rows in
    let start = start_of c.args.kind c.args.after in
    let page = subst (λ es. Continues c.args.kind start 256 es c.next_after-next.result) c.as_slice.ensures.value
    (c.next_after-next.ensures c.args.kind start (start_low c.args.kind c.args.after) c.requires.start
    (subst (λ es. HasPageForm start (end_of c.args.kind) 256 es) (sym c.as_slice.ensures.value) c.in-Ok.ensures.form)) in
    c.in_ok-load_page.ensures.rows kept start _ (page.rows kept (c.in-Ok.ensures.page told)) rows

pub returns-in_err-load_page-clause-bad : goal.returns-in_err-load_page-clause-bad
returns-in_err-load_page-clause-bad g c at is told rows =
    let kept = (g.K.Keeper.view c.args.keeper.now).rows in
    let start = start_of c.args.kind c.args.after in
    let page = subst (λ es. Continues c.args.kind start 256 es c.next_after-next.result) c.as_slice.ensures.value
    (c.next_after-next.ensures c.args.kind start (start_low c.args.kind c.args.after) c.requires.start
    (subst (λ es. HasPageForm start (end_of c.args.kind) 256 es) (sym c.as_slice.ensures.value) c.in-Ok.ensures.form)) in
    let p = err_from_is_err_and c.from_residual.result c.from_residual.ensures.1 in
    let same = handed_on c.from_residual.result p.0 c.in_err-load_page.field-0.0 (BadRow at) p.1 p.2 is in
    c.in_err-load_page.ensures.bad at same kept start _ (page.rows kept (c.in-Ok.ensures.page told)) rows
