use Rattle.std.proofs.Common.{◌≡◌, sym, subst, arith, map, take}
use Rattle.std.proofs.lemmas.Result.{IfOk-weaker}
use Rattle.sg_keeper.specs.Pages.{start_of, end_of, IsPage, HasPageForm}
use Rattle.sg_keeper.specs.Map.{rows_in, pair_of}
use Rattle.sg_keeper.proofs.PageLemmas.{page_form, page_exact}
use Rattle.sg_keeper.proofs.map.page_of.Goals as goal

pub returns-clause-page : goal.returns-clause-page
returns-clause-page c =
    let all = c.args.entries.now.items in
    let rest = c.entries_after-rest in
    let IsRight = IsPage (start_of c.args.kind c.args.after) (end_of c.args.kind) c.args.limit (rows_in all) in
    let right = page_exact _ _ c.args.limit c.min-count.result rest.result.now all rest.ensures.rising rest.ensures.all c.min-count.ensures in
    IfOk-weaker _ (λ page. page.items ≡ map pair_of (take c.min-count.result rest.result.now)) (λ page. IsRight page.items) (λ page is. subst IsRight (sym is) right) c.pairs_of.ensures

pub returns-clause-form : goal.returns-clause-form
returns-clause-form c =
    let rest = c.entries_after-rest in
    let IsFormed = HasPageForm (start_of c.args.kind c.args.after) (end_of c.args.kind) c.args.limit in
    let formed = page_form _ _ c.args.limit c.min-count.result rest.result.now rest.ensures.rising rest.ensures.within (omega (arith, c.min-count.ensures)) in
    IfOk-weaker _ (λ page. page.items ≡ map pair_of (take c.min-count.result rest.result.now)) (λ page. IsFormed page.items) (λ page is. subst IsFormed (sym is) formed) c.pairs_of.ensures
