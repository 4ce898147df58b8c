use Rattle.std.proofs.Common.{◌≤◌, ◌++◌, ◌∷◌, [], ◌∙◌, sym, subst, ltb-false}
use Rattle.sg_base.specs.Keys.{number_of}
use Rattle.sg_base.specs.Ranks.{rank_of}
use Rattle.sg_keeper.specs.Pages.{HasPageForm}
use Rattle.sg_keeper_sqlite.proofs.Pages.{page_pushed}
use Rattle.sg_keeper_sqlite.proofs.rows.push_row.Goals as goal

pub returns-clause-form : goal.returns-clause-form
returns-clause-form c start limit low room form =
    let later : rank_of c.args.from ≤ number_of c.args.key = subst (λ n. rank_of c.args.from ≤ n) c.rank.ensures (ltb-false _ _ (sym c.is_below.ensures ∙ c.if-is_below.false)) in
    subst (λ xs. HasPageForm start (rank_of c.rank_after.result) limit xs) (sym c.in_ok-push.ensures.items)
    (subst (λ n. HasPageForm start n limit (c.args.page.now.items ++ (c.args.key, c.from_vec.result) ∷ [])) (sym c.rank_after.ensures)
    (page_pushed start (rank_of c.args.from) limit (c.args.key, c.from_vec.result) c.args.page.now.items low later room form))
