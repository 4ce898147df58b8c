use Rattle.std.proofs.Common.{◌≡◌, ◌∙◌, ap, sym, None}
use Rattle.sg_keeper.specs.Changes.{changed, with_row}
use Rattle.sg_keeper.specs.Map.{rows_in}
use Rattle.sg_keeper.proofs.MapLemmas.{rows_put, rows_without}
use Rattle.sg_keeper.proofs.map.make.Goals as goal

pub returns-in-Put-clause-rows : goal.returns-in-Put-clause-rows
returns-in-Put-clause-rows c =
    let old = rows_in c.args.entries.now.items in
    ap rows_in c.put.ensures.items ∙ (rows_put _ _ ∙ ap (λ d. changed d old) (sym c.in-Put.is))

pub returns-in-Drop-clause-rows : goal.returns-in-Drop-clause-rows
returns-in-Drop-clause-rows c =
    let old = rows_in c.args.entries.now.items in
    ap rows_in c.remove.ensures.items ∙ (rows_without _ _ ∙ (ap (λ k. with_row k None old) c.rank.ensures ∙ ap (λ d. changed d old) (sym c.in-Drop.is)))
