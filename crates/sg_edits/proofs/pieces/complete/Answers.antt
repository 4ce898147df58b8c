use Rattle.std.proofs.Common.{◌∙◌, ap}
use Rattle.sg_keeper.specs.Changes.{applied}
use Rattle.sg_edits.proofs.pieces.complete.Goals as goal

pub returns-clause-rows : goal.returns-clause-rows
returns-clause-rows g c told =
    let rows = (g.K.Keeper.view c.args.keeper.now).rows in
    c.in_ok-make_changes.ensures.rows told ∙ (ap (λ cs. applied cs rows) c.as_slice.ensures.value ∙ c.in_ok-changes.ensures rows)
