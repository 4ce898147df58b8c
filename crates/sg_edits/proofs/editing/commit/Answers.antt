use Rattle.std.proofs.Common.{◌∙◌, ◌∷◌, [], ap}
use Rattle.sg_edits.specs.Edited.{with_client}
use Rattle.sg_keeper.specs.Changes.{applied, changed}
use Rattle.sg_steps.proofs.ChangeLemmas.{applied_append}
use Rattle.sg_tables.specs.Tables.{change_of}
use Rattle.sg_edits.proofs.editing.commit.Goals as goal

pub returns-clause-rows : goal.returns-clause-rows
returns-clause-rows g c told =
    let rows = (g.K.Keeper.view c.args.keeper.now).rows in
    let made = c.in_ok-changes.changes.items in
    c.in_ok-make.ensures.rows told
    ∙ (ap (λ cs. applied cs rows) (c.as_slice.ensures.value ∙ c.in_ok-push.ensures.items)
    ∙ (applied_append made (c.in_ok-keep.field-0 ∷ []) rows
    ∙ (ap (λ x. changed x (applied made rows)) c.in_ok-keep.ensures
    ∙ ap (with_client c.args.known) (c.in_ok-changes.ensures (change_of c.args.prepared) rows c.requires.asked))))
