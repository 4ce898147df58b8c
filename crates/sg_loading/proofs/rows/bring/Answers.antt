use Rattle.std.proofs.Common.{◌≡◌, ◌∙◌, ap, sym}
use Rattle.sg_loading.proofs.MediumLemmas.{part_put, whole_put}
use Rattle.sg_tables.specs.Tables.{holding, with_medium}
use Rattle.sg_loading.proofs.rows.bring.Goals as goal

pub returns-then-is_complete : goal.returns-then-is_complete
returns-then-is_complete c rows none put_is =
    c.complete.ensures
    ∙ whole_put c.args.saved.now c.in-Media.file rows c.args.tables.now.rows c.requires.saved (sym c.row.ensures ∙ c.in-Media.is) (sym c.is_complete.ensures ∙ c.if-is_complete.true) none put_is

pub returns-else-is_complete : goal.returns-else-is_complete
returns-else-is_complete c rows none put_is =
    c.receive.ensures
    ∙ (ap (λ n. with_medium (holding n) c.in-Media.file.media c.args.tables.now.rows) c.received.ensures
    ∙ part_put c.args.saved.now c.in-Media.file rows c.args.tables.now.rows (sym c.row.ensures ∙ c.in-Media.is) (sym c.is_complete.ensures ∙ c.if-is_complete.false) none put_is)
