use Rattle.std.proofs.Common.{◌∙◌, ap}
use Rattle.std.specs.Prelude.{Some}
use Rattle.sg_base.specs.declared.kind.Kind.TheVariants as kind
use Rattle.sg_keeper.specs.Changes.{with_row}
use Rattle.sg_tables.specs.Rows.{at, number_at}
use Rattle.sg_edits.proofs.piece_changes.keep_medium.Goals as goal

pub returns : goal.returns
returns c rows =
    ap (λ k. with_row k (Some c.in_ok-write_medium.field-0) rows) c.key.ensures
    ∙ ap (λ b. with_row (number_at (at kind.Media c.args.medium.media.0)) (Some b) rows) c.in_ok-write_medium.ensures
