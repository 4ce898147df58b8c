use Rattle.std.proofs.Common.{◌∙◌, ◌∷◌, [], ap}
use Rattle.sg_edits.specs.Media.{kept_of}
use Rattle.sg_edits.specs.Pieces.{with_medium_row}
use Rattle.sg_keeper.specs.Changes.{applied}
use Rattle.sg_steps.specs.Calls.{without_pieces}
use Rattle.sg_steps.proofs.ChangeLemmas.{applied_append}
use Rattle.sg_edits.proofs.piece_changes.drop_changes.Goals as goal

pub returns : goal.returns
returns c rows =
    let media = c.args.later.media.0 in
    ap (λ cs. applied cs rows) c.in_ok-push.ensures.items
    ∙ (applied_append c.drop_pieces.new.changes.items (c.in_ok-keep_medium.field-0 ∷ []) rows
    ∙ (c.in_ok-keep_medium.ensures (applied c.drop_pieces.new.changes.items rows)
    ∙ ap (with_medium_row c.args.later.media (kept_of c.args.later))
    (c.in_ok-drop_pieces.ensures rows
    ∙ (ap (λ cs. without_pieces media c.pieces_of.result (applied cs rows)) c.new-changes.ensures.items
    ∙ ap (λ n. without_pieces media n rows) c.pieces_of.ensures))))
