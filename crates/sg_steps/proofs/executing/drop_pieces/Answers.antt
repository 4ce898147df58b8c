use Rattle.std.proofs.Common.{◌∙◌, ◌∷◌, [], None, ap, sym, add-one}
use Rattle.sg_steps.specs.Calls.{without_pieces}
use Rattle.sg_steps.proofs.ChangeLemmas.{applied_append}
use Rattle.sg_keeper.specs.declared.keeper.Change.TheVariants as change
use Rattle.sg_keeper.specs.Changes.{applied, with_row}
use Rattle.sg_records.specs.Numbers.{piece_number}
use Rattle.sg_steps.proofs.executing.drop_pieces.Goals as goal

pub loop-index-preserved : goal.loop-index-preserved
loop-index-preserved c rows =
    ap (λ cs. applied cs rows) c.in_ok-push.ensures.items
    ∙ (applied_append c.loop-index.changes.items (change.Drop c.piece_key.result ∷ []) rows
    ∙ (ap (λ k. with_row k None (applied c.loop-index.changes.items rows)) c.piece_key.ensures
    ∙ (ap (with_row (piece_number c.args.media.0 c.loop-index.index) None) (c.loop-index.invariant rows)
    ∙ sym (ap (λ n. without_pieces c.args.media.0 n (applied c.args.changes.now.items rows)) (add-one c.loop-index.index)))))
