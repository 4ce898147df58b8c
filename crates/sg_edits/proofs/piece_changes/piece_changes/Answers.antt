use Rattle.std.proofs.Common.{◌≡◌, ◌∙◌, ◌∷◌, ◌++◌, [], ap}
use Rattle.std.specs.Prelude.{Some}
use Rattle.sg_edits.specs.Media.{kept_of}
use Rattle.sg_edits.specs.Pieces.{with_medium_row}
use Rattle.sg_keeper.specs.declared.keeper.Change.TheVariants as change
use Rattle.sg_keeper.specs.Changes.{applied, with_row}
use Rattle.sg_records.specs.Numbers.{piece_number}
use Rattle.sg_steps.proofs.ChangeLemmas.{applied_append}
use Rattle.sg_edits.proofs.piece_changes.piece_changes.Goals as goal

pub returns : goal.returns
returns c rows =
    let put = change.Put c.piece_key.result c.from_vec-piece.result in
    let first : applied c.push.new.self.items rows ≡ with_row (piece_number c.args.later.media.0 c.args.index) (Some c.args.bytes.now) rows =
    ap (λ cs. applied cs rows) (c.in_ok-push.ensures.items ∙ ap (λ cs. cs ++ put ∷ []) c.new-changes.ensures.items)
    ∙ (ap (λ k. with_row k (Some c.from_vec-piece.result) rows) c.piece_key.ensures
    ∙ ap (λ b. with_row (piece_number c.args.later.media.0 c.args.index) (Some b) rows) (c.from_vec-piece.ensures ∙ c.in_ok-from_slice.ensures.items)) in
    ap (λ cs. applied cs rows) c.in_ok-push-2.ensures.items
    ∙ (applied_append c.push.new.self.items (c.in_ok-keep_medium.field-0 ∷ []) rows
    ∙ (c.in_ok-keep_medium.ensures (applied c.push.new.self.items rows)
    ∙ ap (with_medium_row c.args.later.media (kept_of c.args.later)) first))
