use Rattle.std.proofs.Common.{◌∙◌, ◌+◌, ◌∷◌, [], ap}
use Rattle.std.specs.Prelude.{Some}
use Rattle.sg_steps.specs.Calls.{with_plays_from}
use Rattle.sg_steps.proofs.ChangeLemmas.{applied_append}
use Rattle.sg_keeper.specs.Changes.{applied, changed, with_row}
use Rattle.sg_records.specs.Numbers.{epoch_bytes, epoch_number}
use Rattle.sg_steps.proofs.playing.plays_changes.Goals as goal

pub returns : goal.returns
returns c rows =
    ap (λ cs. applied cs rows) c.in_ok-push.ensures.items
    ∙ (applied_append c.put_plays.new.changes.items (c.in_ok-keep_epoch.field-0 ∷ []) rows
    ∙ (ap (λ x. changed x (applied c.put_plays.new.changes.items rows)) c.in_ok-keep_epoch.ensures
    ∙ ap (with_row (epoch_number c.args.later) (Some (epoch_bytes c.args.later)))
    (c.in_ok-put_plays.ensures rows
    ∙ (ap (λ cs. with_plays_from c.args.known.display c.args.known.epoch (c.from.result + 1) c.args.new.now (applied cs rows)) c.new-changes.ensures.items
    ∙ ap (λ n. with_plays_from c.args.known.display c.args.known.epoch (n + 1) c.args.new.now rows) c.from.ensures))))
