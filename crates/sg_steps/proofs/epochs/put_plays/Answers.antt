use Rattle.std.proofs.Common.{◌≡◌, ◌∙◌, ◌+◌, ◌∷◌, [], ℕ, suc, List, drop, ap, sym, arith, add-one}
use Rattle.std.proofs.Math.Seq.{drop-cons}
use Rattle.std.specs.Prelude.{Some}
use Rattle.sg_steps.specs.Calls.{with_plays_from}
use Rattle.sg_steps.proofs.ChangeLemmas.{applied_append}
use Rattle.sg_keeper.specs.declared.keeper.Change.TheVariants as change
use Rattle.sg_keeper.specs.Changes.{applied, with_row}
use Rattle.sg_records.specs.Numbers.{play_bytes, play_number}
use Rattle.sg_steps.proofs.epochs.put_plays.Goals as goal

pub loop-play-preserved : goal.loop-play-preserved
loop-play-preserved c =
    let rest : drop c.loop-play.play-index c.args.plays.now ≡ c.play-item.result ∷ drop (c.loop-play.play-index + 1) c.args.plays.now =
    drop-cons c.args.plays.now c.loop-play.play-index c.play-item.result c.loop-play-test.true
    ∙ (ap (λ x. x ∷ drop (suc c.loop-play.play-index) c.args.plays.now) (sym c.play-item.is)
    ∙ ap (λ n. c.play-item.result ∷ drop n c.args.plays.now) (sym (add-one c.loop-play.play-index))) in (
      let inv = c.loop-play.invariant.0 in omega (arith, inv),
      λ rows.
          let one : applied c.push.new.self.items rows ≡ with_row (play_number c.args.of.display c.args.of.epoch c.loop-play.number) (Some (play_bytes c.play-item.result)) (applied c.loop-play.changes.items rows) =
          ap (λ cs. applied cs rows) c.in_ok-push.ensures.items
          ∙ (applied_append c.loop-play.changes.items (change.Put c.play_key.result c.in_ok-bytes.bytes ∷ []) rows
          ∙ (ap (λ k. with_row k (Some c.in_ok-bytes.bytes) (applied c.loop-play.changes.items rows)) c.play_key.ensures
          ∙ ap (λ b. with_row (play_number c.args.of.display c.args.of.epoch c.loop-play.number) (Some b) (applied c.loop-play.changes.items rows)) c.in_ok-bytes.ensures)) in
          ap (with_plays_from c.args.of.display c.args.of.epoch (c.loop-play.number + 1) (drop (c.loop-play.play-index + 1) c.args.plays.now)) one
          ∙ (sym (ap (λ l. with_plays_from c.args.of.display c.args.of.epoch c.loop-play.number l (applied c.loop-play.changes.items rows)) rest)
          ∙ c.loop-play.invariant.1 rows),
    )
