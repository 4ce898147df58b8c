use Rattle.std.proofs.Common.{◌≡◌, ◌∙◌, ◌+◌, ◌<◌, ◌≤◌, ℕ, ap, subst}
use Rattle.std.specs.List.{AllByRecursion}
use Rattle.sg_base.specs.declared.key.Key.{Key}
use Rattle.sg_base.specs.Keys.{number, number_of}
use Rattle.sg_base.specs.Ranks.{rank_of}
use Rattle.sg_base.specs.Rising.{found}
use Rattle.sg_records.specs.declared.epoch.Epoch.{Epoch}
use Rattle.sg_records.specs.Numbers.{epoch_number}
use Rattle.sg_tables.proofs.BetweenLemmas.{between_filter}
use Rattle.sg_steps.specs.Epochs.{is_after}
use Rattle.sg_steps.proofs.EpochLemmas.{decides_after}
use Rattle.sg_steps.proofs.epochs.epochs_after.Goals as goal

pub returns : goal.returns
returns c =
    let start : rank_of c.rank_after-start.result ≡ number 9 c.args.display c.args.epoch + 1 = c.rank_after-start.ensures ∙ ap (λ (k : Key). number_of k + 1) c.key.ensures in
    let end : rank_of c.rank_after_kind.result ≡ number 10 0 0 = c.rank_after_kind.ensures in
    let within = subst (λ b. AllByRecursion (λ (e : Epoch). (number 9 c.args.display c.args.epoch + 1 ≤ epoch_number e) × (epoch_number e < b)) c.between.result.now) end
    (subst (λ a. AllByRecursion (λ (e : Epoch). (a ≤ epoch_number e) × (epoch_number e < rank_of c.rank_after_kind.result)) c.between.result.now) start c.between.ensures.within) in
    let all = subst (λ b. (n : ℕ) → number 9 c.args.display c.args.epoch + 1 ≤ n → n < b → found epoch_number n c.between.result.now ≡ found epoch_number n c.args.epochs.now.items) end
    (subst (λ a. (n : ℕ) → a ≤ n → n < rank_of c.rank_after_kind.result → found epoch_number n c.between.result.now ≡ found epoch_number n c.args.epochs.now.items) start c.between.ensures.all) in
    between_filter epoch_number (is_after c.args.display c.args.epoch) (number 9 c.args.display c.args.epoch + 1) (number 10 0 0) c.between.result.now c.args.epochs.now.items
    c.between.ensures.rising within all c.requires.rising (decides_after c.args.display c.args.epoch c.args.epochs.now.items c.requires.numbered)
