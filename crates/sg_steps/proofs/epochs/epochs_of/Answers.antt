use Rattle.std.proofs.Common.{◌≡◌, ◌∙◌, ◌+◌, ◌<◌, ◌≤◌, ℕ, ap, subst}
use Rattle.std.specs.List.{AllByRecursion}
use Rattle.sg_base.specs.declared.key.Key.{Key}
use Rattle.sg_base.specs.Keys.{number, number_of}
use Rattle.sg_base.specs.Ranks.{rank_of}
use Rattle.sg_base.specs.Rising.{found}
use Rattle.sg_records.specs.declared.epoch.Epoch.{Epoch}
use Rattle.sg_records.specs.Numbers.{epoch_number}
use Rattle.sg_tables.proofs.BetweenLemmas.{between_filter}
use Rattle.sg_steps.specs.Epochs.{is_of}
use Rattle.sg_steps.proofs.EpochLemmas.{decides_of}
use Rattle.sg_steps.proofs.epochs.epochs_of.Goals as goal

pub returns-clause-value : goal.returns-clause-value
returns-clause-value c =
    let start : rank_of c.rank-first.result ≡ number 9 c.args.display 0 = c.rank-first.ensures ∙ ap number_of c.key.ensures in
    let end : rank_of c.rank_after-last.result ≡ number 9 c.args.display 4294967295 + 1 = c.rank_after-last.ensures ∙ ap (λ (k : Key). number_of k + 1) c.key-2.ensures in
    let within = subst (λ b. AllByRecursion (λ (e : Epoch). (number 9 c.args.display 0 ≤ epoch_number e) × (epoch_number e < b)) c.between.result.now) end
    (subst (λ a. AllByRecursion (λ (e : Epoch). (a ≤ epoch_number e) × (epoch_number e < rank_of c.rank_after-last.result)) c.between.result.now) start c.between.ensures.within) in
    let all = subst (λ b. (n : ℕ) → number 9 c.args.display 0 ≤ n → n < b → found epoch_number n c.between.result.now ≡ found epoch_number n c.args.epochs.now.items) end
    (subst (λ a. (n : ℕ) → a ≤ n → n < rank_of c.rank_after-last.result → found epoch_number n c.between.result.now ≡ found epoch_number n c.args.epochs.now.items) start c.between.ensures.all) in
    between_filter epoch_number (is_of c.args.display) (number 9 c.args.display 0) (number 9 c.args.display 4294967295 + 1) c.between.result.now c.args.epochs.now.items
    c.between.ensures.rising within all c.requires.rising (decides_of c.args.display c.args.epochs.now.items c.requires.numbered)
