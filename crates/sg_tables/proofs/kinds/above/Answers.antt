use Rattle.std.proofs.Common.{◌≡◌, ℕ, ◌+◌, ◌<◌, ◌≤◌, ap, ◌∙◌, subst}
use Rattle.std.specs.List.{AllByRecursion}
use Rattle.sg_base.specs.Keys.{number}
use Rattle.sg_base.specs.Ranks.{rank_of}
use Rattle.sg_base.specs.Rising.{found}
use Rattle.sg_tables.specs.Entries.{Kept, number_of_kept}
use Rattle.sg_tables.specs.Rows.{code_of}
use Rattle.sg_tables.specs.Tables.{is_above}
use Rattle.sg_tables.proofs.BetweenLemmas.{between_filter}
use Rattle.sg_tables.proofs.KindLemmas.{decides_above}
use Rattle.sg_tables.proofs.kinds.above.Goals as goal

pub returns : goal.returns
returns c =
    let rows = c.args.entries.now.items in
    let some = c.between.result.now in
    let low = number (code_of c.args.kind) c.args.id 0 + 1 in
    let high = number (code_of c.args.kind + 1) 0 0 in
    let start : rank_of c.rank_after-start.result ≡ low = c.rank_after-start.ensures ∙ ap (λ n. n + 1) c.key.ensures in
    let end : rank_of c.rank_after_kind.result ≡ high = c.rank_after_kind.ensures ∙ ap (λ k. number (k + 1) 0 0) c.code.ensures in
    let within = subst (λ b. AllByRecursion (λ (e : Kept). (low ≤ number_of_kept e) × (number_of_kept e < b)) some) end
    (subst (λ a. AllByRecursion (λ (e : Kept). (a ≤ number_of_kept e) × (number_of_kept e < rank_of c.rank_after_kind.result)) some) start c.between.ensures.within) in
    let all = subst (λ b. (n : ℕ) → low ≤ n → n < b → found number_of_kept n some ≡ found number_of_kept n rows) end
    (subst (λ a. (n : ℕ) → a ≤ n → n < rank_of c.rank_after_kind.result → found number_of_kept n some ≡ found number_of_kept n rows) start c.between.ensures.all) in
    between_filter number_of_kept (is_above c.args.kind c.args.id) low high some rows c.between.ensures.rising within all c.requires.rising (decides_above c.args.kind c.args.id rows c.ranges.id.fits c.requires.bounded)
