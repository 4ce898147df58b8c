use Rattle.std.proofs.Common.{◌≡◌, ◌-◌, ◌≤◌, ◌<◌, take, drop, ap, sym, ◌∙◌, subst}
use Rattle.std.specs.List.{AllByRecursion}
use Rattle.sg_base.specs.Ranks.{rank_of}
use Rattle.sg_base.specs.Rising.{IsRising, found}
use Rattle.sg_base.proofs.RisingLemmas.{first_in_order, within_between, found-between, rising-take, rising-drop}
use Rattle.sg_base.proofs.sorted.Sorted.between.Goals as goal

pub overflow_sub-to : goal.overflow_sub-to
overflow_sub-to g c = first_in_order g.T.Ranked.rank _ _ _ _ _ c.first_from-from.ensures.index c.first_from-to.ensures.index c.requires

pub returns-clause-within : goal.returns-clause-within
returns-clause-within g c =
    let rank = g.T.Ranked.rank in
    let from = c.first_from-from.result in
    let to = c.first_from-to.result in
    let here = ap (λ v. v.items) c.self.view_is in
    let is = c.split_at-2.ensures.front ∙ ap (λ xs. take (to - from) xs) (c.split_at.ensures.back ∙ ap (λ xs. drop from xs) (c.as_slice.ensures.value ∙ here)) in
    let le = first_in_order rank _ _ _ from to c.first_from-from.ensures.index c.first_from-to.ensures.index c.requires in
    subst (λ xs. AllByRecursion (λ x. (rank_of c.args.start ≤ rank x) × (rank x < rank_of c.args.end)) xs) (sym is)
    (within_between rank _ _ _ from to c.first_from-from.ensures.index c.first_from-to.ensures.index le)

pub returns-clause-all : goal.returns-clause-all
returns-clause-all g c = λ k low high.
    let rank = g.T.Ranked.rank in
    let from = c.first_from-from.result in
    let to = c.first_from-to.result in
    let here = ap (λ v. v.items) c.self.view_is in
    let is = c.split_at-2.ensures.front ∙ ap (λ xs. take (to - from) xs) (c.split_at.ensures.back ∙ ap (λ xs. drop from xs) (c.as_slice.ensures.value ∙ here)) in
    let le = first_in_order rank _ _ _ from to c.first_from-from.ensures.index c.first_from-to.ensures.index c.requires in
    ap (λ xs. found rank k xs) is ∙ found-between rank _ _ k _ from to c.first_from-from.ensures.index c.first_from-to.ensures.index le low high

pub returns-clause-rising : goal.returns-clause-rising
returns-clause-rising g c =
    let rank = g.T.Ranked.rank in
    let from = c.first_from-from.result in
    let to = c.first_from-to.result in
    let here = ap (λ v. v.items) c.self.view_is in
    let is = c.split_at-2.ensures.front ∙ ap (λ xs. take (to - from) xs) (c.split_at.ensures.back ∙ ap (λ xs. drop from xs) (c.as_slice.ensures.value ∙ here)) in
    subst (λ xs. IsRising rank xs) (sym is) (rising-take rank _ (to - from) (rising-drop rank _ from c.first_from-from.ensures.rising))
