use Rattle.std.proofs.Common.{◌-◌, ◌≤◌, length, List, slice_index_or, nat_le, subst, ap, sym, ◌∙◌, rules}
use Rattle.std.specs.List.Sorted.{IsNonDecreasingBy}
use Rattle.std.proofs.lemmas.List.Sorted.{IsPartitionPoint-from_clause, IsPartitionedBy-leb}
use Rattle.sg_voice.specs.declared.play.Slot.{Slot}
use Rattle.sg_voice.proofs.PlaceLemmas.{SplitsAt, places_rise, split_some, found, only_one}
use Rattle.sg_voice.proofs.hour.slot_at.Goals as goal
use Rattle.sg_voice.proofs.hour.slot_at.Goals.{After-partition_point-later}

-- what the search answers, since the slots stand by their places
splits : (c : After-partition_point-later) → SplitsAt c.args.p c.args.from.now c.partition_point-later.result
splits c =
    let same = c.deref.ensures.value ∙ c.from.view_is in
    let i = c.partition_point-later.result in
    let rise = subst (λ (ss : List Slot). IsNonDecreasingBy (λ s. s.place) ss) (sym same) (places_rise c.args.from.now c.requires.built) in
    let point = IsPartitionPoint-from_clause (λ (s : Slot). nat_le s.place c.args.p) c.deref.result.now i c.partition_point-later.ensures.partitioned (IsPartitionedBy-leb (λ s. s.place) c.deref.result.now c.args.p rise) (λ a r f' k. search rules) in
    subst (λ (ss : List Slot). SplitsAt c.args.p ss i) same point

pub overflow_sub-later : goal.overflow_sub-later
overflow_sub-later c = split_some c.args.p c.partition_point-later.result c.args.from.now c.requires.built (splits (goal.at.overflow_sub-later c).After-partition_point-later)

pub returns : goal.returns
returns c =
    let slots = c.args.from.now in
    let i = c.partition_point-later.result in
    let bound = subst (λ (ss : List Slot). i ≤ length ss) (c.deref.ensures.value ∙ c.from.view_is) c.partition_point-later.ensures.bound in
    let read = c.index.ensures ∙ ap (λ (ss : List Slot). slice_index_or ss (i - 1) c.index.result.now) c.from.view_is in
    let f = found c.args.p i slots c.index.result.now c.requires.built c.requires.hour bound (splits (goal.at.returns c).After-partition_point-later) read in
    record {
      value = f.value;
      begun = f.begun;
      lasts = f.lasts;
      one = f.one;
      only = λ s held begun lasts. only_one c.args.p slots s c.requires.built held begun lasts ∙ sym f.value;
    }
