use Rattle.std.proofs.Common.{ltb, sym, ap, ◌∙◌, subst, rules}
use Rattle.std.proofs.lemmas.List.Sorted.{IsPartitionPoint-from_clause, IsPartitionedBy-ltb}
use Rattle.sg_base.specs.Ranks.{rank_of}
use Rattle.sg_base.specs.Rising.{IsFirstFrom}
use Rattle.sg_base.proofs.RisingLemmas.{rising_non_decreasing, first_from_point}
use Rattle.sg_base.proofs.sorted.Sorted.first_from.Goals as goal

pub returns-clause-index : goal.returns-clause-index
returns-clause-index g c =
    let rank = g.T.Ranked.rank in
    let k = rank_of c.args.rank in
    let i = c.partition_point.result in
    let items = c.self.inside.items.items in
    let listed = c.deref.ensures.value in
    let here = ap (λ v. v.items) c.self.view_is in
    let bound = c.partition_point.ensures.bound in
    let rises = subst (λ xs. Rattle.std.specs.List.Sorted.IsNonDecreasingBy rank xs) (sym listed) (rising_non_decreasing rank items c.self.invariant) in
    let point = IsPartitionPoint-from_clause (λ x. ltb (rank x) k) c.deref.result.now i c.partition_point.ensures.partitioned (IsPartitionedBy-ltb rank c.deref.result.now k rises) (λ a r f' q. search rules) in
    subst (λ xs. IsFirstFrom rank k xs i) (listed ∙ here) (first_from_point rank k c.deref.result.now i bound point)
