-- The key that the closure answers is the row's, so the sort's order is that of the ids.
use Rattle.std.proofs.Common.{rules, ◌∙◌}
use Rattle.std.proofs.lemmas.List.Sorted.{IsNonDecreasingBy-from_sort, answers_always}
use Rattle.sg_manifest.proofs.OrderLemmas.{sorted_is}
use Rattle.sg_manifest.proofs.order.by_id.Goals as goal

pub returns : goal.returns
returns g c =
    let key = g.T.ManifestRow.key in
    let sort = c.sort_unstable_by_key in
    let up = IsNonDecreasingBy-from_sort key sort.new.self.items (sort.ensures.sorted key (answers_always _ _ _ (λ f a r q h. search rules))) in
    c.from_vec.ensures ∙ sorted_is key c.args.rows sort.new.self.items c.requires (rw c.into_vec-rows.ensures at sort.ensures.permutation) up
