-- The key that the closure answers is the event's order.
use Rattle.std.proofs.Common.{rules}
use Rattle.std.proofs.lemmas.List.Sorted.{IsNonDecreasingBy-from_sort, answers_always}
use Rattle.sg_base.specs.Event.{EventValue}
use Rattle.sg_layer.proofs.OrderLemmas.{sorted_is}
use Rattle.sg_layer.proofs.kind.sort.Goals as goal

pub returns : goal.returns
returns c =
    let key = λ (e : EventValue). e.order in
    let sort = c.in_ok-sort_by_key.ensures in
    let es = c.sort_by_key.new.self.items in
    sorted_is c.args.events.now.items es sort.permutation
    (IsNonDecreasingBy-from_sort key es (sort.sorted key (answers_always _ _ _ (λ f a r q h. search rules))))
    (sort.stable key (answers_always _ _ _ (λ f a r q h. search rules)))
