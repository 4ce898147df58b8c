-- Both lists in order make a daypart, and there is one such order of each.
use Rattle.std.proofs.Common.{◌≡◌, None, sym, ◌∙◌}
use Rattle.sg_base.specs.Daypart.{daypart_fault, IsDaypart}
use Rattle.sg_base.proofs.DaypartLemmas.{daypart_ordered, order_is_one}
use Rattle.sg_base.proofs.daypart.Daypart.new.Goals as goal

pub invariant_of-result : goal.invariant_of-result
invariant_of-result c =
    let sound : daypart_fault c.args.window c.args.exceptions.items c.args.dates.items ≡ None = rw (← c.as_slice.ensures.value, ← c.as_slice-2.ensures.value) (sym c.fault_of.ensures ∙ c.in-None.is) in
    rw (c.from_vec.ensures, c.from_vec-in-None.ensures)
    (daypart_ordered c.args.id c.args.window c.args.exceptions.items c.order.new.windows.items c.args.dates.items c.order-in-None.new.windows.items sound c.order.ensures.same c.order.ensures.rising c.order-in-None.ensures.same c.order-in-None.ensures.rising)

pub returns-in-None-clause-one_order : goal.returns-in-None-clause-one_order
returns-in-None-clause-one_order c = λ es moved up.
    let made : IsDaypart _ = invariant_of-result c in
    rw c.from_vec.ensures (order_is_one c.args.exceptions.items c.order.new.windows.items es c.order.ensures.same moved (rw c.from_vec.ensures at made.ordered) up)

pub returns-in-None-clause-one_order_of_dates : goal.returns-in-None-clause-one_order_of_dates
returns-in-None-clause-one_order_of_dates c = λ ds moved up.
    let made : IsDaypart _ = invariant_of-result c in
    rw c.from_vec-in-None.ensures (order_is_one c.args.dates.items c.order-in-None.new.windows.items ds c.order-in-None.ensures.same moved (rw c.from_vec-in-None.ensures at made.dates_ordered) up)
