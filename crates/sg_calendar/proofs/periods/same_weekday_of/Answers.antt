use Rattle.std.proofs.Common.{arith}
use Rattle.sg_calendar.specs.declared.civil.TheConstants.{LAST_ASKED}
use Rattle.sg_calendar.proofs.DateLemmas.{month_low, month_bound, only_weekday_of_month, no_weekday_of_month}
use Rattle.sg_calendar.proofs.periods.same_weekday_of.Goals as goal

pub month_day-requires-clause-low : goal.month_day-requires-clause-low
month_day-requires-clause-low c = omega (arith, month_low c.args.base, c.requires.from)

pub month_day-requires-clause-high : goal.month_day-requires-clause-high
month_day-requires-clause-high c = omega (arith, month_bound LAST_ASKED (omega arith), c.requires.within)

pub month_day-requires-2-clause-high : goal.month_day-requires-2-clause-high
month_day-requires-2-clause-high c = omega (arith, month_bound LAST_ASKED (omega arith), c.requires.within)

pub returns-then-day-gt31 : goal.returns-then-day-gt31
returns-then-day-gt31 c =
    let first = c.in_ok-first.ensures.value in
    no_weekday_of_month c.args.base c.args.month c.in_ok-first.first first.0 first.1 (rw (c.weekday_of.ensures.value, c.weekday_of-2.ensures.value, c.civil_of.ensures.value) at c.if-day-gt31.true)

pub returns : goal.returns
returns c =
    let first = c.in_ok-first.ensures.value in
    only_weekday_of_month c.args.base c.args.month c.in_ok-first.first first.0 first.1 c.requires.from _ (rw (c.weekday_of.ensures.value, c.weekday_of-2.ensures.value, c.civil_of.ensures.value) at c.month_day-2.ensures.value)
