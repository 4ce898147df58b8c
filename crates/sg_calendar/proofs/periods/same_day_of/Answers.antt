use Rattle.std.proofs.Common.{arith}
use Rattle.sg_calendar.specs.declared.civil.TheConstants.{LAST_ASKED}
use Rattle.sg_calendar.proofs.DateLemmas.{month_low, month_bound, only_day_of_month}
use Rattle.sg_calendar.proofs.periods.same_day_of.Goals as goal

pub month_day-requires-clause-low : goal.month_day-requires-clause-low
month_day-requires-clause-low c = omega (arith, month_low c.args.base, c.requires.from)

pub month_day-requires-clause-high : goal.month_day-requires-clause-high
month_day-requires-clause-high c = omega (arith, month_bound LAST_ASKED (omega arith), c.requires.within)

pub returns : goal.returns
returns c =
    only_day_of_month c.args.base c.args.month c.requires.from _ (rw c.civil_of.ensures.value at c.month_day.ensures.value)
