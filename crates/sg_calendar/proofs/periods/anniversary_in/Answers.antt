use Rattle.std.proofs.Common.{arith}
use Rattle.sg_calendar.specs.declared.civil.TheConstants.{LAST_ASKED}
use Rattle.sg_calendar.proofs.CivilLemmas.{civil-year}
use Rattle.sg_calendar.proofs.DateLemmas.{only_day_of_year}
use Rattle.sg_calendar.proofs.periods.anniversary_in.Goals as goal

pub day_of-requires-clause-high : goal.day_of-requires-clause-high
day_of-requires-clause-high c = omega (arith, civil-year LAST_ASKED (omega arith), c.requires.within)

pub returns : goal.returns
returns c =
    only_day_of_year c.args.base c.args.year c.requires.from _ (rw c.civil_of-from.ensures.value at c.day_of.ensures.value)
