use Rattle.sg_calendar.proofs.DateLemmas.{month_day_is}
use Rattle.sg_calendar.proofs.periods.month_day.Goals as goal

pub returns-clause-value : goal.returns-clause-value
returns-clause-value c = month_day_is c.args.month c.args.day c.requires.low c.day_of.result c.day_of.ensures.value
