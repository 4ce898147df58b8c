use Rattle.sg_calendar.specs.declared.civil.TheConstants.{LAST_ASKED}
use Rattle.sg_calendar.proofs.DateLemmas.{IsSeenUp}
use Rattle.sg_calendar.proofs.periods.next_in_week.Given as goal

abbrev pub invariant-loop-weekday : goal.invariant-loop-weekday
invariant-loop-weekday l = IsSeenUp l.days l.base l.first LAST_ASKED l.week l.weekday
