use Rattle.std.proofs.Common.{◌≤◌}
use Rattle.sg_calendar.proofs.DateLemmas.{IsSeenDown}
use Rattle.sg_calendar.proofs.periods.latest_in_week.Given as goal

abbrev pub invariant-loop-weekday : goal.invariant-loop-weekday
invariant-loop-weekday l = IsSeenDown l.days l.base l.last l.week l.weekday × (l.weekday ≤ 7)

abbrev pub decreases-loop-weekday : goal.decreases-loop-weekday
decreases-loop-weekday l = l.weekday
