use Rattle.std.proofs.Common.{◌≡◌, ◌-◌, filter, take}
use Rattle.sg_rows.proofs.DayLemmas.{is_chosen, week}
use Rattle.sg_rows.proofs.repeat.weekdays_of.Given as goal

abbrev pub invariant-loop-weekday : goal.invariant-loop-weekday
invariant-loop-weekday l = l.chosen.items ≡ filter (is_chosen l.days) (take (l.weekday - 1) week)
