use Rattle.std.proofs.Common.{◌≡◌, drop}
use Rattle.sg_calendar.specs.Windows.{exception_of}
use Rattle.sg_calendar.proofs.windows.day_exception.Given as goal

abbrev pub invariant-loop-date : goal.invariant-loop-date
invariant-loop-date l = exception_of (drop l.date-index l.dates) l.day ≡ exception_of l.dates l.day
