use Rattle.std.proofs.Common.{◌≡◌, drop}
use Rattle.sg_calendar.specs.Windows.{exception_of}
use Rattle.sg_calendar.proofs.windows.weekday_exception.Given as goal

abbrev pub invariant-loop-day : goal.invariant-loop-day
invariant-loop-day l = exception_of (drop l.day-index l.exceptions) l.weekday ≡ exception_of l.exceptions l.weekday
