use Rattle.std.proofs.Common.{◌≡◌, drop}
use Rattle.sg_base.specs.Faults.{first_in}
use Rattle.sg_base.specs.Daypart.{weekday_fault}
use Rattle.sg_base.proofs.daypart_rules.bad_weekday.Given as goal

abbrev pub invariant-loop-exception : goal.invariant-loop-exception
invariant-loop-exception l = first_in weekday_fault (drop l.exception-index l.exceptions) ≡ first_in weekday_fault l.exceptions
