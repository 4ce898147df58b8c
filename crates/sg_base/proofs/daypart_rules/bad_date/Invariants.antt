use Rattle.std.proofs.Common.{◌≡◌, drop}
use Rattle.sg_base.specs.Faults.{first_in}
use Rattle.sg_base.specs.Daypart.{date_fault}
use Rattle.sg_base.proofs.daypart_rules.bad_date.Given as goal

abbrev pub invariant-loop-date : goal.invariant-loop-date
invariant-loop-date l = first_in date_fault (drop l.date-index l.dates) ≡ first_in date_fault l.dates
