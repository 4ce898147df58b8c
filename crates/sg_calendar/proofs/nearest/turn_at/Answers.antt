use Rattle.std.proofs.Common.{◌-◌, arith}
use Rattle.std.proofs.Math.Nat.{div-le_self}
use Rattle.sg_calendar.proofs.DateLemmas.{period_bound}
use Rattle.sg_calendar.proofs.nearest.turn_at.Goals as goal

pub returns-clause-few : goal.returns-clause-few
returns-clause-few c =
    omega (arith, div-le_self (c.period.result - c.period-2.result) c.every.result, period_bound c.unit.result c.args.day (omega arith), c.period.ensures)
