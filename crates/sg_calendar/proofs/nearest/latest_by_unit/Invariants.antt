use Rattle.std.proofs.Common.{◌+◌, ◌≤◌}
use Rattle.sg_calendar.specs.declared.civil.TheConstants.{LAST_ASKED}
use Rattle.sg_calendar.specs.Dates.{is_unit_date}
use Rattle.sg_calendar.specs.Turns.{turn_of}
use Rattle.sg_calendar.proofs.NearestLemmas.{IsBefore}
use Rattle.sg_calendar.proofs.nearest.latest_by_unit.Given as goal

abbrev pub invariant-loop-left : goal.invariant-loop-left
invariant-loop-left l =
    let r = l.repeat in
    IsBefore (is_unit_date r.unit r.every r.days l.base) (turn_of r l.base) l.last l.left × (l.left ≤ turn_of r l.base LAST_ASKED + 1)

abbrev pub decreases-loop-left : goal.decreases-loop-left
decreases-loop-left l = l.left
