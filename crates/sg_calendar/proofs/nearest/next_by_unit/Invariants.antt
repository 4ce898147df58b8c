use Rattle.sg_calendar.specs.declared.civil.TheConstants.{LAST_ASKED}
use Rattle.sg_calendar.specs.Dates.{is_unit_date}
use Rattle.sg_calendar.specs.Turns.{turn_of}
use Rattle.sg_calendar.proofs.NearestLemmas.{IsAfter}
use Rattle.sg_calendar.proofs.nearest.next_by_unit.Given as goal

abbrev pub invariant-loop-turn : goal.invariant-loop-turn
invariant-loop-turn l =
    let r = l.repeat in
    IsAfter (is_unit_date r.unit r.every r.days l.base) (turn_of r l.base) l.first LAST_ASKED l.turn
