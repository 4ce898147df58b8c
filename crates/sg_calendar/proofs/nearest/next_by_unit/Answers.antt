use Rattle.std.proofs.Common.{arith}
use Rattle.sg_calendar.specs.declared.civil.TheConstants.{LAST_ASKED}
use Rattle.sg_calendar.specs.Dates.{is_unit_date}
use Rattle.sg_calendar.specs.Turns.{turn_of, is_in_turn}
use Rattle.sg_calendar.proofs.DateLemmas.{turns}
use Rattle.sg_calendar.proofs.NearestLemmas.{up_begins, up_finds, up_goes, up_ends}
use Rattle.sg_calendar.proofs.nearest.next_by_unit.Goals as goal

pub loop-turn-init : goal.loop-turn-init
loop-turn-init c =
    let a = c.args in
    let r = a.repeat.now in
    up_begins (is_unit_date r.unit r.every r.days a.base) (turn_of r a.base) (is_in_turn r a.base) (turns r a.base c.turn_at-turn.ensures.some) a.first LAST_ASKED _ c.turn_at-turn.ensures.value

pub returns-in-Some : goal.returns-in-Some
returns-in-Some c =
    let a = c.args in
    let r = a.repeat.now in
    up_finds (is_unit_date r.unit r.every r.days a.base) (turn_of r a.base) (is_in_turn r a.base) (turns r a.base c.turn_at-turn.ensures.some) a.first LAST_ASKED c.loop-turn.turn c.in-Some.day c.loop-turn.invariant c.in-Some.ensures

pub loop-turn-preserved : goal.loop-turn-preserved
loop-turn-preserved c =
    let a = c.args in
    let r = a.repeat.now in
    up_goes (is_unit_date r.unit r.every r.days a.base) (turn_of r a.base) (is_in_turn r a.base) (turns r a.base c.turn_at-turn.ensures.some) a.first LAST_ASKED c.loop-turn.turn c.loop-turn.invariant c.in-None.ensures

pub returns : goal.returns
returns c =
    let a = c.args in
    let r = a.repeat.now in
    up_ends (is_unit_date r.unit r.every r.days a.base) (turn_of r a.base) (is_in_turn r a.base) (turns r a.base c.turn_at-turn.ensures.some) a.first LAST_ASKED c.loop-turn.turn (omega (arith, c.turn_at-turn-end.ensures.value)) c.loop-turn.invariant
