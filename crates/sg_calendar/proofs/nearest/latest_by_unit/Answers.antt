use Rattle.std.proofs.Common.{arith}
use Rattle.sg_calendar.specs.declared.civil.TheConstants.{LAST_ASKED}
use Rattle.sg_calendar.specs.Dates.{is_unit_date}
use Rattle.sg_calendar.specs.Turns.{turn_of, is_in_turn}
use Rattle.sg_calendar.proofs.DateLemmas.{turns}
use Rattle.sg_calendar.proofs.NearestLemmas.{down_begins, down_finds, down_goes}
use Rattle.sg_calendar.proofs.nearest.latest_by_unit.Goals as goal

pub loop-left-init : goal.loop-left-init
loop-left-init c =
    let a = c.args in
    let r = a.repeat.now in
    let t = turns r a.base c.turn_at-left.ensures.some in (
      down_begins (is_unit_date r.unit r.every r.days a.base) (turn_of r a.base) (is_in_turn r a.base) t a.last _ c.turn_at-left.ensures.value,
      omega (arith, c.turn_at-left.ensures.value, t.rises a.last LAST_ASKED c.requires.high),
    )

pub returns-in-Some : goal.returns-in-Some
returns-in-Some c =
    let a = c.args in
    let r = a.repeat.now in
    down_finds (is_unit_date r.unit r.every r.days a.base) (turn_of r a.base) (is_in_turn r a.base) (turns r a.base c.turn_at-left.ensures.some) a.last c.loop-left.left c.in-Some.day c.loop-left-test.true c.loop-left.invariant.0 c.in-Some.ensures

pub loop-left-preserved : goal.loop-left-preserved
loop-left-preserved c =
    let a = c.args in
    let r = a.repeat.now in (
      down_goes (is_unit_date r.unit r.every r.days a.base) (turn_of r a.base) (is_in_turn r a.base) (turns r a.base c.turn_at-left.ensures.some) a.last c.loop-left.left c.loop-left-test.true c.loop-left.invariant.0 c.in-None.ensures,
      omega (arith, c.loop-left.invariant.1),
    )
