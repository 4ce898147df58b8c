use Rattle.std.proofs.Common.{◌≡◌, pos, to_z, of_z, w64, arith}
use Rattle.jiff_core.proofs.SignedLemmas.{signed_arith, signed_casts}
use Rattle.sg_calendar.proofs.DateLemmas.{date_after, no_date_after}
use Rattle.sg_calendar.proofs.dates.next_date.Goals as goal

pub overflow_cast-first_after : goal.overflow_cast-first_after
overflow_cast-first_after c = omega (arith, c.first_after.ensures.least 47486 (omega (arith, signed_arith)))

pub returns-in-Some : goal.returns-in-Some
returns-in-Some c =
    let day = c.in-Some.day in
    let same : to_z w64 day ≡ pos day = omega (arith, signed_casts) in
    let date : to_z w64 (of_z w64 c.args.date) ≡ c.args.date = omega (arith, signed_casts) in
    let first = c.first_after.ensures in
    rw (← c.in-Named.ensures.value, same) (date_after c.in-Named.daypart c.in-Named.base c.args.event.now.repeat c.args.date c.first_after.result (rw date at first.above) (rw date at first.least) day (rw c.repeat.ensures.value at c.in-Some.ensures))

pub returns-in-None : goal.returns-in-None
returns-in-None c =
    let date : to_z w64 (of_z w64 c.args.date) ≡ c.args.date = omega (arith, signed_casts) in
    let first = c.first_after.ensures in
    rw (← c.in-Named.ensures.value) (no_date_after c.in-Named.daypart c.in-Named.base c.args.event.now.repeat c.args.date c.first_after.result (rw date at first.above) (rw date at first.least) (rw c.repeat.ensures.value at c.in-None.ensures))
