use Rattle.std.proofs.Common.{◌≡◌, false, ℤ, pos, ◌-ℤ◌, ◌≤ℤ◌, to_z, of_z, w64, arith}
use Rattle.std.specs.Int.Signed.{lt_z}
use Rattle.std.proofs.lemmas.Int.{ints}
use Rattle.jiff_core.proofs.SignedLemmas.{signed_casts}
use Rattle.sg_events.proofs.EdgeLemmas.{windows_first, windows_first_day}
use Rattle.sg_events.proofs.changes.next_of_windows.Goals as goal

pub returns-then-today-gt0 : goal.returns-then-today-gt0
returns-then-today-gt0 c =
    let a = c.args in
    let today = c.day_of-today.result in
    let day = c.day_of-today.ensures in
    let same : to_z w64 (of_z w64 today) ≡ today = omega (arith, signed_casts, day.low, day.high) in
    let yesterday : to_z w64 (of_z w64 (to_z w64 (of_z w64 today) -ℤ pos 1)) ≡ today -ℤ pos 1 = omega (arith, signed_casts, day.low, day.high) in
    let early = c.next_of_date-early.ensures in
    windows_first a.event.now.when a.event.now.repeat a.daypart.now a.t today early.valid c.requires.second.high day.from day.till _ _ _ _ _ (rw yesterday at c.next_of_date.ensures.next) (rw same at early.next) (rw same at c.next_opening.ensures) c.sooner-later.ensures c.sooner.ensures

not_above : (x : ℤ) → lt_z (pos 0) x ≡ false → x ≤ℤ pos 0
not_above x h = grind (arith, ints)

pub returns-else-today-gt0 : goal.returns-else-today-gt0
returns-else-today-gt0 c =
    let a = c.args in
    let today = c.day_of-today.result in
    let day = c.day_of-today.ensures in
    let same : to_z w64 (of_z w64 today) ≡ today = omega (arith, signed_casts, day.low, day.high) in
    let early = c.next_of_date-early.ensures in
    windows_first_day a.event.now.when a.event.now.repeat a.daypart.now a.t today early.valid c.requires.second.high day.from day.till (not_above today (rw same at c.if-today-gt0.false)) _ _ _ (rw same at early.next) (rw same at c.next_opening.ensures) c.sooner-later.ensures
