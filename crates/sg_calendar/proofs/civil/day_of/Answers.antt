use Rattle.std.proofs.Common.{◌≡◌, pos, arith}
use Rattle.std.proofs.lemmas.Bool.{false≢true}
use Rattle.jiff_core.proofs.SignedLemmas.{signed_casts}
use Rattle.sg_calendar.proofs.CivilLemmas.{civil-is, date_low, civil_of_made, is_date_at}
use Rattle.sg_calendar.proofs.civil.day_of.Goals as goal

pub overflow_cast-result : goal.overflow_cast-result
overflow_cast-result c =
    let d = c.in-Ok.date in
    let low = date_low d c.args.year (omega (arith, signed_casts, c.in-Ok.ensures.value.0)) c.requires.low in
    (omega (arith, signed_casts, low, c.to_unix_epoch_day.ensures), omega (arith, signed_casts, low, c.to_unix_epoch_day.ensures))

pub returns-in-Ok-clause-bound : goal.returns-in-Ok-clause-bound
returns-in-Ok-clause-bound c =
    let d = c.in-Ok.date in
    let low = date_low d c.args.year (omega (arith, signed_casts, c.in-Ok.ensures.value.0)) c.requires.low in
    omega (arith, signed_casts, low, c.to_unix_epoch_day.ensures)

pub returns-in-Ok-clause-value : goal.returns-in-Ok-clause-value
returns-in-Ok-clause-value c =
    let d = c.in-Ok.date in
    let year : d.year ≡ pos c.args.year = omega (arith, signed_casts, c.in-Ok.ensures.value.0) in
    let low = date_low d c.args.year year c.requires.low in
    civil_of_made d _ c.args.year c.args.month c.args.day (omega (arith, signed_casts, low, c.to_unix_epoch_day.ensures)) year (omega (arith, signed_casts, c.in-Ok.ensures.value.1)) (omega (arith, signed_casts, c.in-Ok.ensures.value.2))

pub returns-in-Err-clause-value : goal.returns-in-Err-clause-value
returns-in-Err-clause-value c = λ n e.
    let valid = rw e at (civil-is n).is in
    false≢true (c.in-Err.ensures.succeeds.1 (is_date_at c.args.year c.args.month c.args.day _ _ _ (omega (arith, signed_casts)) (omega (arith, signed_casts)) (omega (arith, signed_casts)) valid c.requires.high))
