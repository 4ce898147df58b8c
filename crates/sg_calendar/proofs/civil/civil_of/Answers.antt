use Rattle.std.proofs.Common.{◌≡◌, pos, arith}
use Rattle.jiff_core.specs.Date.{epoch_day}
use Rattle.jiff_core.proofs.SignedLemmas.{signed_arith, signed_casts}
use Rattle.sg_calendar.proofs.CivilLemmas.{civil_of_date, civil_of_parts, civil_valid}
use Rattle.sg_calendar.proofs.civil.civil_of.Goals as goal

pub overflow_cast-result : goal.overflow_cast-result
overflow_cast-result c =
    let d = c.from_days_since_min-date.result in
    let e : epoch_day d ≡ pos c.args.day = omega (arith, signed_arith, c.from_days_since_min-date.ensures) in
    let parts = civil_of_date d c.args.day e in
    (omega (arith, signed_casts, parts.0, d.year_in), omega (arith, signed_casts, parts.0, d.year_in))

pub returns-clause-value : goal.returns-clause-value
returns-clause-value c =
    let d = c.from_days_since_min-date.result in
    let e : epoch_day d ≡ pos c.args.day = omega (arith, signed_arith, c.from_days_since_min-date.ensures) in
    let parts = civil_of_date d c.args.day e in
    civil_of_parts d c.args.day _ e (omega (arith, signed_casts, parts.0, d.year_in))

pub returns-clause-valid : goal.returns-clause-valid
returns-clause-valid c =
    let d = c.from_days_since_min-date.result in
    let e : epoch_day d ≡ pos c.args.day = omega (arith, signed_arith, c.from_days_since_min-date.ensures) in
    let parts = civil_of_date d c.args.day e in
    civil_valid d c.args.day _ e (omega (arith, signed_casts, parts.0, d.year_in))
