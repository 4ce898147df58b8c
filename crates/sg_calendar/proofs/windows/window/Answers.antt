use Rattle.std.proofs.Common.{◌≡◌, arith, w64, to_z, of_z}
use Rattle.jiff_core.proofs.SignedLemmas.{signed_casts}
use Rattle.sg_calendar.proofs.WindowLemmas.{opens_at, closes_at}
use Rattle.sg_calendar.proofs.windows.window.Goals as goal

pub returns-clause-from : goal.returns-clause-from
returns-clause-from c =
    let same : to_z w64 (of_z w64 c.args.date) ≡ c.args.date = omega (arith, signed_casts) in
    opens_at c.args.daypart.now c.args.date _ _ (rw same at c.window_on-found.ensures.value) (omega (arith, signed_casts, c.new.ensures))

pub returns-clause-to : goal.returns-clause-to
returns-clause-to c =
    let same : to_z w64 (of_z w64 c.args.date) ≡ c.args.date = omega (arith, signed_casts) in
    closes_at c.args.daypart.now c.args.date _ _ (rw same at c.window_on-found.ensures.value) (omega (arith, signed_casts, c.new-2.ensures, c.end_second.ensures.value))
