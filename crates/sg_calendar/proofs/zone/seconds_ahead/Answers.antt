use Rattle.std.proofs.Common.{◌≡◌, arith}
use Rattle.jiff_core.proofs.SignedLemmas.{signed_casts}
use Rattle.jiff_tz.specs.PosixText.{tz_view}
use Rattle.sg_calendar.specs.Zone.{offset_of}
use Rattle.sg_calendar.proofs.ZoneLemmas.{seconds_at_moment}
use Rattle.sg_calendar.proofs.zone.seconds_ahead.Goals as goal

pub returns-clause-value : goal.returns-clause-value
returns-clause-value c =
    let r = c.to_offset.result in
    let e : r.seconds ≡ offset_of (tz_view c.args.rule.now) c.args.moment = seconds_at_moment r c.args.rule.now c.args.moment _ c.to_offset.ensures (omega (arith, signed_casts)) in
    omega (arith, signed_casts, e, r.in_range)
