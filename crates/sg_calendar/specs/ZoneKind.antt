-- A zone's fields as what its rule says.
use Rattle.std.specs.Prelude.{neg_ℤ, ◌≤ℤ◌}
use Rattle.jiff_tz.specs.PosixText.{tz_view}
use Rattle.sg_base.specs.declared.limits.TheConstants.{MAX_OFFSET}
use Rattle.sg_calendar.specs.declared.zone.Kind.{Kind}
use Rattle.sg_calendar.specs.declared.zone.Kind.TheVariants.{Fixed, Rule}
use Rattle.sg_calendar.specs.Zone.{ZoneView, Minutes, Says}

abbrev pub kind_view : Kind → ZoneView
kind_view (Fixed n) = Minutes n
kind_view (Rule tz) = Says (tz_view tz)

-- a fixed offset has at most 14 hours
abbrev pub IsInRange : Kind → Type 0
IsInRange (Fixed n) = (neg_ℤ MAX_OFFSET ≤ℤ n) × (n ≤ℤ MAX_OFFSET)
IsInRange (Rule tz) = Unit {0}
