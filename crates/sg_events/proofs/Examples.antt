-- Worked examples: the definitions give what was worked out by hand, on dates of 1970. Each is proved by computing it.
use Rattle.std.proofs.Common.{◌≡◌, true, false, Bool, [], ◌∷◌, Option, Some, None, ℤ, pos, negsuc, refl, inl, inr}
use Rattle.sg_base.specs.declared.event.When.{When}
use Rattle.sg_base.specs.declared.event.When.TheVariants.{Always, Custom, Named}
use Rattle.sg_base.specs.declared.repeat.Unit.{Unit}
use Rattle.sg_base.specs.declared.repeat.Unit.TheVariants.{Hour, Day, Month}
use Rattle.sg_base.specs.Daypart.{DaypartRow}
use Rattle.sg_base.specs.Repeat.{RepeatRow}
use Rattle.sg_calendar.specs.Civil.{civil}
use Rattle.sg_events.specs.Active.{any_below, is_active_at}
use Rattle.sg_events.specs.Edges.{IsEdge}

-- each one by a unit, with no last day
abbrev by : Unit → Option RepeatRow
by unit = Some (record { unit = unit; every = 1; days = 0; until = None })

-- the first ten seconds of 31 January, by the month: not 28 February, nor 1 March, but 31 March
abbrev monthly_at : ℤ → Bool
monthly_at t = is_active_at (Custom 2592000 2592010) (by Month) None t

day_31 : (monthly_at (pos 2592009) ≡ true) × (monthly_at (pos 2592010) ≡ false) × (monthly_at (pos 5011200) ≡ false) × (monthly_at (pos 5097600) ≡ false) × (monthly_at (pos 7689600) ≡ true)
unfolding civil any_below
day_31 = (refl, refl, refl, refl, refl)

-- from 22 to 2; on Saturdays from 20 to 3; on Saturday 10 January 1970 from 10 to 11
abbrev nightly : DaypartRow
nightly = record {
  id = record { 0 = 1 };
  window = record { start = 79200; end = 7200 };
  exceptions = (6, record { start = 72000; end = 10800 }) ∷ [];
  dates = (9, record { start = 36000; end = 39600 }) ∷ [];
}

-- the daypart daily from day 0 on
abbrev daily : When
daily = Named (record { 0 = 1 }) 0

abbrev nightly_at : ℤ → Bool
nightly_at t = is_active_at daily (by Day) (Some nightly) t

-- Saturday 3 January's window goes on to 3 on Sunday morning, and no longer
over_midnight : (nightly_at (pos 268200) ≡ true) × (nightly_at (pos 269999) ≡ true) × (nightly_at (pos 270000) ≡ false)
unfolding any_below
over_midnight = (refl, refl, refl)

-- on Saturday 10 January Friday's night goes on to 2, from 10 to 11 is the date's own window, and there is no evening
on_its_own_date : (nightly_at (pos 779400) ≡ true) × (nightly_at (pos 815400) ≡ true) × (nightly_at (pos 852000) ≡ false) × (nightly_at (pos 871200) ≡ false)
unfolding any_below
on_its_own_date = (refl, refl, refl, refl)

-- nothing but an event at every second is active before 1970
before_1970 : (nightly_at (negsuc 0) ≡ false) × (is_active_at Always None None (negsuc 0) ≡ true)
before_1970 = (refl, refl)

-- an hour and a half from each hour on: 3600 is an edge as a start, and 5400 as the end of the first
edges : IsEdge (Custom 0 5400) (by Hour) None (pos 3600) × IsEdge (Custom 0 5400) (by Hour) None (pos 5400)
edges = (inl (record { start = 3600; is = refl; at = refl }), inr (record { start = 0; is = refl; at = refl }))

-- Saturday 3 January's window closes at an edge
window_edge : IsEdge daily (by Day) (Some nightly) (pos 270000)
window_edge = (pos 2, record { is = refl; at = inr refl })
