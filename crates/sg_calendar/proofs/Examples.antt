-- Worked examples: the definitions give what was worked out by hand, on dates of 1970 to 1972. Each is proved by
-- computing it.
use Rattle.std.proofs.Common.{◌≡◌, ℕ, true, false, List, [], ◌∷◌, Option, Some, None, pos, neg_ℤ, refl}
use Rattle.sg_base.specs.declared.ids.DaypartId.{DaypartId}
use Rattle.sg_base.specs.declared.daypart.Window.{Window}
use Rattle.sg_base.specs.declared.repeat.Unit.{Unit}
use Rattle.sg_base.specs.declared.repeat.Unit.TheVariants.{Week, Month, MonthWeekday, Year}
use Rattle.sg_base.specs.Daypart.{DaypartRow}
use Rattle.sg_base.specs.Repeat.{RepeatRow}
use Rattle.sg_calendar.specs.Civil.{civil, weekday}
use Rattle.sg_calendar.specs.Dates.{is_date, is_start}
use Rattle.sg_calendar.specs.Windows.{window_at, opens, closes}

-- each one by a unit, with no last day
abbrev by : Unit → Option RepeatRow
by unit = Some (record { unit = unit; every = 1; days = 0; until = None })

-- day 30 is 31 January 1970, day 58 the last of February, and day 789 is 29 February 1972
days_of_dates : (civil 30 ≡ record { year = 1970; month = 1; day = 31 }) × (civil 58 ≡ record { year = 1970; month = 2; day = 28 }) × (civil 789 ≡ record { year = 1972; month = 2; day = 29 })
unfolding civil
days_of_dates = (refl, refl, refl)

-- day 0 is a Thursday, day 3 a Sunday, and the day before day 0 a Wednesday
weekdays : (weekday (pos 0) ≡ 4) × (weekday (pos 3) ≡ 7) × (weekday (neg_ℤ (pos 1)) ≡ 3)
weekdays = (refl, refl, refl)

-- by the month from 31 January: neither 28 February nor 1 March, but 31 March
day_31 : (is_date (by Month) 30 30 ≡ true) × (is_date (by Month) 30 58 ≡ false) × (is_date (by Month) 30 59 ≡ false) × (is_date (by Month) 30 89 ≡ true)
unfolding civil
day_31 = (refl, refl, refl, refl)

-- by the year from 29 February 1972: neither 28 February nor 1 March 1973
leap_day : (is_date (by Year) 789 789 ≡ true) × (is_date (by Year) 789 1154 ≡ false) × (is_date (by Year) 789 1155 ≡ false)
unfolding civil
leap_day = (refl, refl, refl)

-- by the month's weekday from Thursday 8 January, the second Thursday: not the first of February, nor the 8th, but the 12th
second_thursday : (is_date (by MonthWeekday) 7 7 ≡ true) × (is_date (by MonthWeekday) 7 35 ≡ false) × (is_date (by MonthWeekday) 7 38 ≡ false) × (is_date (by MonthWeekday) 7 42 ≡ true)
unfolding civil
second_thursday = (refl, refl, refl, refl)

-- and from Thursday 29 January, the fifth: February and March have none, and 30 April is one
fifth_thursday : (is_date (by MonthWeekday) 28 56 ≡ false) × (is_date (by MonthWeekday) 28 84 ≡ false) × (is_date (by MonthWeekday) 28 119 ≡ true)
unfolding civil
fifth_thursday = (refl, refl, refl)

-- each second week on Monday and Friday (bits 0 and 4), from Thursday 1 January: the next day, not the week after, and
-- Monday 12 January
abbrev fortnightly : Option RepeatRow
fortnightly = Some (record { unit = Week; every = 2; days = 17; until = None })

each_second_week : (is_date fortnightly 0 0 ≡ false) × (is_date fortnightly 0 1 ≡ true) × (is_date fortnightly 0 4 ≡ false) × (is_date fortnightly 0 8 ≡ false) × (is_date fortnightly 0 11 ≡ true)
unfolding civil
each_second_week = (refl, refl, refl, refl, refl)

-- a start is at the base's time of day: 31 January 1970, 8:00, by the month
start_on_31 : (is_start (by Month) 2620800 7718400 ≡ true) × (is_start (by Month) 2620800 7718401 ≡ false)
unfolding civil
start_on_31 = (refl, refl)

-- from 22 to 2; on Saturdays from 20 to 3; on Saturday 3 January 1970 from 10 to 11
abbrev nightly : DaypartRow
nightly = record {
  id = record { 0 = 1 };
  window = record { start = 79200; end = 7200 };
  exceptions = (6, record { start = 72000; end = 10800 }) ∷ [];
  dates = (2, record { start = 36000; end = 39600 }) ∷ [];
}

-- a window over midnight closes on the next day
over_midnight : (opens nightly (pos 1) ≡ pos 165600) × (closes nightly (pos 1) ≡ pos 180000)
over_midnight = (refl, refl)

-- the date goes before its weekday, and the next Saturday has the weekday's window
date_first : (window_at nightly (pos 2) ≡ record { start = 36000; end = 39600 }) × (window_at nightly (pos 9) ≡ record { start = 72000; end = 10800 })
date_first = (refl, refl)
