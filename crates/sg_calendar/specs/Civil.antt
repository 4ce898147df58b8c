-- Civil dates of the proleptic Gregorian calendar, by counting days from 1970-01-01.
use Rattle.std.specs.Prelude.{ℕ, zero, suc, ◌+◌, ◌*◌, ◌/◌, ◌≤◌, ℤ, pos, ◌+ℤ◌, unsigned_abs, nat_lt, if◌then◌else◌}
use Rattle.std.specs.Int.{int_rem_euclid}
use Rattle.jiff_core.specs.Calendar.{days_in_month}
use Rattle.sg_calendar.specs.declared.civil.Civil.{Civil}

-- the date after a date
abbrev pub next_civil : Civil → Civil
next_civil c =
    if nat_lt c.day (days_in_month (pos c.year) c.month) then record { year = c.year; month = c.month; day = c.day + 1 }
    else (if nat_lt c.month 12 then record { year = c.year; month = c.month + 1; day = 1 }
    else record { year = c.year + 1; month = 1; day = 1 })

-- the date of a day number: day 0 is 1970-01-01
unfoldable pub civil : ℕ → Civil
civil zero = record { year = 1970; month = 1; day = 1 }
civil (suc n) = next_civil (civil n)

-- a day's month, counted over the years
abbrev pub month_of : ℕ → ℕ
month_of n = 12 * (civil n).year + (civil n).month

-- a day's weekday, from 1 for Monday to 7 for Sunday, before 1970 too; day 0 is a Thursday
abbrev pub weekday : ℤ → ℕ
weekday date = unsigned_abs (int_rem_euclid (date +ℤ pos 3) (pos 7)) + 1

-- a day's week, which begins on Monday
abbrev pub week_of : ℕ → ℕ
week_of n = (n + 3) / 7

-- the calendar has this date, from 1970 on
pub record IsCivil (c : Civil) : Type 0 where
  pub year : 1970 ≤ c.year
  pub first : 1 ≤ c.month
  pub last : c.month ≤ 12
  pub low : 1 ≤ c.day
  pub high : c.day ≤ days_in_month (pos c.year) c.month
