-- Which window a daypart has on a date, and when it opens and closes.
use Rattle.std.specs.Prelude.{ℕ, ◌+◌, ◌==◌, nat_le, if◌then◌else◌, List, [], ◌∷◌, Option, Some, None, ℤ, pos, negsuc, ◌+ℤ◌, ◌*ℤ◌}
use Rattle.sg_base.specs.declared.limits.TheConstants.{DAY}
use Rattle.sg_base.specs.declared.daypart.Window.{Window}
use Rattle.sg_base.specs.Daypart.{DaypartRow}
use Rattle.sg_calendar.specs.Civil.{weekday}

-- the window of the first entry with this number, a weekday or a date
abbrev pub exception_of : List (ℕ × Window) → ℕ → Option Window
exception_of [] number = None
exception_of (e ∷ es) number = if e.0 == number then Some e.1 else exception_of es number

-- the window of a date that has its own; no date before 1970 has one
abbrev pub date_exception : List (ℕ × Window) → ℤ → Option Window
date_exception dates (pos day) = exception_of dates day
date_exception dates (negsuc n) = None

abbrev pub window_or : Option Window → Window → Window
window_or None w = w
window_or (Some e) w = e

-- the window of a date: the date's own, or else that of its weekday, or else the daypart's
abbrev pub window_at : DaypartRow → ℤ → Window
window_at d date =
    window_or (date_exception d.dates date)
    (window_or (exception_of d.exceptions (weekday date)) d.window)

-- where a window ends, in seconds from the midnight that begins its date; one that doesn't end after its
-- start ends on the next day
abbrev pub end_of : Window → ℕ
end_of w = if nat_le w.end w.start then w.end + DAY else w.end

-- the local second at which the window of a date opens, and the one at which it closes
abbrev pub opens : DaypartRow → ℤ → ℤ
opens d date = date *ℤ pos DAY +ℤ pos (window_at d date).start

abbrev pub closes : DaypartRow → ℤ → ℤ
closes d date = date *ℤ pos DAY +ℤ pos (end_of (window_at d date))
