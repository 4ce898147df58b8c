-- Dayparts: a daily window, with other windows for weekdays and for dates.
use Rattle.std.specs.Prelude.{◌≡◌, ℕ, ◌<◌, ◌==◌, nat_lt, ◌||◌, if◌then◌else◌, List, [], ◌∷◌, length, Option, Some, None}
use Rattle.sg_base.specs.declared.ids.DaypartId.{DaypartId}
use Rattle.sg_base.specs.declared.daypart.Window.{Window}
use Rattle.sg_base.specs.declared.daypart.DaypartFault.{DaypartFault}
use Rattle.sg_base.specs.declared.daypart.DaypartFault.TheVariants.{BadTime, BadWeekday, DoubleWeekday, ManyDates, BadDate, DoubleDate}
use Rattle.sg_base.specs.declared.limits.TheConstants.{LAST_SECOND, LAST_DAY, MAX_DATES}
use Rattle.sg_base.specs.Faults.{first_of, first_in, double_of}

-- the exceptions are windows by weekday, the dates windows by day number
pub record DaypartRow : Type 0 where
  pub id : DaypartId
  pub window : Window
  pub exceptions : List (ℕ × Window)
  pub dates : List (ℕ × Window)

-- a time of day is at most its last second
abbrev pub time_fault : ℕ → Option DaypartFault
time_fault time = if nat_lt LAST_SECOND time then Some (BadTime time) else None

abbrev pub window_fault : Window → Option DaypartFault
window_fault w = first_of (time_fault w.start) (time_fault w.end)

abbrev pub windows_fault : List (ℕ × Window) → Option DaypartFault
windows_fault es = first_in (λ e. window_fault e.1) es

-- weekdays are 1 (Monday) to 7 (Sunday)
abbrev pub weekday_fault : ℕ × Window → Option DaypartFault
weekday_fault e = if (e.0 == 0) || nat_lt 7 e.0 then Some (BadWeekday e.0) else None

-- a weekday that stands earlier in the list
abbrev pub double_fault : List (ℕ × Window) → Option DaypartFault
double_fault es = double_of (λ e. e.0) (λ day. DoubleWeekday day) [] es

abbrev pub weekdays_fault : List (ℕ × Window) → Option DaypartFault
weekdays_fault es = first_of (first_in weekday_fault es) (double_fault es)

-- dates end with 2099
abbrev pub date_fault : ℕ × Window → Option DaypartFault
date_fault d = if nat_lt LAST_DAY d.0 then Some (BadDate d.0) else None

-- a date that stands earlier in the list
abbrev pub double_date_fault : List (ℕ × Window) → Option DaypartFault
double_date_fault ds = double_of (λ d. d.0) (λ day. DoubleDate day) [] ds

abbrev pub dates_fault : List (ℕ × Window) → Option DaypartFault
dates_fault ds = if nat_lt MAX_DATES (length ds) then Some (ManyDates (length ds)) else
    first_of (first_in date_fault ds) (double_date_fault ds)

-- every time of day is looked at first: the window's, the weekdays', the dates'
abbrev pub times_fault : Window → List (ℕ × Window) → List (ℕ × Window) → Option DaypartFault
times_fault w es ds = first_of (window_fault w) (first_of (windows_fault es) (windows_fault ds))

-- the first fault, in the order in which a daypart is refused
abbrev pub daypart_fault : Window → List (ℕ × Window) → List (ℕ × Window) → Option DaypartFault
daypart_fault w es ds = first_of (times_fault w es ds) (first_of (weekdays_fault es) (dates_fault ds))

-- weekdays, or dates, ascend
abbrev pub Ascends : List (ℕ × Window) → Type 0
Ascends [] = Unit {0}
Ascends (e ∷ []) = Unit {0}
Ascends (e ∷ (f ∷ es)) = (e.0 < f.0) × Ascends (f ∷ es)

pub record IsDaypart (d : DaypartRow) : Type 0 where
  pub sound : daypart_fault d.window d.exceptions d.dates ≡ None
  pub ordered : Ascends d.exceptions
  pub dates_ordered : Ascends d.dates
