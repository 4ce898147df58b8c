-- When an event is active: some occurrence has begun and isn't over.
use Rattle.std.specs.Prelude.{◌≡◌, ℕ, zero, suc, ◌+◌, ◌-◌, ◌/◌, nat_le, int_le, int_lt, ◌&&◌, ◌||◌, Bool, true, false, Option, Some, None, ⊤, ℤ, pos, negsuc, ◌<ℤ◌, ◌≤ℤ◌}
use Rattle.sg_base.specs.declared.limits.TheConstants.{DAY}
use Rattle.sg_base.specs.declared.event.When.{When}
use Rattle.sg_base.specs.declared.event.When.TheVariants.{Always, Custom, Named}
use Rattle.sg_base.specs.Daypart.{DaypartRow}
use Rattle.sg_base.specs.Repeat.{RepeatRow}
use Rattle.sg_calendar.specs.Dates.{is_date, is_start, is_on_date}
use Rattle.sg_calendar.specs.Windows.{opens, closes}

-- an occurrence of an event at a time of its own: it starts at a start, and lasts as long as the event
pub record IsRunning (from to : ℕ) (r : Option RepeatRow) (t : ℤ) : Type 0 where
  pub start : ℕ
  pub is : is_start r from start ≡ true
  pub begun : pos start ≤ℤ t
  pub not_over : t <ℤ pos (start + (to - from))

-- an occurrence of an event in a daypart: the daypart's window of a date of the event
pub record IsOpenOn (w : When) (r : Option RepeatRow) (d : DaypartRow) (t date : ℤ) : Type 0 where
  pub is : is_on_date w r date ≡ true
  pub begun : opens d date ≤ℤ t
  pub not_over : t <ℤ closes d date

pub record IsOpen (w : When) (r : Option RepeatRow) (d : DaypartRow) (t : ℤ) : Type 0 where
  pub date : ℤ
  pub open_on : IsOpenOn w r d t date

-- the event with this time and repeat, and with this daypart, is active at the local second t
abbrev pub IsActive : When → Option RepeatRow → Option DaypartRow → ℤ → Type 0
IsActive Always r d t = ⊤
IsActive (Custom from to) r d t = IsRunning from to r t
IsActive (Named daypart base) r None t = ⊥
IsActive (Named daypart base) r (Some d) t = IsOpen (Named daypart base) r d t

-- an event in a daypart comes with a daypart
abbrev pub HasDaypart : When → Option DaypartRow → Type 0
HasDaypart Always d = ⊤
HasDaypart (Custom from to) d = ⊤
HasDaypart (Named daypart base) None = ⊥
HasDaypart (Named daypart base) (Some d) = ⊤

-- some number below n passes
unfoldable pub any_below : (ℕ → Bool) → ℕ → Bool
any_below p zero = false
any_below p (suc n) = p n || any_below p n

-- an occurrence started k seconds ago
abbrev pub began_before : ℕ → Option RepeatRow → ℕ → ℕ → Bool
began_before from r t k = nat_le k t && is_start r from (t - k)

-- t lies in the window of a date
abbrev pub is_within : DaypartRow → ℕ → ℕ → Bool
is_within d day t = int_le (opens d (pos day)) (pos t) && int_lt (pos t) (closes d (pos day))

-- the day k days ago is a date of the event, and t lies in its window
abbrev pub opened_before : DaypartRow → ℕ → Option RepeatRow → ℕ → ℕ → Bool
opened_before d base r t k = nat_le k (t / DAY) && (is_date r base (t / DAY - k) && is_within d (t / DAY - k) t)

-- the same as a test, for lists: an occurrence began less than the event's length ago, or the window of t's
-- day or of the day before holds t; before 1970 only an event that is always active is
abbrev pub is_active_at : When → Option RepeatRow → Option DaypartRow → ℤ → Bool
is_active_at Always r d t = true
is_active_at (Custom from to) r d (pos t) = any_below (began_before from r t) (to - from)
is_active_at (Custom from to) r d (negsuc n) = false
is_active_at (Named daypart base) r None t = false
is_active_at (Named daypart base) r (Some d) (pos t) = any_below (opened_before d base r t) 2
is_active_at (Named daypart base) r (Some d) (negsuc n) = false
