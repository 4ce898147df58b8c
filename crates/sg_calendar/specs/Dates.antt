-- On which dates an event has an occurrence, and at which seconds one starts.
use Rattle.std.specs.Prelude.{◌≡◌, ℕ, ◌-◌, ◌*◌, ◌/◌, ◌%◌, ◌^◌, ◌==◌, nat_le, ◌&&◌, Bool, true, false, Option, Some, None, ⊤, ℤ, pos, negsuc, ◌<ℤ◌, ◌≤ℤ◌}
use Rattle.sg_base.specs.declared.limits.TheConstants.{HOUR, DAY, LOCAL_END, DATE_END}
use Rattle.sg_base.specs.declared.repeat.Unit.{Unit}
use Rattle.sg_base.specs.declared.repeat.Unit.TheVariants.{Hour, Day, Week, Month, MonthWeekday, Year}
use Rattle.sg_base.specs.declared.event.When.{When}
use Rattle.sg_base.specs.declared.event.When.TheVariants.{Always, Custom, Named}
use Rattle.sg_base.specs.Repeat.{RepeatRow}
use Rattle.sg_calendar.specs.Civil.{civil, month_of, week_of, weekday}

-- b is a multiple of n above a
abbrev pub is_multiple_above : ℕ → ℕ → ℕ → Bool
is_multiple_above n a b = (b - a) % n == 0

-- bit w - 1 of days is weekday w
abbrev pub is_chosen : ℕ → ℕ → Bool
is_chosen days w = days / 2 ^ (w - 1) % 2 == 1

-- a day that isn't after the last one, where there is a last one
abbrev pub is_until : Option ℕ → ℕ → Bool
is_until None day = true
is_until (Some last) day = nat_le day last

-- the day, week, month or year of a date, as a number that rises by 1 from each to the next
abbrev pub period_of : Unit → ℕ → ℕ
period_of Hour day = 0
period_of Day day = day
period_of Week day = week_of day
period_of Month day = month_of day
period_of MonthWeekday day = month_of day
period_of Year day = (civil day).year

-- equal days of the month
abbrev pub is_same_day : ℕ → ℕ → Bool
is_same_day base day = (civil day).day == (civil base).day

-- equal weekdays, and both the same one of their month's, from the first to the fifth
abbrev pub is_same_weekday : ℕ → ℕ → Bool
is_same_weekday base day =
    (weekday (pos day) == weekday (pos base))
    && (((civil day).day - 1) / 7 == ((civil base).day - 1) / 7)

-- equal months, and equal days of the month
abbrev pub is_anniversary : ℕ → ℕ → Bool
is_anniversary base day = is_same_day base day && ((civil day).month == (civil base).month)

-- what a unit asks of a date within its week, month or year
abbrev pub fits_period : Unit → ℕ → ℕ → ℕ → Bool
fits_period Hour days base day = false
fits_period Day days base day = true
fits_period Week days base day = is_chosen days (weekday (pos day))
fits_period Month days base day = is_same_day base day
fits_period MonthWeekday days base day = is_same_weekday base day
fits_period Year days base day = is_anniversary base day

-- what a unit asks of a date that isn't before the base: to fit its week, month or year, and to be in each
-- `every`-th of them from the base's
abbrev pub fits_unit : Unit → ℕ → ℕ → ℕ → ℕ → Bool
fits_unit unit every days base day =
    fits_period unit days base day
    && is_multiple_above every (period_of unit base) (period_of unit day)

-- a date by a unit, from the base on
abbrev pub is_unit_date : Unit → ℕ → ℕ → ℕ → ℕ → Bool
is_unit_date unit every days base day = nat_le base day && fits_unit unit every days base day

-- a date of a repeat: by its unit, and not after its last day
abbrev pub is_repeat_date : RepeatRow → ℕ → ℕ → Bool
is_repeat_date r base day = is_until r.until day && is_unit_date r.unit r.every r.days base day

-- a date of an event whose base is a date; without a repeat the base alone
abbrev pub is_date : Option RepeatRow → ℕ → ℕ → Bool
is_date None base day = day == base
is_date (Some r) base day = is_repeat_date r base day

-- a multiple of n hours after `from`
abbrev pub is_hour : ℕ → ℕ → ℕ → Bool
is_hour n from s = nat_le from s && ((s - from) % (HOUR * n) == 0)

-- a start by the hour, on a day that isn't after the last one
abbrev pub is_hour_start : RepeatRow → ℕ → ℕ → Bool
is_hour_start r from s = is_until r.until (s / DAY) && is_hour r.every from s

-- a start on a date of the repeat, at the base's time of day
abbrev pub is_day_start : RepeatRow → ℕ → ℕ → Bool
is_day_start r from s = is_repeat_date r (from / DAY) (s / DAY) && (s % DAY == from % DAY)

-- a start of a repeat
abbrev pub is_unit_start : Unit → RepeatRow → ℕ → ℕ → Bool
is_unit_start Hour r from s = is_hour_start r from s
is_unit_start Day r from s = is_day_start r from s
is_unit_start Week r from s = is_day_start r from s
is_unit_start Month r from s = is_day_start r from s
is_unit_start MonthWeekday r from s = is_day_start r from s
is_unit_start Year r from s = is_day_start r from s

-- a start of an event whose base is the second `from`; without a repeat the base alone
abbrev pub is_start : Option RepeatRow → ℕ → ℕ → Bool
is_start None from s = s == from
is_start (Some r) from s = is_unit_start r.unit r from s

-- an event in a daypart has an occurrence on this date; no date is before 1970
abbrev pub is_on_date : When → Option RepeatRow → ℤ → Bool
is_on_date Always r date = false
is_on_date (Custom from to) r date = false
is_on_date (Named daypart base) r (pos day) = is_date r base day
is_on_date (Named daypart base) r (negsuc n) = false

-- an event at a time of its own has an occurrence that starts at this second; none starts before 1970
abbrev pub is_event_start : When → Option RepeatRow → ℕ → Bool
is_event_start Always r s = false
is_event_start (Custom from to) r s = is_start r from s
is_event_start (Named daypart date) r s = false

-- an event in a daypart, and no other
abbrev pub IsNamed : When → Type 0
IsNamed Always = ⊥
IsNamed (Custom from to) = ⊥
IsNamed (Named daypart date) = ⊤

-- z is the greatest start that isn't after t
pub record IsStartUpTo (w : When) (r : Option RepeatRow) (t z : ℤ) : Type 0 where
  pub second : ℕ
  pub value : z ≡ pos second
  pub is : is_event_start w r second ≡ true
  pub within : z ≤ℤ t
  pub greatest : (s : ℕ) → is_event_start w r s ≡ true → pos s ≤ℤ t → pos s ≤ℤ z

-- every start is after t
pub record IsNoStart (w : When) (r : Option RepeatRow) (t : ℤ) : Type 0 where
  pub none : (s : ℕ) → is_event_start w r s ≡ true → t <ℤ pos s

-- z is the least start after t, and before the end of local seconds
pub record IsStartAfter (w : When) (r : Option RepeatRow) (t z : ℤ) : Type 0 where
  pub second : ℕ
  pub value : z ≡ pos second
  pub is : is_event_start w r second ≡ true
  pub after : t <ℤ z
  pub within : z <ℤ LOCAL_END
  pub least : (s : ℕ) → is_event_start w r s ≡ true → t <ℤ pos s → z ≤ℤ pos s

-- every start after t is at the end of local seconds or after it
pub record IsNoStartAfter (w : When) (r : Option RepeatRow) (t : ℤ) : Type 0 where
  pub none : (s : ℕ) → is_event_start w r s ≡ true → t <ℤ pos s → LOCAL_END ≤ℤ pos s

-- z is the least date after another on which the event has an occurrence, and before the end of dates
pub record IsDateAfter (w : When) (r : Option RepeatRow) (date z : ℤ) : Type 0 where
  pub is : is_on_date w r z ≡ true
  pub after : date <ℤ z
  pub within : z <ℤ DATE_END
  pub least : (d : ℤ) → is_on_date w r d ≡ true → date <ℤ d → z ≤ℤ d

-- every date after this one on which the event has an occurrence is at the end of dates or after it
pub record IsNoDateAfter (w : When) (r : Option RepeatRow) (date : ℤ) : Type 0 where
  pub none : (d : ℤ) → is_on_date w r d ≡ true → date <ℤ d → DATE_END ≤ℤ d
