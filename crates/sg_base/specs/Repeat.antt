-- Repeats: by hour, day, week, day of the month, weekday of the month, or year.
use Rattle.std.specs.Prelude.{◌≡◌, ℕ, ◌%◌, ◌==◌, nat_lt, if◌then◌else◌, Option, Some, None}
use Rattle.sg_base.specs.declared.repeat.Unit.{Unit}
use Rattle.sg_base.specs.declared.repeat.Unit.TheVariants.{Hour, Day, Week, Month, MonthWeekday, Year}
use Rattle.sg_base.specs.declared.repeat.RepeatFault.{RepeatFault}
use Rattle.sg_base.specs.declared.repeat.RepeatFault.TheVariants.{ZeroStep, BigStep, NoWeekday, StrayDays, BadDay}
use Rattle.sg_base.specs.declared.limits.TheConstants.{LAST_DAY, MAX_STEP}
use Rattle.sg_base.specs.Faults.{first_of}

pub record RepeatRow : Type 0 where
  pub unit : Unit
  pub every : ℕ
  pub days : ℕ
  pub until : Option ℕ

-- bit w - 1 of days is weekday w, so the seven bits make a remainder by 128; a unit but the week has none
abbrev pub days_fault : Unit → ℕ → Option RepeatFault
days_fault Hour days = if days == 0 then None else Some StrayDays
days_fault Day days = if days == 0 then None else Some StrayDays
days_fault Week days = if days % 128 == 0 then Some NoWeekday else (if nat_lt 127 days then Some StrayDays else None)
days_fault Month days = if days == 0 then None else Some StrayDays
days_fault MonthWeekday days = if days == 0 then None else Some StrayDays
days_fault Year days = if days == 0 then None else Some StrayDays

-- the last day is at most 2099-12-31
abbrev pub until_fault : Option ℕ → Option RepeatFault
until_fault None = None
until_fault (Some day) = if nat_lt LAST_DAY day then Some BadDay else None

-- the first fault, in the order in which a repeat is refused
abbrev pub repeat_fault : Unit → ℕ → ℕ → Option ℕ → Option RepeatFault
repeat_fault unit every days until = if every == 0 then Some ZeroStep else
    (if nat_lt MAX_STEP every then Some (BigStep every) else
    first_of (days_fault unit days) (until_fault until))

pub record IsRepeat (r : RepeatRow) : Type 0 where
  pub sound : repeat_fault r.unit r.every r.days r.until ≡ None
