-- The turns of a repeat, which the searches go through: turn k is its k-th day, week, month or year from the
-- base's.
use Rattle.std.specs.Prelude.{ℕ, ◌+◌, ◌-◌, ◌*◌, ◌/◌, ◌==◌, nat_le, ◌&&◌, Bool, ⊤}
use Rattle.sg_base.specs.declared.repeat.Unit.{Unit}
use Rattle.sg_base.specs.declared.repeat.Unit.TheVariants.{Hour, Day, Week, Month, MonthWeekday, Year}
use Rattle.sg_base.specs.Repeat.{RepeatRow}
use Rattle.sg_calendar.specs.Dates.{period_of, fits_period, is_unit_date}

-- a day from the base on that fits its week, month or year, which is the one with this number
abbrev pub is_in_period : Unit → ℕ → ℕ → ℕ → ℕ → Bool
is_in_period unit days base period day =
    nat_le base day && (fits_period unit days base day && (period_of unit day == period))

-- a unit with one date at most in each day, month or year
abbrev pub HasOneDate : Unit → Type 0
HasOneDate Hour = ⊤
HasOneDate Day = ⊤
HasOneDate Week = ⊥
HasOneDate Month = ⊤
HasOneDate MonthWeekday = ⊤
HasOneDate Year = ⊤

-- the turn that a day falls in
abbrev pub turn_of : RepeatRow → ℕ → ℕ → ℕ
turn_of r base day = (period_of r.unit day - period_of r.unit base) / r.every

-- a date of the repeat in this turn, the repeat's last day left out
abbrev pub is_in_turn : RepeatRow → ℕ → ℕ → ℕ → Bool
is_in_turn r base turn day =
    is_in_period r.unit r.days base (period_of r.unit base + turn * r.every) day
