-- When an event's activity may change: at its edges, where an occurrence begins or is over.
use Rattle.std.specs.Prelude.{◌≡◌, ℕ, ◌+◌, ◌-◌, true, ◌⊎◌, Option, Some, None, ℤ, pos, ◌<ℤ◌, ◌≤ℤ◌}
use Rattle.sg_base.specs.declared.limits.TheConstants.{LOCAL_END}
use Rattle.sg_base.specs.declared.event.When.{When}
use Rattle.sg_base.specs.declared.event.When.TheVariants.{Always, Custom, Named}
use Rattle.sg_base.specs.Daypart.{DaypartRow}
use Rattle.sg_base.specs.Repeat.{RepeatRow}
use Rattle.sg_calendar.specs.Dates.{is_start, is_on_date}
use Rattle.sg_calendar.specs.Windows.{opens, closes}

-- an occurrence of an event at a time of its own begins at x
pub record IsBegin (from : ℕ) (r : Option RepeatRow) (x : ℤ) : Type 0 where
  pub start : ℕ
  pub is : is_start r from start ≡ true
  pub at : x ≡ pos start

-- an occurrence of an event at a time of its own is over at x
pub record IsOver (from to : ℕ) (r : Option RepeatRow) (x : ℤ) : Type 0 where
  pub start : ℕ
  pub is : is_start r from start ≡ true
  pub at : x ≡ pos (start + (to - from))

-- the window of a date opens or closes at x, and the date is one of the event's
pub record IsWindowEdge (w : When) (r : Option RepeatRow) (d : DaypartRow) (date x : ℤ) : Type 0 where
  pub is : is_on_date w r date ≡ true
  pub at : (x ≡ opens d date) ⊎ (x ≡ closes d date)

-- x is an edge of the event with this time and repeat, and with this daypart
abbrev pub IsEdge : When → Option RepeatRow → Option DaypartRow → ℤ → Type 0
IsEdge Always r d x = ⊥
IsEdge (Custom from to) r d x = IsBegin from r x ⊎ IsOver from to r x
IsEdge (Named daypart base) r None x = ⊥
IsEdge (Named daypart base) r (Some d) x = (date : ℤ) × IsWindowEdge (Named daypart base) r d date x

-- no second among some comes after t and before x
abbrev pub IsUpTo : (ℤ → Type 0) → ℤ → ℤ → Type 0
IsUpTo Among t x = (y : ℤ) → Among y → t <ℤ y → x ≤ℤ y

-- x is the least of the end of local seconds and what comes after t among some seconds
pub record IsFirstAfter (Among : ℤ → Type 0) (t x : ℤ) : Type 0 where
  pub one : (x ≡ LOCAL_END) ⊎ Among x
  pub after : t <ℤ x
  pub bound : x ≤ℤ LOCAL_END
  pub least : IsUpTo Among t x

-- x is the least of the end of local seconds and the edges after t
abbrev pub IsNextEdge : When → Option RepeatRow → Option DaypartRow → ℤ → ℤ → Type 0
IsNextEdge w r d t x = IsFirstAfter (IsEdge w r d) t x

-- x is an edge of a date after this one
abbrev pub IsLaterEdge : When → Option RepeatRow → DaypartRow → ℤ → ℤ → Type 0
IsLaterEdge w r d date x = (later : ℤ) × (date <ℤ later) × IsWindowEdge w r d later x

-- z is one of two, and not above either
pub record IsLesser (x y z : ℤ) : Type 0 where
  pub one : (z ≡ x) ⊎ (z ≡ y)
  pub first : z ≤ℤ x
  pub second : z ≤ℤ y
