-- Seconds in which nothing of an event is seen.
use Rattle.std.specs.Prelude.{◌≡◌, ℕ, ◌+◌, false, Option, ℤ, pos, ◌<ℤ◌, ◌≤ℤ◌}
use Rattle.sg_base.specs.declared.event.When.{When}
use Rattle.sg_base.specs.Daypart.{DaypartRow}
use Rattle.sg_base.specs.Repeat.{RepeatRow}
use Rattle.sg_events.specs.Active.{is_active_at}
use Rattle.sg_events.specs.Edges.{IsEdge, IsUpTo}

-- an event is idle at t, and none of its edges comes after t and before x
pub record IsQuiet (w : When) (r : Option RepeatRow) (d : Option DaypartRow) (t x : ℤ) : Type 0 where
  pub idle : is_active_at w r d t ≡ false
  pub free : IsUpTo (IsEdge w r d) t x

-- what is on from a start for some seconds is off at t, and neither begins nor is over after t and before x
pub record IsApart (start seconds : ℕ) (t x : ℤ) : Type 0 where
  pub off : pos start ≤ℤ t → t <ℤ pos (start + seconds) → ⊥
  pub begin : t <ℤ pos start → x ≤ℤ pos start
  pub over : t <ℤ pos (start + seconds) → x ≤ℤ pos (start + seconds)
