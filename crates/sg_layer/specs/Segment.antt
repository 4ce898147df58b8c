-- The segment of local seconds from one on throughout which an hour stays as it is.
use Rattle.std.specs.Prelude.{◌≡◌, int_le, int_lt, ◌&&◌, ◌⊎◌, Bool, false, List, [], ◌∷◌, Option, None, Some, ℤ, pos, ◌+ℤ◌, ◌-ℤ◌, ◌≤ℤ◌}
use Rattle.std.specs.List.{AllByRecursion}
use Rattle.sg_base.specs.declared.limits.TheConstants.{HOUR}
use Rattle.sg_events.specs.Edges.{IsEdge, IsUpTo, IsNextEdge}
use Rattle.sg_layer.specs.declared.entry.Entry.{Entry}
use Rattle.sg_layer.specs.Shown.{place_of}

-- the local second at which the hour of t ends
abbrev pub hour_end : ℤ → ℤ
hour_end t = (t -ℤ pos (place_of t)) +ℤ pos HOUR

-- the next edge of an entry's event after t, at which it may become active or idle
abbrev pub IsNext : Entry → ℤ → ℤ → Type 0
IsNext x t y = IsNextEdge x.event.when x.event.repeat x.daypart t y

-- y is the next edge of one of some entries
abbrev pub IsSomeNext : List Entry → ℤ → ℤ → Type 0
IsSomeNext [] t y = ⊥
IsSomeNext (x ∷ xs) t y = IsNext x t y ⊎ IsSomeNext xs t y

-- no edge of an entry's event comes after t and before y
abbrev pub IsUpToNext : ℤ → ℤ → Entry → Type 0
IsUpToNext t y x = IsUpTo (IsEdge x.event.when x.event.repeat x.daypart) t y

-- y is the least of a second and of the next edges of some entries after t
pub record IsSoonest (second : ℤ) (xs : List Entry) (t y : ℤ) : Type 0 where
  pub one : (y ≡ second) ⊎ IsSomeNext xs t y
  pub bound : y ≤ℤ second
  pub least : AllByRecursion (IsUpToNext t y) xs

-- what is kept is the segment of t: it begins at t, and ends with t's hour or at the first edge of an entry
pub record IsKeptFrom (xs : List Entry) (t : ℤ) (kept : Option (ℤ × ℤ)) : Type 0 where
  pub end : ℤ
  pub is : kept ≡ Some (t, end)
  pub soonest : IsSoonest (hour_end t) xs t end

-- a second lies in the segment
abbrev pub is_inside : Option (ℤ × ℤ) → ℤ → Bool
is_inside None t = false
is_inside (Some segment) t = int_le segment.0 t && int_lt t segment.1
