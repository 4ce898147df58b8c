-- What a layer keeps beside its entries. No public clause cites it.
use Rattle.std.specs.Prelude.{◌≡◌, ℕ, ◌<◌, ◌≤◌, length, Option, None, Some, ℤ, vec_capacity}
use Rattle.sg_base.specs.declared.limits.TheConstants.{HOUR}
use Rattle.sg_voice.specs.Hour.{slots_of}
use Rattle.sg_layer.specs.declared.room.Room.{Room}
use Rattle.sg_layer.specs.Front.{IsFront}
use Rattle.sg_layer.specs.Shown.{LayerValue, IsLayer, entries_of, plays_at, interrupts_at}
use Rattle.sg_layer.specs.Segment.{hour_end, IsSoonest}

-- there is room for so many normal entries and interrupts to be active, and for the plays of an hour
pub record HasRoom (count shares : ℕ) (r : Room) : Type 0 where
  pub normal : count ≤ vec_capacity r.active
  pub interrupts : shares ≤ vec_capacity r.active
  pub plays : HOUR ≤ vec_capacity r.plays
  pub sharing : shares ≤ vec_capacity r.sharing

-- the room holds the plays and the hour of each second of a segment
pub record Holds (l : LayerValue) (from till : ℤ) (r : Room) : Type 0 where
  pub soonest : IsSoonest (hour_end from) (entries_of l) from till
  pub plays : IsFront r.plays.items (plays_at l from)
  pub hour : 0 < length r.plays.items → r.hour ≡ slots_of (plays_at l from) (interrupts_at l from)

abbrev pub HoldsFor : LayerValue → Option (ℤ × ℤ) → Room → Type 0
HoldsFor l None r = Unit {0}
HoldsFor l (Some segment) r = Holds l segment.0 segment.1 r

-- the entries can be asked, there is room, and what is kept holds
pub record IsReady (l : LayerValue) (r : Room) : Type 0 where
  pub layer : IsLayer l
  pub room : HasRoom (length l.normal) (length l.interrupts) r
  pub held : HoldsFor l l.kept r
