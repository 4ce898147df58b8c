-- The slot that a layer shows at a local second.
use Rattle.std.specs.Prelude.{ℕ, ◌+◌, ◌<◌, ◌≤◌, List, [], ◌∷◌, ◌++◌, map, IfSome, Option, Some, None, ℤ, pos, unsigned_abs}
use Rattle.std.specs.List.{AllByRecursion}
use Rattle.std.specs.Int.{int_rem_euclid}
use Rattle.sg_base.specs.declared.limits.TheConstants.{HOUR}
use Rattle.sg_voice.specs.declared.play.Play.{Play}
use Rattle.sg_voice.specs.declared.play.Interrupt.{Interrupt}
use Rattle.sg_voice.specs.declared.play.Slot.{Slot}
use Rattle.sg_voice.specs.Hour.{IsPlay, slots_of, covering, interrupt_plays}
use Rattle.sg_voice.specs.Begin.{IsSlot}
use Rattle.sg_layer.specs.declared.entry.Entry.{Entry}
use Rattle.sg_layer.specs.Lists.{IsEntry, IsSharing, played_at, plays_of, or_else, interrupt_of}

-- a layer: its normal entries in order, its interrupts in order, the play that stands in where no normal entry is
-- played, and the segment of local seconds for which the hour built last is kept, from the first of them up to the second
pub record LayerValue : Type 0 where
  pub normal : List Entry
  pub interrupts : List Entry
  pub default : Option Play
  pub kept : Option (ℤ × ℤ)

-- the entries of a layer
abbrev pub entries_of : LayerValue → List Entry
entries_of l = l.interrupts ++ l.normal

-- a layer that can be asked
pub record IsLayer (l : LayerValue) : Type 0 where
  pub normal : AllByRecursion IsEntry l.normal
  pub interrupts : AllByRecursion IsEntry l.interrupts
  pub sharing : AllByRecursion IsSharing l.interrupts
  pub default : IfSome l.default IsPlay

-- the normal plays and the interrupts at a local second
abbrev pub plays_at : LayerValue → ℤ → List Play
plays_at l t = or_else l.default (plays_of (played_at t l.normal))

abbrev pub interrupts_at : LayerValue → ℤ → List Interrupt
interrupts_at l t = map interrupt_of (played_at t l.interrupts)

-- the second of its hour at which a local second stands, 0 to 3,599
abbrev pub place_of : ℤ → ℕ
place_of t = unsigned_abs (int_rem_euclid t (pos HOUR))

-- the slot of the hour that covers a local second, unless there is no normal play
abbrev pub slot_of : List Play → List Interrupt → ℤ → Option Slot
slot_of [] is t = None
slot_of (p ∷ ps) is t = Some (covering (place_of t) (slots_of (p ∷ ps) is))

-- what a layer shows at a local second: the slot of the hour's loop that is built from the lists at that second
unfoldable pub slot_at : LayerValue → ℤ → Option Slot
slot_at l t = slot_of (plays_at l t) (interrupts_at l t) t

-- the same in closed form: a slot of the hour, by where its play begins, that has begun and isn't over
pub record IsSlotAt (l : LayerValue) (t : ℤ) (slot : Slot) : Type 0 where
  pub is : IsSlot (plays_at l t) (interrupt_plays (interrupts_at l t)) slot
  pub begun : slot.place ≤ place_of t
  pub not_over : place_of t < slot.place + slot.seconds
