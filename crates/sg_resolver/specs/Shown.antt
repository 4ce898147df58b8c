-- What a snapshot shows: the slot at a local second, and the picture of its layout.
use Rattle.std.specs.Prelude.{◌≡◌, ℕ, ◌+◌, ◌-◌, ◌<◌, ◌≤◌, List, map, Result, Ok, Err, ℤ, pos, ◌+ℤ◌, ◌-ℤ◌}
use Rattle.sg_base.specs.declared.ids.MediaId.{MediaId}
use Rattle.sg_base.specs.Layout.{medium_at}
use Rattle.sg_calendar.specs.declared.zone.ZoneFault.{ZoneFault}
use Rattle.sg_calendar.specs.Zone.{ZoneView, zone_of, local_at}
use Rattle.sg_voice.specs.declared.play.Slot.{Slot}
use Rattle.sg_voice.specs.Hour.{slots_of, covering, interrupt_plays}
use Rattle.sg_voice.specs.Begin.{IsSlot}
use Rattle.sg_layer.specs.Shown.{place_of}
use Rattle.sg_manifest.specs.Snapshot.{SnapshotRow}
use Rattle.sg_resolver.specs.declared.show.Show.{Show}
use Rattle.sg_resolver.specs.Rows.{regions_of}
use Rattle.sg_resolver.specs.Lists.{normal_plays, interrupts}

-- the local second of a moment by the zone that a rule tells; a valid snapshot's rule tells one
abbrev pub local_by : Result ZoneView ZoneFault → ℕ → ℤ
local_by (Ok zone) m = local_at zone m
local_by (Err fault) m = pos m

abbrev pub local_of : SnapshotRow → ℕ → ℤ
local_of s m = local_by (zone_of s.zone) m

-- the slot that covers a local second, in the hour's loop built from the lists at that second
unfoldable pub slot_at : SnapshotRow → ℤ → Slot
slot_at s t = covering (place_of t) (slots_of (normal_plays s t) (interrupts s t))

-- a slot of an hour at a local second: its event and layout, the local second at which the slot began, and
-- how long ago that was
abbrev pub show_of : ℤ → Slot → Show
show_of t slot = record {
  event = slot.event;
  layout = slot.layout;
  slot_start = (t -ℤ pos (place_of t)) +ℤ pos slot.place;
  offset = place_of t - slot.place;
}

-- what is shown at a local second
abbrev pub shown : SnapshotRow → ℤ → Show
shown s t = show_of t (slot_at s t)

-- the same in closed form: a slot of the hour, by where its play begins, that has begun and isn't over
pub record IsShown (s : SnapshotRow) (t : ℤ) (show : Show) : Type 0 where
  pub slot : Slot
  pub is : IsSlot (normal_plays s t) (interrupt_plays (interrupts s t)) slot
  pub begun : slot.place ≤ place_of t
  pub not_over : place_of t < slot.place + slot.seconds
  pub show_is : show ≡ show_of t slot

-- each region of the shown layout in order, with the medium that it shows
abbrev pub picture_of : SnapshotRow → Show → List (ℕ × MediaId)
picture_of s show = map (λ r. (r.id, medium_at r show.offset)) (regions_of s show.layout)
