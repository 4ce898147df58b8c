-- What is shown, from the slot of the picture's layer.
use Rattle.std.proofs.Common.{◌≡◌, ◌<◌, List, [], ◌∷◌, length, Option, Some, None, refl, ap, ◌∙◌, arith, length-append}
use Rattle.std.specs.List.{Contains}
use Rattle.std.specs.Prelude.{ℤ}
use Rattle.std.proofs.lemmas.List.{length-map}
use Rattle.sg_voice.specs.declared.play.Play.{Play}
use Rattle.sg_voice.specs.declared.play.Interrupt.{Interrupt}
use Rattle.sg_voice.specs.declared.play.Slot.{Slot}
use Rattle.sg_voice.specs.Hour.{slots_of, covering}
use Rattle.sg_layer.specs.declared.kind.Kind.TheVariants.{Normal, Interrupt as Sharing}
use Rattle.sg_layer.specs.Kinds.{events_of}
use Rattle.sg_layer.specs.Shown.{place_of, slot_of, IsSlotAt}
use Rattle.sg_layer.specs.Shown.{slot_at as slot_at_of, entries_of as entries_of_layer}
use Rattle.sg_layer.proofs.KindLemmas.{length_kinds}
use Rattle.sg_manifest.specs.Snapshot.{SnapshotRow, IsSnapshot, layout_ids}
use Rattle.sg_resolver.specs.declared.show.Show.{Show}
use Rattle.sg_resolver.specs.Lists.{entry_of, entries_of, picture_layer, picture_events, normal_plays, interrupts}
use Rattle.sg_resolver.specs.Shown.{slot_at, show_of, shown, IsShown}
use Rattle.sg_resolver.proofs.ValidLemmas.{normal_known, normal_some, interrupts_there, slot_there}

covered : (ps : List Play) (is : List Interrupt) (t : ℤ) → 0 < length ps → slot_of ps is t ≡ Some (covering (place_of t) (slots_of ps is))
covered [] is t some = absurd (omega (arith, some))
covered (p ∷ ps) is t some = refl

-- the layer's slot is the one that is shown
pub slot_is : (s : SnapshotRow) (kept : Option (ℤ × ℤ)) (t : ℤ) → slot_at_of (picture_layer s kept) t ≡ Some (slot_at s t)
unfolding slot_at slot_at_of
slot_is s kept t = covered (normal_plays s t) (interrupts s t) t (normal_some s t)

pub never_none : (s : SnapshotRow) (kept : Option (ℤ × ℤ)) (t : ℤ) → None ≡ slot_at_of (picture_layer s kept) t → ⊥
never_none s kept t is = let both = is ∙ slot_is s kept t in absurd (cc)

pub shown_is : (s : SnapshotRow) (kept : Option (ℤ × ℤ)) (t : ℤ) (slot : Slot) → Some slot ≡ slot_at_of (picture_layer s kept) t → show_of t slot ≡ shown s t
shown_is s kept t slot is =
    let both : Some slot ≡ Some (slot_at s t) = is ∙ slot_is s kept t in
    let same : slot ≡ slot_at s t = cc in
    ap (show_of t) same

pub shown_closed : (s : SnapshotRow) (kept : Option (ℤ × ℤ)) (t : ℤ) (slot : Slot) (show : Show) → IsSlotAt (picture_layer s kept) t slot → show ≡ show_of t slot → IsShown s t show
shown_closed s kept t slot show h is = record { slot = slot; is = h.is; begun = h.begun; not_over = h.not_over; show_is = is }

-- what the slot shows is a layout of the snapshot
pub shown_there : (s : SnapshotRow) (kept : Option (ℤ × ℤ)) (t : ℤ) (slot : Slot) → IsSnapshot s → IsSlotAt (picture_layer s kept) t slot → Contains (layout_ids s) slot.layout
shown_there s kept t slot valid h = slot_there s (normal_plays s t) (interrupts s t) slot (normal_some s t) (normal_known s t valid) (interrupts_there s t valid) h.is

-- the picture's layer has an entry for each event of layer 0
pub entries_count : (s : SnapshotRow) (kept : Option (ℤ × ℤ)) → length (entries_of_layer (picture_layer s kept)) ≡ length (picture_events s)
entries_count s kept =
    omega (arith, length-append (entries_of s Sharing) (entries_of s Normal), length-map (events_of Sharing s.events) (entry_of s), length-map (events_of Normal s.events) (entry_of s), length_kinds s.events)
