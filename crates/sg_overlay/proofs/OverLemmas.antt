-- What is shown above the picture, from the slot of its layer.
use Rattle.std.proofs.Common.{◌≡◌, ◌<◌, List, [], ◌∷◌, length, filter, Option, Some, None, refl, ap, ◌∙◌, arith}
use Rattle.std.specs.List.{Contains}
use Rattle.std.specs.Prelude.{ℤ, option_map}
use Rattle.std.proofs.lemmas.List.{length-map}
use Rattle.sg_voice.specs.declared.play.Play.{Play}
use Rattle.sg_voice.specs.declared.play.Interrupt.{Interrupt}
use Rattle.sg_voice.specs.declared.play.Slot.{Slot}
use Rattle.sg_layer.specs.declared.kind.Kind.TheVariants.{Overlay}
use Rattle.sg_layer.specs.Kinds.{is_of, events_of}
use Rattle.sg_layer.specs.Lists.{played_at}
use Rattle.sg_layer.specs.Lists.{plays_of as plays_of_entries}
use Rattle.sg_layer.specs.Shown.{IsLayer, plays_at, slot_of, slot_at, IsSlotAt}
use Rattle.sg_layer.specs.Shown.{entries_of as entries_of_layer}
use Rattle.sg_layer.proofs.OrderLemmas.{length_by_order}
use Rattle.sg_manifest.specs.Snapshot.{SnapshotRow, IsSnapshot, layout_ids}
use Rattle.sg_resolver.specs.declared.show.Show.{Show}
use Rattle.sg_resolver.specs.Lists.{entry_of, entries_of}
use Rattle.sg_resolver.specs.Shown.{show_of}
use Rattle.sg_resolver.proofs.ValidLemmas.{entries_sound, played_known, or_else_known, slot_there}
use Rattle.sg_overlay.specs.Over.{overlay_layer, overlay_events, over, IsOver}

-- the layer above the picture can be asked
pub overlay_sound : (s : SnapshotRow) (kept : Option (ℤ × ℤ)) → IsSnapshot s → IsLayer (overlay_layer s kept)
overlay_sound s kept v = record { normal = entries_sound s v Overlay; interrupts = tt; sharing = tt; default = tt }

-- the segment that is kept changes nothing of what is shown
pub kept_apart : (s : SnapshotRow) (kept : Option (ℤ × ℤ)) (t : ℤ) → slot_at (overlay_layer s kept) t ≡ slot_at (overlay_layer s None) t
unfolding slot_at
kept_apart s kept t = refl

pub over_some : (s : SnapshotRow) (kept : Option (ℤ × ℤ)) (t : ℤ) (slot : Slot) → Some slot ≡ slot_at (overlay_layer s kept) t → Some (show_of t slot) ≡ over s t
over_some s kept t slot is = ap (option_map (show_of t)) (is ∙ kept_apart s kept t)

pub over_none : (s : SnapshotRow) (kept : Option (ℤ × ℤ)) (t : ℤ) (o : Option Slot) → ((slot : Slot) → o ≡ Some slot → ⊥) → o ≡ slot_at (overlay_layer s kept) t → None ≡ over s t
over_none s kept t None none is = ap (option_map (show_of t)) (is ∙ kept_apart s kept t)
over_none s kept t (Some slot) none is = absurd (none slot refl)

pub over_closed : (s : SnapshotRow) (kept : Option (ℤ × ℤ)) (t : ℤ) (slot : Slot) (show : Show) → IsSlotAt (overlay_layer s kept) t slot → show ≡ show_of t slot → IsOver s t show
over_closed s kept t slot show h is = record { slot = slot; is = record { is = h.is; begun = h.begun; not_over = h.not_over }; show_is = is }

some_play : (ps : List Play) (is : List Interrupt) (t : ℤ) (slot : Slot) → Some slot ≡ slot_of ps is t → 0 < length ps
some_play [] is t slot h = absurd (cc)
some_play (p ∷ ps) is t slot h = omega arith

played : (s : SnapshotRow) (kept : Option (ℤ × ℤ)) (t : ℤ) (slot : Slot) → Some slot ≡ slot_at (overlay_layer s kept) t → 0 < length (plays_at (overlay_layer s kept) t)
unfolding slot_at
played s kept t slot is = some_play (plays_at (overlay_layer s kept) t) [] t slot is

-- what the slot shows is a layout of the snapshot
pub over_there : (s : SnapshotRow) (kept : Option (ℤ × ℤ)) (t : ℤ) (slot : Slot) → IsSnapshot s → Some slot ≡ slot_at (overlay_layer s kept) t → IsSlotAt (overlay_layer s kept) t slot → Contains (layout_ids s) slot.layout
over_there s kept t slot valid is h =
    let known = or_else_known s None (plays_of_entries (played_at t (entries_of s Overlay))) tt (played_known s t Overlay valid) in
    slot_there s (plays_at (overlay_layer s kept) t) [] slot (played s kept t slot is) known tt h.is

-- the layer has an entry for each event of layer 1
pub overlay_count : (s : SnapshotRow) (kept : Option (ℤ × ℤ)) → length (entries_of_layer (overlay_layer s kept)) ≡ length (overlay_events s)
overlay_count s kept = length-map (events_of Overlay s.events) (entry_of s) ∙ length_by_order (filter (is_of Overlay) s.events)
