-- What is shown above the picture.
use Rattle.std.specs.Prelude.{◌≡◌, ◌==◌, List, [], filter, Option, None, option_map, ℤ}
use Rattle.sg_base.specs.Event.{EventValue}
use Rattle.sg_voice.specs.declared.play.Slot.{Slot}
use Rattle.sg_layer.specs.declared.kind.Kind.TheVariants.{Overlay}
use Rattle.sg_layer.specs.Shown.{LayerValue, slot_at, IsSlotAt}
use Rattle.sg_manifest.specs.Snapshot.{SnapshotRow}
use Rattle.sg_resolver.specs.declared.show.Show.{Show}
use Rattle.sg_resolver.specs.Lists.{entries_of}
use Rattle.sg_resolver.specs.Shown.{show_of}

-- the layer above the picture: the events of layer 1 by order and id, with no interrupt, and nothing that stands in
abbrev pub overlay_layer : SnapshotRow → Option (ℤ × ℤ) → LayerValue
overlay_layer s kept = record { normal = entries_of s Overlay; interrupts = []; default = None; kept = kept }

-- the events of that layer
abbrev pub overlay_events : SnapshotRow → List EventValue
overlay_events s = filter (λ e. e.layer == 1) s.events

-- what is shown above the picture at a local second: nothing where no event of layer 1 is active, and else the slot of the
-- hour that the active ones of the greatest priority among them fill in turn
abbrev pub over : SnapshotRow → ℤ → Option Show
over s t = option_map (show_of t) (slot_at (overlay_layer s None) t)

-- the same in closed form: a slot of that hour, by where its play begins, that has begun and isn't over
pub record IsOver (s : SnapshotRow) (t : ℤ) (show : Show) : Type 0 where
  pub slot : Slot
  pub is : IsSlotAt (overlay_layer s None) t slot
  pub show_is : show ≡ show_of t slot
