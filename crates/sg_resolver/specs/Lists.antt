-- The two lists of plays that a snapshot's events make at a local second.
use Rattle.std.specs.Prelude.{ℕ, ◌==◌, List, map, filter, Option, None, Some, ℤ}
use Rattle.sg_base.specs.declared.ids.LayoutId.{LayoutId}
use Rattle.sg_base.specs.Layout.{longest}
use Rattle.sg_base.specs.Event.{EventValue}
use Rattle.sg_voice.specs.declared.play.Play.{Play}
use Rattle.sg_voice.specs.declared.play.Interrupt.{Interrupt}
use Rattle.sg_layer.specs.declared.entry.Entry.{Entry}
use Rattle.sg_layer.specs.declared.kind.Kind.{Kind}
use Rattle.sg_layer.specs.declared.kind.Kind.TheVariants.{Normal, Interrupt as Sharing}
use Rattle.sg_layer.specs.Kinds.{events_of}
use Rattle.sg_layer.specs.Shown.{LayerValue, plays_at, interrupts_at}
use Rattle.sg_manifest.specs.Snapshot.{SnapshotRow}
use Rattle.sg_resolver.specs.Rows.{regions_of, shown_by, daypart_of}

-- one play of a layout, as long as the layout
abbrev pub play_of : SnapshotRow → ℕ → LayoutId → Play
play_of s event layout = record { event = event; layout = layout.0; seconds = longest (regions_of s layout.0) }

-- an event is replaced by its layout, or by its campaign's layouts in order
abbrev pub plays_of : SnapshotRow → EventValue → List Play
plays_of s e = map (play_of s e.id.0) (shown_by s e.target)

-- an event with the daypart that it names, and with its plays
abbrev pub entry_of : SnapshotRow → EventValue → Entry
entry_of s e = record { event = e; daypart = daypart_of s e.when; plays = plays_of s e }

-- the entries of a kind, in its order
abbrev pub entries_of : SnapshotRow → Kind → List Entry
entries_of s kind = map (entry_of s) (events_of kind s.events)

-- the default layout's play, which belongs to no event
abbrev pub default_play : SnapshotRow → Play
default_play s = play_of s 0 s.default

-- the layer of the picture: normal events and interrupts, and the default layout where no normal event is there to be
-- shown
abbrev pub picture_layer : SnapshotRow → Option (ℤ × ℤ) → LayerValue
picture_layer s kept = record {
  normal = entries_of s Normal;
  interrupts = entries_of s Sharing;
  default = Some (default_play s);
  kept = kept;
}

-- the events of that layer
abbrev pub picture_events : SnapshotRow → List EventValue
picture_events s = filter (λ e. e.layer == 0) s.events

-- the normal plays at a local second: those of the active normal events of the greatest priority among them, by order and
-- id, or else the default layout's alone
abbrev pub normal_plays : SnapshotRow → ℤ → List Play
normal_plays s t = plays_at (picture_layer s None) t

-- the interrupts: the active ones of the greatest priority among them, by id
abbrev pub interrupts : SnapshotRow → ℤ → List Interrupt
interrupts s t = interrupts_at (picture_layer s None) t
