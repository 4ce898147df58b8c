-- Worked examples: the definitions give what was worked out by hand. Each is proved by computing it.
use Rattle.std.proofs.Common.{◌≡◌, ℕ, List, [], ◌∷◌, None, ℤ, pos, negsuc, refl}
use Rattle.sg_base.specs.declared.ids.MediaId.{MediaId}
use Rattle.sg_base.specs.declared.layout.Item.{Item}
use Rattle.sg_base.specs.declared.event.When.{When}
use Rattle.sg_base.specs.declared.event.When.TheVariants.{Always, Custom, Named}
use Rattle.sg_base.specs.declared.event.Target.{Target}
use Rattle.sg_base.specs.declared.event.Target.TheVariants.{Layout, Campaign}
use Rattle.sg_base.specs.declared.zone.ZoneRule.TheVariants.{Offset}
use Rattle.sg_base.specs.Layout.{LayoutRow}
use Rattle.sg_base.specs.Event.{EventValue}
use Rattle.sg_events.specs.Active.{any_below}
use Rattle.sg_voice.specs.Hour.{interrupt_plays, normal_count}
use Rattle.sg_layer.specs.Kinds.{by_order}
use Rattle.sg_manifest.specs.Snapshot.{SnapshotRow}
use Rattle.sg_resolver.specs.declared.show.Show.{Show}
use Rattle.sg_resolver.specs.Shown.{slot_at, shown, local_of, picture_of}

abbrev item : ℕ → ℕ → Item
item media seconds = record { media = record { 0 = media }; seconds = seconds }

-- a layout of one region
abbrev plain : ℕ → ℕ → LayoutRow
plain id seconds = record { id = record { 0 = id }; regions = (record { id = 1; items = item id seconds ∷ [] }) ∷ [] }

-- 25 s by its second region, while the first begins again after 10 s
abbrev two_regions : LayoutRow
two_regions = record {
  id = record { 0 = 6 };
  regions = (record { id = 1; items = item 1 4 ∷ item 2 6 ∷ [] }) ∷ (record { id = 9; items = item 3 7 ∷ item 4 18 ∷ [] }) ∷ [];
}

-- layouts of 10 s, 20 s, 30 s and a minute and that of two regions, a campaign of two of them, and a daypart from 8 to 10
abbrev ruled : ℤ → ℕ → List EventValue → SnapshotRow
ruled minutes first events = record {
  version = 1;
  zone = Offset minutes;
  default = record { 0 = first };
  layouts = plain 1 10 ∷ plain 2 20 ∷ plain 3 30 ∷ plain 4 60 ∷ two_regions ∷ [];
  campaigns = (record { id = record { 0 = 7 }; layouts = (record { 0 = 3 }) ∷ (record { 0 = 2 }) ∷ [] }) ∷ [];
  dayparts = (record { id = record { 0 = 8 }; window = record { start = 28800; end = 36000 }; exceptions = []; dates = [] }) ∷ [];
  events = events;
  files = [];
}

abbrev with : List EventValue → SnapshotRow
with events = ruled (pos 0) 1 events

abbrev event : ℕ → Target → When → ℕ → ℕ → ℕ → EventValue
event id target when order priority share = record {
  id = record { 0 = id };
  layer = 0;
  target = target;
  when = when;
  repeat = None;
  order = order;
  priority = priority;
  share = share;
}

abbrev over : ℕ → Target
over id = Layout (record { 0 = id })

abbrev at : ℕ → ℕ → ℕ → ℕ → Show
at e l start offset = record { event = e; layout = l; slot_start = pos start; offset = offset }

-- ---- The default layout and the zone ----

default_alone : (shown (with []) (pos 3599) ≡ at 0 1 3590 9) × (shown (with []) (pos 3600) ≡ at 0 1 3600 0)
unfolding slot_at by_order interrupt_plays normal_count
default_alone = (refl, refl)

-- before 1970 hours go on as after it
before_1970 : shown (with []) (negsuc 0) ≡ record { event = 0; layout = 1; slot_start = negsuc 9; offset = 9 }
unfolding slot_at by_order interrupt_plays normal_count
before_1970 = refl

fixed_offsets : (local_of (ruled (pos 90) 1 []) 0 ≡ pos 5400) × (local_of (ruled (negsuc 839) 1 []) 0 ≡ negsuc 50399) × (local_of (ruled (negsuc 839) 1 []) 50401 ≡ pos 1)
fixed_offsets = (refl, refl, refl)

-- ---- When an event is shown ----

-- an event is shown from its first second to its last, and its layout's plays are counted from the hour's start
abbrev timed : SnapshotRow
timed = with (event 5 (over 2) (Custom 1000 2000) 0 0 0 ∷ [])

time_of_its_own : (shown timed (pos 999) ≡ at 0 1 990 9) × (shown timed (pos 1000) ≡ at 5 2 1000 0) × (shown timed (pos 1999) ≡ at 5 2 1980 19) × (shown timed (pos 2000) ≡ at 0 1 2000 0)
unfolding slot_at by_order interrupt_plays normal_count any_below
time_of_its_own = (refl, refl, refl, refl)

-- from 8 to 10 of the first day of 1970
abbrev by_daypart : SnapshotRow
by_daypart = with (event 5 (over 2) (Named (record { 0 = 8 }) 0) 0 0 0 ∷ [])

time_of_a_daypart : (shown by_daypart (pos 28799) ≡ at 0 1 28790 9) × (shown by_daypart (pos 28800) ≡ at 5 2 28800 0) × (shown by_daypart (pos 35999) ≡ at 5 2 35980 19) × (shown by_daypart (pos 36000) ≡ at 0 1 36000 0)
unfolding slot_at by_order interrupt_plays normal_count any_below
time_of_a_daypart = (refl, refl, refl, refl)

-- ---- Which events are shown ----

-- the greater priority is shown alone while it is active
abbrev ranked : SnapshotRow
ranked = with (event 1 (over 2) (Custom 0 3000) 0 1 0 ∷ event 2 (over 3) (Custom 1000 2000) 0 2 0 ∷ [])

greater_priority : (shown ranked (pos 999) ≡ at 1 2 980 19) × (shown ranked (pos 1000) ≡ at 2 3 990 10) × (shown ranked (pos 1999) ≡ at 2 3 1980 19) × (shown ranked (pos 2000) ≡ at 1 2 2000 0)
unfolding slot_at by_order interrupt_plays normal_count any_below
greater_priority = (refl, refl, refl, refl)

-- equal priorities are shown in turn, by id
abbrev in_turn : ℕ → SnapshotRow
in_turn order = with (event 1 (over 2) Always order 1 0 ∷ event 2 (over 3) Always 0 1 0 ∷ [])

equal_priorities : (shown (in_turn 0) (pos 0) ≡ at 1 2 0 0) × (shown (in_turn 0) (pos 20) ≡ at 2 3 20 0) × (shown (in_turn 0) (pos 50) ≡ at 1 2 50 0)
unfolding slot_at by_order interrupt_plays normal_count any_below
equal_priorities = (refl, refl, refl)

-- and by order before id
greater_order : (shown (in_turn 5) (pos 0) ≡ at 2 3 0 0) × (shown (in_turn 5) (pos 30) ≡ at 1 2 30 0)
unfolding slot_at by_order interrupt_plays normal_count any_below
greater_order = (refl, refl)

-- a campaign shows its layouts in its own order, under the event's id
abbrev by_campaign : SnapshotRow
by_campaign = with (event 1 (Campaign (record { 0 = 7 })) Always 0 0 0 ∷ [])

campaign_order : (shown by_campaign (pos 0) ≡ at 1 3 0 0) × (shown by_campaign (pos 30) ≡ at 1 2 30 0) × (shown by_campaign (pos 50) ≡ at 1 3 50 0)
unfolding slot_at by_order interrupt_plays normal_count any_below
campaign_order = (refl, refl, refl)

-- ---- Interrupts ----

-- 600 s of 30 s are 20 plays among 50 of a minute: the first stands after two of these. Priorities of interrupts and of normal
-- events are not compared
abbrev interrupted : ℕ → SnapshotRow
interrupted priority = with (event 1 (over 4) Always 0 3 0 ∷ event 9 (over 3) Always 0 priority 600 ∷ [])

share_of_voice : (shown (interrupted 3) (pos 0) ≡ at 1 4 0 0) × (shown (interrupted 3) (pos 60) ≡ at 1 4 60 0) × (shown (interrupted 3) (pos 120) ≡ at 9 3 120 0) × (shown (interrupted 3) (pos 150) ≡ at 1 4 150 0)
unfolding slot_at by_order interrupt_plays normal_count any_below
share_of_voice = (refl, refl, refl, refl)

priorities_apart : (shown (interrupted 1) (pos 120) ≡ at 9 3 120 0) × (shown (interrupted 5) (pos 119) ≡ at 1 4 60 59)
unfolding slot_at by_order interrupt_plays normal_count any_below
priorities_apart = (refl, refl)

-- of two interrupts the one of the greater priority alone is shown: one play of 20 s, before the last of 60 plays of a minute
abbrev two_interrupts : SnapshotRow
two_interrupts = with (event 1 (over 4) Always 0 0 0 ∷ event 9 (over 3) Always 0 1 600 ∷ event 10 (over 2) Always 0 2 20 ∷ [])

greater_interrupt : (shown two_interrupts (pos 120) ≡ at 1 4 120 0) × (shown two_interrupts (pos 3540) ≡ at 10 2 3540 0) × (shown two_interrupts (pos 3599) ≡ at 1 4 3560 39)
unfolding slot_at by_order interrupt_plays normal_count any_below
greater_interrupt = (refl, refl, refl)

-- with no normal event the default layout is shown beside an interrupt: 300 plays of 10 s, and an interrupt before each 15th
abbrev interrupt_alone : SnapshotRow
interrupt_alone = with (event 9 (over 3) Always 0 0 600 ∷ [])

default_beside_interrupt : (shown interrupt_alone (pos 139) ≡ at 0 1 130 9) × (shown interrupt_alone (pos 140) ≡ at 9 3 140 0) × (shown interrupt_alone (pos 170) ≡ at 0 1 170 0)
unfolding slot_at by_order interrupt_plays normal_count any_below
default_beside_interrupt = (refl, refl, refl)

-- ---- Pictures ----

-- a shorter region begins again while the longest one goes on
abbrev pair : ℕ → ℕ → List (ℕ × MediaId)
pair first second = (1, record { 0 = first }) ∷ (9, record { 0 = second }) ∷ []

each_region : (picture_of (with []) (at 0 6 0 3) ≡ pair 1 3) × (picture_of (with []) (at 0 6 0 6) ≡ pair 2 3) × (picture_of (with []) (at 0 6 0 7) ≡ pair 2 4) × (picture_of (with []) (at 0 6 0 12) ≡ pair 1 4) × (picture_of (with []) (at 0 6 0 24) ≡ pair 2 4)
each_region = (refl, refl, refl, refl, refl)

-- 37 s after the hour the layout's second play is at 12 s
picture_shown : (shown (ruled (pos 0) 6 []) (pos 37) ≡ at 0 6 25 12) × (picture_of (ruled (pos 0) 6 []) (shown (ruled (pos 0) 6 []) (pos 37)) ≡ pair 1 4)
unfolding slot_at by_order interrupt_plays normal_count
picture_shown = (refl, refl)
