-- What a valid snapshot says of the plays and the interrupts that its events make.
use Rattle.std.proofs.Common.{◌≡◌, ℕ, ◌<◌, ◌≤◌, Bool, true, false, ◌&&◌, ◌||◌, eqb, nat_lt, List, [], ◌∷◌, length, map, Option, Some, None, refl, sym, subst, arith}
use Rattle.std.specs.List.{AllByRecursion, flat_map, find, Contains}
use Rattle.std.specs.Option.{option_map_or}
use Rattle.std.specs.Prelude.{ℤ, IfSome, if◌then◌else◌}
use Rattle.std.proofs.lemmas.Bool.Decides.{nat_tests}
use Rattle.std.proofs.lemmas.List.Elements.{All-from_recursion}
use Rattle.sg_base.specs.declared.ids.LayoutId.{LayoutId}
use Rattle.sg_base.specs.declared.campaign.Campaign.{Campaign as CampaignRow}
use Rattle.sg_base.specs.declared.event.When.{When}
use Rattle.sg_base.specs.declared.event.When.TheVariants.{Always, Custom, Named}
use Rattle.sg_base.specs.declared.event.Target.{Target}
use Rattle.sg_base.specs.declared.event.Target.TheVariants.{Layout, Campaign}
use Rattle.sg_base.specs.declared.event.EventFault.{EventFault}
use Rattle.sg_base.specs.declared.event.EventFault.TheVariants.{BigNumber, BigShare, InterruptCampaign}
use Rattle.sg_base.specs.Faults.{first_of}
use Rattle.sg_base.specs.Layout.{LayoutRow, longest}
use Rattle.sg_base.specs.Daypart.{DaypartRow, IsDaypart}
use Rattle.sg_base.specs.Event.{EventValue, IsEvent, is_campaign, numbers_fault, time_fault, repeat_fault, layer_fault}
use Rattle.sg_base.proofs.FaultLemmas.{first_none, if_none}
use Rattle.sg_base.proofs.LayoutLemmas.{HasBounds, layout_bounds}
use Rattle.sg_events.specs.Active.{HasDaypart as IsNamedBy}
use Rattle.sg_voice.specs.declared.play.Play.{Play}
use Rattle.sg_voice.specs.declared.play.Interrupt.{Interrupt}
use Rattle.sg_voice.specs.declared.play.Slot.{Slot}
use Rattle.sg_voice.specs.Hour.{IsPlay, interrupt_plays}
use Rattle.sg_voice.specs.Hour.{play_of as interrupt_play}
use Rattle.sg_voice.specs.Begin.{IsSlot, Full, Normal as NormalSlot, Between}
use Rattle.sg_voice.proofs.SoundLemmas.{all_append, all_interrupt_plays, at_cyclic}
use Rattle.sg_layer.specs.declared.entry.Entry.{Entry}
use Rattle.sg_layer.specs.declared.kind.Kind.{Kind}
use Rattle.sg_layer.specs.declared.kind.Kind.TheVariants.{Normal, Interrupt as Sharing}
use Rattle.sg_layer.specs.Kinds.{events_of}
use Rattle.sg_layer.specs.Lists.{IsEntry, IsSharing, played_at, or_else, first_play, interrupt_of}
use Rattle.sg_layer.specs.Lists.{plays_of as plays_of_entries}
use Rattle.sg_layer.specs.Shown.{IsLayer}
use Rattle.sg_layer.proofs.KindLemmas.{IsChosen, all_events}
use Rattle.sg_layer.proofs.SoundLemmas.{all_played}
use Rattle.sg_rows.specs.Rows.{IsLayoutRow, IsCampaignRow, IsDaypartRow, IsEventRow}
use Rattle.sg_manifest.specs.Snapshot.{SnapshotRow, IsSnapshot, HasTarget, HasDaypart, layout_ids, form_of}
use Rattle.sg_resolver.specs.Rows.{regions_of, shown_by, daypart_of}
use Rattle.sg_resolver.specs.Lists.{play_of, plays_of, entry_of, entries_of, default_play, picture_layer, normal_plays, interrupts}
use Rattle.sg_resolver.proofs.Found.{not_missing, found_passes}

-- a play of a layout of the snapshot
pub record IsKnown (s : SnapshotRow) (p : Play) : Type 0 where
  pub play : IsPlay p
  pub there : Contains (layout_ids s) p.layout

-- an event whose row is valid and whose target and daypart are there
pub record IsKnownEvent (s : SnapshotRow) (e : EventValue) : Type 0 where
  pub row : IsEventRow (form_of s.version) e
  pub target : HasTarget s e.target
  pub daypart : HasDaypart s e.when

-- an entry that can be asked, each of whose plays shows a layout of the snapshot
pub record IsKnownEntry (s : SnapshotRow) (x : Entry) : Type 0 where
  pub entry : IsEntry x
  pub plays : AllByRecursion (IsKnown s) x.plays

all_known : (s : SnapshotRow) (es : List EventValue) → AllByRecursion (IsEventRow (form_of s.version)) es → AllByRecursion (λ e. HasTarget s e.target) es → AllByRecursion (λ e. HasDaypart s e.when) es → AllByRecursion (IsKnownEvent s) es
all_known s [] rows targets dayparts = tt
all_known s (e ∷ es) rows targets dayparts = (record { row = rows.0; target = targets.0; daypart = dayparts.0 }, all_known s es rows.1 targets.1 dayparts.1)

events_known : (s : SnapshotRow) → IsSnapshot s → AllByRecursion (IsKnownEvent s) s.events
events_known s v = all_known s s.events v.rows.events v.named.targets v.named.dayparts

-- ---- How long a layout lasts ----

bounds_of_found : (ls : List LayoutRow) (id : ℕ) (o : Option LayoutRow) → AllByRecursion IsLayoutRow ls → find (λ l. eqb l.id.0 id) ls ≡ o → (o ≡ None → ⊥) → (0 < longest (option_map_or (λ l. l.regions) o [])) × (longest (option_map_or (λ l. l.regions) o []) ≤ 3600)
bounds_of_found ls id None all is some = absurd (some refl)
bounds_of_found ls id (Some l) all is some =
    let b : HasBounds l.regions = layout_bounds l.regions (found_passes IsLayoutRow (λ k. eqb k.id.0 id) ls l all is).accepted.sound in
    (b.some, b.few)

seconds_bounds : (s : SnapshotRow) → IsSnapshot s → (id : ℕ) → Contains (layout_ids s) id → (0 < longest (regions_of s id)) × (longest (regions_of s id) ≤ 3600)
seconds_bounds s v id there = bounds_of_found s.layouts id (find (λ l. eqb l.id.0 id) s.layouts) v.rows.layouts refl (not_missing (λ (l : LayoutRow). l.id.0) s.layouts id there)

-- ---- The plays of an event ----

play_known : (s : SnapshotRow) → IsSnapshot s → (event : ℕ) (l : LayoutId) → Contains (layout_ids s) l.0 → IsKnown s (play_of s event l)
play_known s v event l there =
    let b = seconds_bounds s v l.0 there in
    record { play = record { some = b.0; few = b.1 }; there = there }

layouts_known : (s : SnapshotRow) → IsSnapshot s → (event : ℕ) (ls : List LayoutId) → AllByRecursion (λ l. Contains (layout_ids s) l.0) ls → AllByRecursion (IsKnown s) (map (play_of s event) ls)
layouts_known s v event [] all = tt
layouts_known s v event (l ∷ ls) all = (play_known s v event l all.0, layouts_known s v event ls all.1)

campaign_known : (s : SnapshotRow) (cs : List CampaignRow) (id : ℕ) (o : Option CampaignRow) → AllByRecursion (λ c. AllByRecursion (λ l. Contains (layout_ids s) l.0) c.layouts) cs → find (λ c. eqb c.id.0 id) cs ≡ o → AllByRecursion (λ l. Contains (layout_ids s) l.0) (option_map_or (λ c. c.layouts) o [])
campaign_known s cs id None all is = tt
campaign_known s cs id (Some c) all is = found_passes (λ (d : CampaignRow). AllByRecursion (λ (l : LayoutId). Contains (layout_ids s) l.0) d.layouts) (λ d. eqb d.id.0 id) cs c all is

shown_known : (s : SnapshotRow) → IsSnapshot s → (target : Target) → HasTarget s target → AllByRecursion (λ l. Contains (layout_ids s) l.0) (shown_by s target)
shown_known s v (Layout id) there = (there, tt)
shown_known s v (Campaign id) there = campaign_known s s.campaigns id.0 (find (λ c. eqb c.id.0 id.0) s.campaigns) v.named.campaigns refl

campaign_some : (cs : List CampaignRow) (id : ℕ) (o : Option CampaignRow) → AllByRecursion IsCampaignRow cs → find (λ c. eqb c.id.0 id) cs ≡ o → (o ≡ None → ⊥) → 0 < length (option_map_or (λ c. c.layouts) o [])
campaign_some cs id None all is some = absurd (some refl)
campaign_some cs id (Some c) all is some = omega (arith, (found_passes IsCampaignRow (λ d. eqb d.id.0 id) cs c all is).some)

shown_some : (s : SnapshotRow) → IsSnapshot s → (target : Target) → HasTarget s target → 0 < length (shown_by s target)
shown_some s v (Layout id) there = omega arith
shown_some s v (Campaign id) there = campaign_some s.campaigns id.0 (find (λ c. eqb c.id.0 id.0) s.campaigns) v.rows.campaigns refl (not_missing (λ (c : CampaignRow). c.id.0) s.campaigns id.0 there)

length_plays : (s : SnapshotRow) (event : ℕ) (ls : List LayoutId) → length (map (play_of s event) ls) ≡ length ls
length_plays s event [] = refl
length_plays s event (l ∷ ls) = omega (arith, length_plays s event ls)

plays_valid : (s : SnapshotRow) (ps : List Play) → AllByRecursion (IsKnown s) ps → AllByRecursion IsPlay ps
plays_valid s [] all = tt
plays_valid s (p ∷ ps) all = (all.0.play, plays_valid s ps all.1)

-- ---- The daypart that an event names ----

daypart_named : (s : SnapshotRow) → IsSnapshot s → (w : When) → HasDaypart s w → IsNamedBy w (daypart_of s w)
daypart_named s v Always there = tt
daypart_named s v (Custom from to) there = tt
daypart_named s v (Named daypart base) there = go (find (λ d. eqb d.id.0 daypart.0) s.dayparts) refl
  where
    go : (o : Option DaypartRow) → find (λ d. eqb d.id.0 daypart.0) s.dayparts ≡ o → IsNamedBy (Named daypart base) o
    go None is = not_missing (λ (d : DaypartRow). d.id.0) s.dayparts daypart.0 there is
    go (Some d) is = tt

daypart_found : (s : SnapshotRow) (id : ℕ) (o : Option DaypartRow) → AllByRecursion (IsDaypartRow (form_of s.version)) s.dayparts → find (λ d. eqb d.id.0 id) s.dayparts ≡ o → IfSome o IsDaypart
daypart_found s id None rows is = tt
daypart_found s id (Some d) rows is = (found_passes (IsDaypartRow (form_of s.version)) (λ r. eqb r.id.0 id) s.dayparts d rows is).accepted

daypart_sound : (s : SnapshotRow) → IsSnapshot s → (w : When) → IfSome (daypart_of s w) IsDaypart
daypart_sound s v Always = tt
daypart_sound s v (Custom from to) = tt
daypart_sound s v (Named daypart base) = daypart_found s daypart.0 (find (λ d. eqb d.id.0 daypart.0) s.dayparts) v.rows.dayparts refl

-- ---- The entries ----

entry_known : (s : SnapshotRow) → IsSnapshot s → (e : EventValue) → IsKnownEvent s e → IsKnownEntry s (entry_of s e)
entry_known s v e h =
    let plays = layouts_known s v e.id.0 (shown_by s e.target) (shown_known s v e.target h.target) in
    record {
      entry = record {
        named = daypart_named s v e.when h.daypart;
        daypart = daypart_sound s v e.when;
        some = omega (arith, length_plays s e.id.0 (shown_by s e.target), shown_some s v e.target h.target);
        plays = plays_valid s (plays_of s e) plays;
      };
      plays = plays;
    }

all_entries : (s : SnapshotRow) → IsSnapshot s → (kind : Kind) (es : List EventValue) → AllByRecursion (IsChosen (IsKnownEvent s) kind) es → AllByRecursion (IsKnownEntry s) (map (entry_of s) es)
all_entries s v kind [] all = tt
all_entries s v kind (e ∷ es) all = (entry_known s v e all.0.known, all_entries s v kind es all.1)

-- the entries of a kind are known
pub entries_known : (s : SnapshotRow) → IsSnapshot s → (kind : Kind) → AllByRecursion (IsKnownEntry s) (entries_of s kind)
entries_known s v kind = all_entries s v kind (events_of kind s.events) (all_events (IsKnownEvent s) kind s.events (events_known s v))

all_asked : (s : SnapshotRow) (xs : List Entry) → AllByRecursion (IsKnownEntry s) xs → AllByRecursion IsEntry xs
all_asked s [] all = tt
all_asked s (x ∷ xs) all = (all.0.entry, all_asked s xs all.1)

pub entries_sound : (s : SnapshotRow) → IsSnapshot s → (kind : Kind) → AllByRecursion IsEntry (entries_of s kind)
entries_sound s v kind = all_asked s (entries_of s kind) (entries_known s v kind)

-- ---- The normal plays ----

flat_known : (s : SnapshotRow) (xs : List Entry) → AllByRecursion (IsKnownEntry s) xs → AllByRecursion (IsKnown s) (plays_of_entries xs)
flat_known s [] all = tt
flat_known s (x ∷ xs) all = all_append (IsKnown s) x.plays (flat_map (λ z. z.plays) xs) all.0.plays (flat_known s xs all.1)

pub or_else_known : (s : SnapshotRow) (default : Option Play) (ps : List Play) → IfSome default (IsKnown s) → AllByRecursion (IsKnown s) ps → AllByRecursion (IsKnown s) (or_else default ps)
or_else_known s None [] known all = tt
or_else_known s (Some p) [] known all = (known, tt)
or_else_known s None (p ∷ ps) known all = all
or_else_known s (Some q) (p ∷ ps) known all = all

or_else_some : (p : Play) (ps : List Play) → 0 < length (or_else (Some p) ps)
or_else_some p [] = omega arith
or_else_some p (q ∷ qs) = omega arith

pub played_known : (s : SnapshotRow) (t : ℤ) (kind : Kind) → IsSnapshot s → AllByRecursion (IsKnown s) (plays_of_entries (played_at t (entries_of s kind)))
played_known s t kind v = flat_known s (played_at t (entries_of s kind)) (all_played (IsKnownEntry s) t (entries_of s kind) (entries_known s v kind))

pub normal_known : (s : SnapshotRow) (t : ℤ) → IsSnapshot s → AllByRecursion (IsKnown s) (normal_plays s t)
normal_known s t v = or_else_known s (Some (default_play s)) (plays_of_entries (played_at t (entries_of s Normal))) (play_known s v 0 s.default v.named.default) (played_known s t Normal v)

pub normal_some : (s : SnapshotRow) (t : ℤ) → 0 < length (normal_plays s t)
normal_some s t = or_else_some (default_play s) (plays_of_entries (played_at t (entries_of s Normal)))

-- ---- The interrupts ----

share_of : (e : EventValue) → IsEvent e → e.share ≤ 3600
share_of e h =
    let own = first_none (numbers_fault e.target e.order e.priority e.share) (first_of (time_fault e.when) (first_of (repeat_fault e.when e.repeat) (layer_fault e.layer e.target e.share))) h.sound in
    let last : Option EventFault = if nat_lt 0 e.share && is_campaign e.target then Some InterruptCampaign else None in
    let numbers = if_none (nat_lt 65535 e.order || nat_lt 65535 e.priority) BigNumber (if nat_lt 3600 e.share then Some BigShare else last) own.0 in
    let share = if_none (nat_lt 3600 e.share) BigShare last numbers.1 in
    let most : nat_lt 3600 e.share ≡ false = share.0 in
    grind (arith, nat_tests)

first_true : (a b : Bool) → (a && b) ≡ true → b ≡ true
first_true true b h = h
first_true false b h = absurd (cc)

all_sharing : (s : SnapshotRow) (es : List EventValue) → AllByRecursion (IsChosen (IsKnownEvent s) Sharing) es → AllByRecursion IsSharing (map (entry_of s) es)
all_sharing s [] all = tt
all_sharing s (e ∷ es) all =
    let shared : nat_lt 0 e.share ≡ true = first_true (eqb e.layer 0) (nat_lt 0 e.share) all.0.chosen in
    (record { some = grind (arith, nat_tests); few = share_of e all.0.known.row.accepted }, all_sharing s es all.1)

-- the layer of the picture can be asked
pub picture_sound : (s : SnapshotRow) (kept : Option (ℤ × ℤ)) → IsSnapshot s → IsLayer (picture_layer s kept)
picture_sound s kept v = record {
  normal = entries_sound s v Normal;
  interrupts = entries_sound s v Sharing;
  sharing = all_sharing s (events_of Sharing s.events) (all_events (IsKnownEvent s) Sharing s.events (events_known s v));
  default = (play_known s v 0 s.default v.named.default).play;
}

first_there : (s : SnapshotRow) (ps : List Play) → 0 < length ps → AllByRecursion (IsKnown s) ps → Contains (layout_ids s) (first_play ps).layout
first_there s [] some all = absurd (omega (arith, some))
first_there s (p ∷ ps) some all = all.0.there

all_there : (s : SnapshotRow) (xs : List Entry) → AllByRecursion (IsKnownEntry s) xs → AllByRecursion (λ i. Contains (layout_ids s) (interrupt_play i).layout) (map interrupt_of xs)
all_there s [] all = tt
all_there s (x ∷ xs) all = (first_there s x.plays all.0.entry.some all.0.plays, all_there s xs all.1)

pub interrupts_there : (s : SnapshotRow) (t : ℤ) → IsSnapshot s → AllByRecursion (λ i. Contains (layout_ids s) (interrupt_play i).layout) (interrupts s t)
interrupts_there s t v = all_there s (played_at t (entries_of s Sharing)) (all_played (IsKnownEntry s) t (entries_of s Sharing) (entries_known s v Sharing))

-- ---- What a slot shows ----

plays_there : (s : SnapshotRow) (ps : List Play) → AllByRecursion (IsKnown s) ps → AllByRecursion (λ p. Contains (layout_ids s) p.layout) ps
plays_there s [] all = tt
plays_there s (p ∷ ps) all = (all.0.there, plays_there s ps all.1)

-- the layout of each slot of the hour is the snapshot's
pub slot_there : (s : SnapshotRow) (ns : List Play) (is : List Interrupt) (slot : Slot) → 0 < length ns → AllByRecursion (IsKnown s) ns → AllByRecursion (λ i. Contains (layout_ids s) (interrupt_play i).layout) is → IsSlot ns (interrupt_plays is) slot → Contains (layout_ids s) slot.layout
slot_there s ns is slot some normal shared (Full full h) =
    let P : Play → Type 0 = λ p. Contains (layout_ids s) p.layout in
    let here : P h.play = subst P h.at (All-from_recursion P (interrupt_plays is) (all_interrupt_plays P is shared) h.x h.play h.one) in
    subst (λ (z : Slot). Contains (layout_ids s) z.layout) (sym h.is) here
slot_there s ns is slot some normal shared (NormalSlot room h) =
    let P : Play → Type 0 = λ p. Contains (layout_ids s) p.layout in
    subst (λ (z : Slot). Contains (layout_ids s) z.layout) (sym h.is) (at_cyclic P ns h.j some (plays_there s ns normal))
slot_there s ns is slot some normal shared (Between room h) =
    let P : Play → Type 0 = λ p. Contains (layout_ids s) p.layout in
    let here : P h.play = subst P h.at (All-from_recursion P (interrupt_plays is) (all_interrupt_plays P is shared) h.x h.play h.one) in
    subst (λ (z : Slot). Contains (layout_ids s) z.layout) (sym h.is) here
