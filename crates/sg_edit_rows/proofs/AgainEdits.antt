-- The JSON of a valid row of an edit reads as the row.
use Rattle.std.proofs.Common.{◌≡◌, ◌≢◌, ◌+◌, ◌==◌, Bool, true, false, List, [], ◌∷◌, length, Option, Some, None, Ok, refl, lt-ltb, eqb-true, arith, not}
use Rattle.std.specs.Prelude.{if◌then◌else◌}
use Rattle.std.proofs.lemmas.Bool.{and_parts}
use Rattle.serde_json.specs.Data.{Data, Members}
use Rattle.std.specs.List.{AllByRecursion}
use Rattle.sg_base.specs.declared.ids.GroupId.{GroupId}
use Rattle.sg_base.specs.declared.ids.DisplayId.{DisplayId}
use Rattle.sg_rows.specs.declared.form.RowForm.{RowForm}
use Rattle.sg_rows.specs.declared.form.RowForm.TheVariants.{Version1, Version2, Edit}
use Rattle.sg_rows.specs.Rows.{IsDaypartRow, IsEventRow}
use Rattle.sg_base.specs.declared.row.Row.{Row}
use Rattle.sg_base.specs.declared.row.Row.TheVariants as row
use Rattle.sg_base.specs.declared.row.DisplayRow.{DisplayRow}
use Rattle.sg_base.specs.declared.row.EventRow.{EventRow}
use Rattle.sg_rows.specs.Text.{list_of, undated_json, flat_members, layered_members, event_json}
use Rattle.sg_rows.specs.Ids.{IsGroup, IsDisplayId, group_id_json, group_id_at, display_id_json, display_id_at}
use Rattle.sg_edit_rows.specs.EditRows.{IsDisplay, IsScheduled, IsRow, AreFew, few_at, group_json, group_at, display_json, display_at, IsListedEvent, IsEventIn, listed_at, event_row_json, event_row_at, scheduled_members, scheduled_json, scheduled_at, row_json, row_at}
use Rattle.sg_edit_rows.specs.Older.{is_by_month_weekday, is_older_event, older_scheduled_json, older_json}
use Rattle.sg_base.specs.Daypart.{DaypartRow}
use Rattle.sg_base.specs.Rows.{kind_of}
use Rattle.sg_rows.proofs.AgainRows.{list_again, id_again, layout_again, file_again}
use Rattle.sg_rows.proofs.AgainSchedules.{HasMembers, campaign_again, daypart_again, older_daypart_again, zone_again, parts_again, layer_again, made_event_again, event_again}

group_id_again : (g : GroupId) → IsGroup g → group_id_at (group_id_json g) ≡ Ok g
unfolding group_id_at
group_id_again g h = rw (id_again g.0 h) refl

display_id_again : (d : DisplayId) → IsDisplayId d → display_id_at (display_id_json d) ≡ Ok d
unfolding display_id_at
display_id_again d h = rw (id_again d.0 h) refl

groups_again : (gs : List GroupId) → AllByRecursion IsGroup gs → AreFew (λ g. g.0) gs → few_at group_id_at (λ g. g.0) (list_of group_id_json gs) ≡ Ok gs
groups_again gs h few = rw (list_again group_id_json group_id_at IsGroup group_id_again gs h, few) refl

displays_again : (ds : List DisplayId) → AllByRecursion IsDisplayId ds → AreFew (λ d. d.0) ds → few_at display_id_at (λ d. d.0) (list_of display_id_json ds) ≡ Ok ds
displays_again ds h few = rw (list_again display_id_json display_id_at IsDisplayId display_id_again ds h, few) refl

group_again : (g : GroupId) → IsGroup g → group_at (group_json g) ≡ Ok g
unfolding group_at
group_again g h = rw (id_again g.0 h) refl

display_again : (d : DisplayRow) → IsDisplay d → display_at (display_json d) ≡ Ok d
unfolding display_at
display_again d h =
    rw (id_again d.default.0 h.default, groups_again d.groups h.groups h.few, id_again d.id.0 h.id, h.key, zone_again d.zone h.zone) refl

-- ---- events of edits

members_scheduled : (e : EventRow) → IsEventRow Edit e.event → HasMembers Edit e.event (scheduled_json e)
members_scheduled e h = record {
  now = refl;
  all = refl;
  id = refl;
  layer = layer_again Edit e.event.layer h.layer;
  order = refl;
  priority = refl;
  repeat = refl;
  share = refl;
  target = refl;
  when = refl;
}

-- without its layer, where that is the picture's
members_older : (e : EventRow) → IsEventRow Edit e.event → e.event.layer ≡ 0 → HasMembers Edit e.event (older_scheduled_json e)
members_older e h flat = record {
  now = refl;
  all = refl;
  id = refl;
  layer = rw flat refl;
  order = refl;
  priority = refl;
  repeat = refl;
  share = refl;
  target = refl;
  when = refl;
}

-- an event with those that it is for, whatever members of its own it has
for_again : (e : EventRow) (ms : Members) → IsScheduled e → HasMembers Edit e.event (scheduled_members e ms) → scheduled_at (scheduled_members e ms) ≡ Ok e
unfolding scheduled_at
for_again e ms h own =
    rw (
      parts_again Edit e.event (scheduled_members e ms) h.event own,
      displays_again e.displays h.displays h.few_displays,
      groups_again e.groups h.groups h.few_groups,
      lt-ltb 0 (length e.displays + length e.groups) h.some,
      made_event_again Edit e.event h.event,
    ) refl

scheduled_again : (e : EventRow) → IsScheduled e → scheduled_at (scheduled_json e) ≡ Ok e
scheduled_again e h = for_again e (layered_members e.event) h (members_scheduled e h.event)

older_again : (e : EventRow) → IsScheduled e → e.event.layer ≡ 0 → scheduled_at (older_scheduled_json e) ≡ Ok e
older_again e h flat = for_again e (flat_members e.event) h (members_older e h.event flat)

-- ---- events in each form

listed_again : (form : RowForm) (e : EventRow) → form ≢ Edit → IsListedEvent form e → listed_at form (event_json form e.event) ≡ Ok e
listed_again form e other h = rw (event_again form e.event other h.event, ← h.displays, ← h.groups) refl

event_row_again : (form : RowForm) (e : EventRow) → IsEventIn form e → event_row_at form (event_row_json form e) ≡ Ok e
event_row_again Version1 e h = listed_again Version1 e (λ same. cc) h
event_row_again Version2 e h = listed_again Version2 e (λ same. cc) h
event_row_again Edit e h = scheduled_again e h

-- ---- rows

pub row_again : (form : RowForm) (r : Row) → IsRow form r → row_at (kind_of r) form (row_json form r) ≡ Ok r
row_again form (row.Media f) h = rw (file_again f h) refl
row_again form (row.Layout l) h = rw (layout_again l h) refl
row_again form (row.Campaign c) h = rw (campaign_again c h) refl
row_again form (row.Daypart d) h = rw (daypart_again form d h) refl
row_again form (row.Group g) h = rw (group_again g h) refl
row_again form (row.Display d) h = rw (display_again d h) refl
row_again form (row.Event e) h = rw (event_row_again form e h) refl

-- ---- rows of a server before version 2

none_counted : {A : Type 0} (xs : List A) → (length xs == 0) ≡ true → xs ≡ []
none_counted [] e = refl
none_counted (x ∷ xs) e = absurd (let long = eqb-true (length (x ∷ xs)) 0 e in omega (arith, long))

undated : (d : DaypartRow) → IsDaypartRow Edit d → d.dates ≡ [] → IsDaypartRow Version1 d
undated d h none = record {
  id = h.id;
  window = h.window;
  exceptions = h.exceptions;
  dates = h.dates;
  allowed = none;
  accepted = h.accepted;
}

pub json_if : (b : Bool) (one json : Data) → (if b then Some one else None) ≡ Some json → (b ≡ true) × (one ≡ json)
json_if true one json e = (refl, cc)
json_if false one json e = absurd (cc)

pub older_row_again : (r : Row) (json : Data) → IsRow Edit r → older_json r ≡ Some json → row_at (kind_of r) Edit json ≡ Ok r
older_row_again (row.Media f) json h e = absurd (cc)
older_row_again (row.Layout l) json h e = absurd (cc)
older_row_again (row.Campaign c) json h e = absurd (cc)
older_row_again (row.Daypart d) json h e =
    let is = json_if (length d.dates == 0) (undated_json d) json e in
    rw (← is.1, older_daypart_again d (undated d h (none_counted d.dates is.0))) refl
older_row_again (row.Group g) json h e = absurd (cc)
older_row_again (row.Display d) json h e = absurd (cc)
older_row_again (row.Event x) json h e =
    let is = json_if (is_older_event x.event) (older_scheduled_json x) json e in
    rw (← is.1, older_again x h (eqb-true x.event.layer 0 (and_parts (x.event.layer == 0) (not (is_by_month_weekday x.event.repeat)) is.0).0)) refl
