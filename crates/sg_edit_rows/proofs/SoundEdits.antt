-- The JSON of a valid row is plain and shallow, so its text reads back.
use Rattle.std.proofs.Common.{◌≡◌, ◌==◌, length, Option, Some, None, refl}
use Rattle.serde_json.specs.Data.{Data, Members, object}
use Rattle.serde_json.specs.Read.{read}
use Rattle.serde_json.specs.Written.{compact_text}
use Rattle.sg_base.specs.declared.ids.GroupId.{GroupId}
use Rattle.sg_base.specs.declared.ids.DisplayId.{DisplayId}
use Rattle.sg_base.specs.declared.row.Row.{Row}
use Rattle.sg_base.specs.declared.row.Row.TheVariants as row
use Rattle.sg_base.specs.declared.row.DisplayRow.{DisplayRow}
use Rattle.sg_base.specs.declared.row.EventRow.{EventRow}
use Rattle.sg_rows.specs.declared.form.RowForm.{RowForm}
use Rattle.sg_rows.specs.declared.form.RowForm.TheVariants.{Version1, Version2, Edit}
use Rattle.sg_rows.specs.Ids.{IsGroup, IsDisplayId, group_id_json, display_id_json}
use Rattle.sg_rows.specs.Text.{undated_json, flat_members, layered_members}
use Rattle.sg_rows.proofs.CompactSound.{Sound, AreMembersSound, Sound-string, Sound-list, Sound-object, Sound-deeper, are_keys, read-Sound}
use Rattle.sg_rows.proofs.SoundRows.{id_sound, layout_sound, campaign_sound, undated_sound, daypart_sound, layer_sound, last_sound, event_sound, file_sound, zone_sound}
use Rattle.sg_edit_rows.specs.EditRows.{IsDisplay, IsScheduled, IsEventIn, IsRow, group_json, display_json, scheduled_members, scheduled_json, event_row_json, row_json}
use Rattle.sg_edit_rows.specs.Older.{is_older_event, older_scheduled_json, older_json}
use Rattle.sg_edit_rows.proofs.AgainEdits.{json_if}
use Rattle.sg_base.proofs.TextLemmas.{utf8_of_key}

group_id_sound : (g : GroupId) → IsGroup g → Sound 3 (group_id_json g)
group_id_sound g h = id_sound _ h

display_id_sound : (d : DisplayId) → IsDisplayId d → Sound 3 (display_id_json d)
display_id_sound d h = id_sound _ h

group_sound : (g : GroupId) → IsGroup g → Sound 7 (group_json g)
group_sound g h = Sound-object refl (id_sound _ h, tt)

display_sound : (d : DisplayRow) → IsDisplay d → Sound 7 (display_json d)
display_sound d h =
    Sound-object refl (
      id_sound _ h.default,
      (
        Sound-deeper refl (Sound-list group_id_sound d.groups h.groups),
        (id_sound _ h.id, (Sound-string d.key (utf8_of_key d.key h.key), (zone_sound d.zone h.zone, tt))),
      ),
    )

scheduled_sound : (e : EventRow) → IsScheduled e → Sound 5 (scheduled_json e)
scheduled_sound e h =
    Sound-object refl (
      Sound-list display_id_sound e.displays h.displays,
      (
        Sound-list group_id_sound e.groups h.groups,
        (id_sound _ h.event.id, (layer_sound Edit e.event.layer h.event.layer, last_sound Edit e.event h.event)),
      ),
    )

older_sound : (e : EventRow) → IsScheduled e → Sound 5 (older_scheduled_json e)
older_sound e h =
    Sound-object refl (
      Sound-list display_id_sound e.displays h.displays,
      (Sound-list group_id_sound e.groups h.groups, (id_sound _ h.event.id, last_sound Edit e.event h.event)),
    )

event_row_sound : (form : RowForm) (e : EventRow) → IsEventIn form e → Sound 5 (event_row_json form e)
event_row_sound Version1 e h = event_sound Version1 e.event h.event
event_row_sound Version2 e h = event_sound Version2 e.event h.event
event_row_sound Edit e h = scheduled_sound e h

row_sound : (form : RowForm) (r : Row) → IsRow form r → Sound 7 (row_json form r)
row_sound form (row.Media f) h = Sound-deeper refl (file_sound f h)
row_sound form (row.Layout l) h = Sound-deeper refl (layout_sound l h)
row_sound form (row.Campaign c) h = Sound-deeper refl (campaign_sound c h)
row_sound form (row.Daypart d) h = Sound-deeper refl (daypart_sound form d h)
row_sound form (row.Group g) h = group_sound g h
row_sound form (row.Display d) h = display_sound d h
row_sound form (row.Event e) h = Sound-deeper refl (event_row_sound form e h)

pub text_again : (form : RowForm) (r : Row) → IsRow form r → read (compact_text (row_json form r)) ≡ Some (row_json form r)
text_again form r h = read-Sound refl (row_sound form r h)

pub older_text_again : (r : Row) (json : Data) → IsRow Edit r → older_json r ≡ Some json → read (compact_text json) ≡ Some json
older_text_again (row.Media f) json h e = absurd (cc)
older_text_again (row.Layout l) json h e = absurd (cc)
older_text_again (row.Campaign c) json h e = absurd (cc)
older_text_again (row.Daypart d) json h e =
    let is = json_if (length d.dates == 0) (undated_json d) json e in
    rw (← is.1) (read-Sound refl (undated_sound Edit d h))
older_text_again (row.Group g) json h e = absurd (cc)
older_text_again (row.Display d) json h e = absurd (cc)
older_text_again (row.Event x) json h e =
    let is = json_if (is_older_event x.event) (older_scheduled_json x) json e in
    rw (← is.1) (read-Sound refl (older_sound x h))
