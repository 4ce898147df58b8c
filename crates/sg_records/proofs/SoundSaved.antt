-- The JSON of what is kept is plain and shallow, so its text reads back.
use Rattle.std.proofs.Common.{◌≡◌, ℕ, ◌^◌, ◌<◌, ◌≤◌, ◌==◌, ◌&&◌, ◌||◌, nat_le, nat_lt, true, false, eqb, Some, refl, arith}
use Rattle.std.proofs.lemmas.Bool.{and_parts, eqb-true, leb-true, ltb-true}
use Rattle.serde_json.specs.Data.{Data, string}
use Rattle.sg_base.specs.declared.ids.DisplayId.{DisplayId}
use Rattle.sg_base.specs.declared.ids.GroupId.{GroupId}
use Rattle.sg_base.specs.declared.kind.Kind.{Kind}
use Rattle.sg_base.specs.declared.kind.Kind.TheVariants as kind
use Rattle.sg_base.specs.declared.row.Row.{Row}
use Rattle.sg_base.specs.declared.row.Row.TheVariants as row
use Rattle.sg_base.specs.declared.row.DisplayRow.{DisplayRow}
use Rattle.sg_base.specs.declared.row.EventRow.{EventRow}
use Rattle.sg_base.specs.Names.{kind_name}
use Rattle.sg_edit_rows.specs.EditRows.{IsDisplay, IsRow, IsScheduled, display_json, row_json, scheduled_json}
use Rattle.sg_edit_rows.specs.Older.{is_older_event, older_json, older_scheduled_json}
use Rattle.sg_edit_rows.proofs.AgainEdits.{json_if}
use Rattle.sg_base.proofs.TextLemmas.{utf8_of_key}
use Rattle.sg_rows.specs.declared.form.RowForm.TheVariants.{Edit}
use Rattle.sg_rows.specs.Ids.{IsDisplayId, IsGroup, display_id_json, group_id_json}
use Rattle.sg_rows.specs.Text.{undated_json, whole}
use Rattle.sg_rows.proofs.CompactSound.{Sound, Sound-deeper, Sound-list, Sound-literal, Sound-object, Sound-string, Sound-unsigned}
use Rattle.sg_rows.proofs.SoundRows.{campaign_sound, daypart_sound, file_sound, id_sound, last_sound, layer_sound, layout_sound, undated_sound, zone_sound}
use Rattle.sg_records.specs.declared.client.Client.{Client}
use Rattle.sg_records.specs.declared.reply.FaultName.{FaultName}
use Rattle.sg_records.specs.declared.reply.FaultName.TheVariants as fault
use Rattle.sg_records.specs.declared.reply.Reply.{Reply}
use Rattle.sg_records.specs.declared.reply.Reply.TheVariants.{Done, Unknown, InUse, Exists, Full, Sequence, Invalid}
use Rattle.sg_records.specs.declared.epoch.Epoch.{Epoch}
use Rattle.sg_records.specs.Numbers.{is_epoch}
use Rattle.sg_base.specs.declared.limits.TheConstants.{MAX_EPOCH}
use Rattle.sg_records.specs.Clients.{IsClient, client_json, is_id, is_kept, is_limit, is_row}
use Rattle.sg_records.specs.Replies.{fault_name, of_row, reply_json, status_of}

-- ---- replies

kind_sound : {n : ℕ} (k : Kind) → Sound n (string (kind_name k))
kind_sound kind.Media = Sound-literal _ refl
kind_sound kind.Layout = Sound-literal _ refl
kind_sound kind.Campaign = Sound-literal _ refl
kind_sound kind.Daypart = Sound-literal _ refl
kind_sound kind.Group = Sound-literal _ refl
kind_sound kind.Display = Sound-literal _ refl
kind_sound kind.Event = Sound-literal _ refl
kind_sound kind.Client = Sound-literal _ refl

fault_sound : {n : ℕ} (f : FaultName) → Sound n (string (fault_name f))
fault_sound fault.Shape = Sound-literal _ refl
fault_sound fault.Later = Sound-literal _ refl
fault_sound fault.Layout = Sound-literal _ refl
fault_sound fault.Daypart = Sound-literal _ refl
fault_sound fault.Repeat = Sound-literal _ refl
fault_sound fault.Event = Sound-literal _ refl
fault_sound fault.Zone = Sound-literal _ refl
fault_sound fault.NoReplace = Sound-literal _ refl
fault_sound fault.Incomplete = Sound-literal _ refl

small : {n : ℕ} (k : ℕ) → k < 2 ^ 32 → Sound n (whole k)
small k h = Sound-unsigned k (omega arith)

pub id_fits : (n : ℕ) → is_id n ≡ true → n < 2 ^ 32
id_fits n e = ltb-true n (2 ^ 32) (and_parts _ _ e).1

pub row_fits : (k : Kind) (id : ℕ) → is_row k id ≡ true → id < 2 ^ 32
row_fits k id e = id_fits id (and_parts _ _ e).1

one_of : (limit a b : ℕ) → a < 2 ^ 32 → b < 2 ^ 32 → ((limit == a) || (limit == b)) ≡ true → limit < 2 ^ 32
one_of limit a b p q e = elim (eqb limit a) as (λ c. eqb limit a ≡ c → (c || (limit == b)) ≡ true → limit < 2 ^ 32) [
  | true ↦ (λ is _. let same = eqb-true limit a is in omega (arith, same))
  | false ↦ (λ _ h. let same = eqb-true limit b h in omega (arith, same))
] refl e

pub limit_fits : (k : Kind) (limit : ℕ) → is_limit k limit ≡ true → limit < 2 ^ 32
limit_fits kind.Media limit e = one_of limit 2000 536870912 (omega arith) (omega arith) e
limit_fits kind.Layout limit e = let same = eqb-true limit 2000 e in omega (arith, same)
limit_fits kind.Campaign limit e = let same = eqb-true limit 500 e in omega (arith, same)
limit_fits kind.Daypart limit e = let same = eqb-true limit 200 e in omega (arith, same)
limit_fits kind.Group limit e = let same = eqb-true limit 500 e in omega (arith, same)
limit_fits kind.Display limit e = let same = eqb-true limit 2000 e in omega (arith, same)
limit_fits kind.Event limit e = let same = eqb-true limit 5000 e in omega (arith, same)
limit_fits kind.Client limit e = absurd (cc)

of_row_sound : (k : Kind) (id : ℕ) (d : Data) → id < 2 ^ 32 → Sound 1 d → Sound 2 (of_row k id d)
of_row_sound k id d h s = Sound-object refl (small id h, (kind_sound k, (s, tt)))

pub reply_sound : (last : ℕ) (r : Reply) → last < 2 ^ 32 → is_kept last r ≡ true → Sound 2 (reply_json r)
reply_sound last (Done seq) h e = let same = eqb-true seq last e in Sound-object refl (small seq (omega (arith, same)), tt)
reply_sound last (Unknown k id) h e = of_row_sound k id _ (row_fits k id e) (Sound-literal _ refl)
reply_sound last (InUse k id by_k by_id) h e =
    let p = and_parts _ _ e in
    Sound-object refl (
      Sound-object refl (small by_id (row_fits by_k by_id p.1), (kind_sound by_k, tt)),
      (small id (row_fits k id p.0), (kind_sound k, (Sound-literal _ refl, tt))),
    )
reply_sound last (Exists k id) h e = of_row_sound k id _ (row_fits k id e) (Sound-literal _ refl)
reply_sound last (Full k limit) h e = Sound-object refl (kind_sound k, (small limit (limit_fits k limit e), (Sound-literal _ refl, tt)))
reply_sound last (Sequence expected) h e = absurd (cc)
reply_sound last (Invalid f) h e = Sound-object refl (fault_sound f, (Sound-literal _ refl, tt))

status_small : (r : Reply) → status_of r < 2 ^ 32
status_small (Done seq) = omega arith
status_small (Unknown k id) = omega arith
status_small (InUse k id by_k by_id) = omega arith
status_small (Exists k id) = omega arith
status_small (Full k limit) = omega arith
status_small (Sequence expected) = omega arith
status_small (Invalid f) = omega arith

pub client_sound : (c : Client) → IsClient c → Sound 3 (client_json c)
client_sound c h =
    let p = and_parts _ _ h in let q = and_parts _ _ p.1 in
    Sound-object refl (small c.last (id_fits c.last q.0), (reply_sound c.last c.reply (id_fits c.last q.0) q.1, (small (status_of c.reply) (status_small c.reply), tt)))

-- ---- rows

group_id_sound : (g : GroupId) → IsGroup g → Sound 3 (group_id_json g)
group_id_sound g h = id_sound _ h

display_id_sound : (d : DisplayId) → IsDisplayId d → Sound 3 (display_id_json d)
display_id_sound d h = id_sound _ h

display_sound : (d : DisplayRow) → IsDisplay d → Sound 7 (display_json d)
display_sound d h =
    Sound-object refl (
      id_sound _ h.default,
      (
        Sound-deeper refl (Sound-list group_id_sound d.groups h.groups),
        (id_sound _ h.id, (Sound-string d.key (utf8_of_key d.key h.key), (zone_sound d.zone h.zone, tt))),
      ),
    )

scheduled_sound : (e : EventRow) → IsScheduled e → Sound 5 (scheduled_json e)
scheduled_sound e h =
    Sound-object refl (
      Sound-list display_id_sound e.displays h.displays,
      (
        Sound-list group_id_sound e.groups h.groups,
        (id_sound _ h.event.id, (layer_sound Edit e.event.layer h.event.layer, last_sound Edit e.event h.event)),
      ),
    )

older_event_sound : (e : EventRow) → IsScheduled e → Sound 5 (older_scheduled_json e)
older_event_sound e h =
    Sound-object refl (
      Sound-list display_id_sound e.displays h.displays,
      (Sound-list group_id_sound e.groups h.groups, (id_sound _ h.event.id, last_sound Edit e.event h.event)),
    )

pub row_sound : (r : Row) → IsRow Edit r → Sound 7 (row_json Edit r)
row_sound (row.Media f) h = Sound-deeper refl (file_sound f h)
row_sound (row.Layout l) h = Sound-deeper refl (layout_sound l h)
row_sound (row.Campaign c) h = Sound-deeper refl (campaign_sound c h)
row_sound (row.Daypart d) h = Sound-deeper refl (daypart_sound Edit d h)
row_sound (row.Group g) h = Sound-object refl (id_sound _ h, tt)
row_sound (row.Display d) h = display_sound d h
row_sound (row.Event e) h = Sound-deeper refl (scheduled_sound e h)

pub older_sound : (r : Row) (json : Data) → IsRow Edit r → older_json r ≡ Some json → Sound 7 json
older_sound (row.Media f) json h e = absurd (cc)
older_sound (row.Layout l) json h e = absurd (cc)
older_sound (row.Campaign c) json h e = absurd (cc)
older_sound (row.Daypart d) json h e =
    let is = json_if _ (undated_json d) json e in
    rw (← is.1) (Sound-deeper refl (undated_sound Edit d h))
older_sound (row.Group g) json h e = absurd (cc)
older_sound (row.Display d) json h e = absurd (cc)
older_sound (row.Event x) json h e =
    let is = json_if (is_older_event x.event) (older_scheduled_json x) json e in
    rw (← is.1) (Sound-deeper refl (older_event_sound x h))

-- ---- epochs

pub plays_few : (limit : ℕ) (e : Epoch) → is_epoch limit e ≡ true → e.plays ≤ limit
plays_few limit e h =
    let some = and_parts (is_id e.display) (nat_lt 0 e.epoch && (nat_le e.epoch MAX_EPOCH && nat_le e.plays limit)) h in
    let many = and_parts (nat_lt 0 e.epoch) (nat_le e.epoch MAX_EPOCH && nat_le e.plays limit) some.1 in
    leb-true e.plays limit (and_parts (nat_le e.epoch MAX_EPOCH) (nat_le e.plays limit) many.1).1
