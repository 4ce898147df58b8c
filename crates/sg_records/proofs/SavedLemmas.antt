-- Rows as they are kept: their JSON has no float, reads back, and says the row.
use Rattle.std.proofs.Common.{eqb, cond, None, ◌≡◌, ◌∙◌, ◌⊎◌, ⊎_elim, ℕ, ◌^◌, ◌<◌, Bool, true, false, List, Option, Some, Ok, IsUtf8, refl, ap, subst, arith, inl, inr}
use Rattle.std.specs.Prelude.{IfOk, Result, Err}
use Rattle.std.proofs.lemmas.Bool.{and_parts, eqb-true, ltb-true}
use Rattle.serde_json.specs.Data.{Data}
use Rattle.serde_json.specs.Read.{read}
use Rattle.serde_json.specs.Written.{compact_text, has_float}
use Rattle.sg_base.specs.declared.file.Listed.{Listed}
use Rattle.hex.specs.Hex.{encode_lower}
use Rattle.sg_base.specs.declared.kind.Kind.{Kind}
use Rattle.sg_base.specs.declared.kind.Kind.TheVariants as kind
use Rattle.sg_base.specs.Keys.{number}
use Rattle.sg_base.specs.declared.row.Row.{Row}
use Rattle.sg_base.specs.declared.row.Row.TheVariants as row
use Rattle.sg_base.specs.Rows.{kind_of}
use Rattle.sg_edit_rows.specs.EditRows.{IsRow, row_at, row_json}
use Rattle.sg_edit_rows.specs.Older.{older_json}
use Rattle.sg_edit_rows.proofs.AgainEdits.{older_row_again, row_again}
use Rattle.sg_rows.specs.declared.form.RowForm.TheVariants.{Edit}
use Rattle.sg_rows.specs.Compact.{IsPlain}
use Rattle.sg_rows.specs.Rows.{IsListed}
use Rattle.sg_rows.proofs.CompactSound.{Sound, Sound-boolean, Sound-object, Sound-string, Sound-unsigned, has_float-Sound, read-Sound}
use Rattle.sg_rows.proofs.SoundRows.{file_sound}
use Rattle.sg_records.specs.declared.client.Client.{Client}
use Rattle.sg_records.specs.declared.reply.Reply.{Reply}
use Rattle.sg_records.specs.declared.reply.Reply.TheVariants.{Done, Unknown, InUse, Exists, Full, Sequence, Invalid}
use Rattle.sg_records.specs.Clients.{client_json}
use Rattle.sg_records.specs.Replies.{reply_json}
use Rattle.sg_records.specs.Saved.{IsSaved, IsSavedText, is_state, medium_json, saved_json, saved_text}
use Rattle.sg_records.proofs.SoundSaved.{older_sound, row_sound}
use Rattle.sg_tables.specs.Entries.{Kept}
use Rattle.sg_tables.specs.Rows.{code_of, id_in, id_of, number_at}
use Rattle.sg_tables.specs.Tables.{file_of}

-- ---- no floats

reply_no_float : (r : Reply) → has_float (reply_json r) ≡ false
reply_no_float (Done seq) = refl
reply_no_float (Unknown k id) = refl
reply_no_float (InUse k id by_k by_id) = refl
reply_no_float (Exists k id) = refl
reply_no_float (Full k limit) = refl
reply_no_float (Sequence expected) = refl
reply_no_float (Invalid f) = refl

pub client_no_float : (c : Client) → has_float (client_json c) ≡ false
client_no_float c = rw (reply_no_float c.reply) refl

pub row_no_float : (r : Row) → IsRow Edit r → has_float (row_json Edit r) ≡ false
row_no_float r h = has_float-Sound (row_sound r h)

pub older_no_float : (r : Row) (json : Data) → IsRow Edit r → older_json r ≡ Some json → has_float json ≡ false
older_no_float r json h e = has_float-Sound (older_sound r json h e)

-- ---- the JSON of a row says the row

pub row_said : (r : Row) (kind : Kind) (d : Data) → IsRow Edit r → kind_of r ≡ kind → (d ≡ row_json Edit r) ⊎ (older_json r ≡ Some d) → row_at kind Edit d ≡ Ok r
row_said r kind d h is said =
    let now : (d ≡ row_json Edit r) ⊎ (older_json r ≡ Some d) → row_at (kind_of r) Edit d ≡ Ok r =
    (λ s. ⊎_elim (λ e. ap (row_at (kind_of r) Edit) e ∙ row_again Edit r h) (λ e. older_row_again r d h e) s) in
    subst (λ k. row_at k Edit d ≡ Ok r) is (now said)

-- ---- texts

pub state_fits : (f : Listed) (received : ℕ) (complete : Bool) → f.length < 2 ^ 32 → is_state (Some f) received complete ≡ true → received < 2 ^ 32
state_fits f received true fits e = let same = eqb-true received f.length e in omega (arith, same)
state_fits f received false fits e = let less = ltb-true received f.length (and_parts _ _ e).0 in omega (arith, less)

listed_fits : (f : Listed) → IsListed f → f.length < 2 ^ 32
listed_fits f h = let few = h.few in omega (arith, few)

digits_utf8 : (f : Listed) → IsListed f → IsUtf8 (encode_lower f.md5)
digits_utf8 f h = (file_sound f h).plain.3.3.2

medium_sound : (f : Listed) (received : ℕ) (complete : Bool) → IsListed f → received < 2 ^ 32 → Sound 7 (medium_json f received complete)
medium_sound f received complete h fits =
    let id = h.media.fits in let long = listed_fits f h in
    Sound-object {n = 6} refl (
      Sound-boolean complete,
      (Sound-unsigned f.media.0 (omega (arith, id)), (Sound-unsigned f.length (omega (arith, long)), (Sound-string (encode_lower f.md5) (digits_utf8 f h), (Sound-unsigned received (omega (arith, fits)), tt)))),
    )

saved_sound : (r : Row) (received : ℕ) (complete : Bool) → IsRow Edit r → is_state (file_of r) received complete ≡ true → Sound 7 (saved_json (record { row = r; received = received; complete = complete }))
saved_sound (row.Media f) received complete h state = medium_sound f received complete h (state_fits f received complete (listed_fits f h) state)
saved_sound (row.Layout l) received complete h state = row_sound (row.Layout l) h
saved_sound (row.Campaign c) received complete h state = row_sound (row.Campaign c) h
saved_sound (row.Daypart d) received complete h state = row_sound (row.Daypart d) h
saved_sound (row.Group g) received complete h state = row_sound (row.Group g) h
saved_sound (row.Display d) received complete h state = row_sound (row.Display d) h
saved_sound (row.Event e) received complete h state = row_sound (row.Event e) h

-- the JSON of a text of what is kept
pub record IsKeptJson (e : Kept) (bytes : List ℕ) : Type 0 where
  pub json : Data
  pub plain : IsPlain json
  pub text : bytes ≡ compact_text json
  pub again : read (compact_text json) ≡ Some json
  pub said : (json ≡ saved_json e) ⊎ (older_json e.row ≡ Some json)

pub json_kept : (e : Kept) (bytes : List ℕ) → IsSaved e → IsSavedText e bytes → IsKeptJson e bytes
unfolding saved_text
json_kept e bytes h text = ⊎_elim
    (λ now. let sound = saved_sound e.row e.received e.complete h.row h.state in record {
      json = saved_json e;
      plain = sound.plain;
      text = now;
      again = read-Sound refl sound;
      said = inl refl;
    })
    (λ older. let sound = older_sound e.row older.0 h.row older.1 in record {
      json = older.0;
      plain = sound.plain;
      text = older.2;
      again = read-Sound refl sound;
      said = inr older.1;
    })
    text

-- ---- media

pub medium_said : (found : Option Kept) (d : Data) → ((f : Listed) (received : ℕ) (complete : Bool) → IsListed f → received < 2 ^ 32 → d ≡ medium_json f received complete → found ≡ Some (record { row = row.Media f; received = received; complete = complete }))
    → (r : Row) (received : ℕ) (complete : Bool) → IsRow Edit r → is_state (file_of r) received complete ≡ true → kind_of r ≡ kind.Media
    → (d ≡ saved_json (record { row = r; received = received; complete = complete })) ⊎ (older_json r ≡ Some d) → found ≡ Some (record { row = r; received = received; complete = complete })
medium_said found d again (row.Media f) received complete h state k said = ⊎_elim
    (λ is. again f received complete h (state_fits f received complete (listed_fits f h) state) is)
    (λ older. absurd (cc)) said
medium_said found d again (row.Layout l) received complete h state k said = absurd (cc)
medium_said found d again (row.Campaign c) received complete h state k said = absurd (cc)
medium_said found d again (row.Daypart x) received complete h state k said = absurd (cc)
medium_said found d again (row.Group g) received complete h state k said = absurd (cc)
medium_said found d again (row.Display x) received complete h state k said = absurd (cc)
medium_said found d again (row.Event e) received complete h state k said = absurd (cc)

-- ---- keys

pub row_id : (r : Row) → IsRow Edit r → id_in r < 2 ^ 32
row_id (row.Media f) h = h.media.fits
row_id (row.Layout l) h = h.id.fits
row_id (row.Campaign c) h = h.id.fits
row_id (row.Daypart d) h = h.id.fits
row_id (row.Group g) h = h.fits
row_id (row.Display d) h = h.id.fits
row_id (row.Event e) h = h.event.id.fits

-- a row's key has its kind
pub key_kind : (r : Row) (kind a b : ℕ) → IsRow Edit r → a < 2 ^ 64 → b < 2 ^ 64 → number_at (id_of r) ≡ number kind a b → code_of (kind_of r) ≡ kind
key_kind r kind a b h fits low is = let id = row_id r h in omega (arith, id, is)

pub not_client : (r : Row) → kind_of r ≡ kind.Client → ⊥
not_client (row.Media f) e = cc
not_client (row.Layout l) e = cc
not_client (row.Campaign c) e = cc
not_client (row.Daypart d) e = cc
not_client (row.Group g) e = cc
not_client (row.Display d) e = cc
not_client (row.Event x) e = cc

-- ---- results

-- what holds of an answer holds of it under a weaker fact
pub map_ok : {A B : Type 0} (r : Result A B) (P Q : A → Type 0) → ((x : A) → P x → Q x) → IfOk r P → IfOk r Q
map_ok (Ok x) P Q f h = f x h
map_ok (Err e) P Q f h = tt

-- ---- how much has come

none_came : (received : ℕ) (complete : Bool) → is_state None received complete ≡ true → received < 2 ^ 32
none_came received complete e = let zero = eqb-true received 0 (and_parts (eqb received 0) complete e).0 in omega (arith, zero)

pub received_fits : (r : Row) (received : ℕ) (complete : Bool) → IsRow Edit r → is_state (file_of r) received complete ≡ true → received < 2 ^ 32
received_fits (row.Media f) received complete h state = state_fits f received complete (listed_fits f h) state
received_fits (row.Layout l) received complete h state = none_came received complete state
received_fits (row.Campaign c) received complete h state = none_came received complete state
received_fits (row.Daypart d) received complete h state = none_came received complete state
received_fits (row.Group g) received complete h state = none_came received complete state
received_fits (row.Display d) received complete h state = none_came received complete state
received_fits (row.Event e) received complete h state = none_came received complete state
