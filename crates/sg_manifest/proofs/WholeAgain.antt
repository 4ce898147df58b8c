-- The JSON of a valid snapshot is plain and reads as the snapshot, so its text is of no other.
use Rattle.std.proofs.Common.{◌≡◌, ◌≢◌, ℕ, ◌^◌, ◌<◌, ◌==◌, Bool, true, false, IsTrue, lt-ltb, List, length, Result, Ok, refl, sym, ap, ◌∙◌, map, arith, le-leb}
use Rattle.std.specs.Prelude.{Some, if◌then◌else◌}
use Rattle.std.proofs.lemmas.Bool.Decides.{nat_tests}
use Rattle.sg_rows.specs.declared.form.RowForm.TheVariants.{Version1, Version2, Edit}
use Rattle.std.specs.List.{IsDistinct}
use Rattle.std.specs.List.Sorted.{IsStrictlyIncreasing}
use Rattle.sg_base.specs.declared.limits.TheConstants.{MANIFEST_FILES, MANIFEST_LAYOUTS, MANIFEST_CAMPAIGNS, MANIFEST_DAYPARTS, MANIFEST_EVENTS}
use Rattle.serde_json.specs.Data.{Data}
use Rattle.serde_json.specs.Read.{read}
use Rattle.serde_json.specs.Written.{has_float}
use Rattle.sg_base.proofs.DoubleLemmas.{same}
use Rattle.sg_base.specs.declared.kind.Kind.TheVariants.{Media, Layout, Campaign, Daypart, Event}
use Rattle.sg_rows.specs.Rows.{IsCampaignRow, IsDaypartRow, IsEventRow, IsLayoutRow, IsListed}
use Rattle.sg_rows.specs.Text.{layout_json, file_json, campaign_json, daypart_json, event_json}
use Rattle.sg_rows.specs.Reading.{layout_at, file_at, campaign_at, daypart_at, event_at}
use Rattle.sg_rows.proofs.CompactSound.{Sound, Sound-unsigned, Sound-list, Sound-object, read-Sound, is_utf8-Sound, has_float-Sound}
use Rattle.sg_rows.proofs.SoundRows.{id_sound, campaign_sound, daypart_sound, event_sound, file_sound, layout_sound, zone_sound}
use Rattle.sg_rows.proofs.OrderLemmas.{sorted_again}
use Rattle.sg_rows.proofs.AgainRows.{id_again, layout_again, file_again}
use Rattle.sg_rows.proofs.AgainSchedules.{campaign_again, daypart_again, event_again, zone_again}
use Rattle.sg_manifest.specs.declared.fault.ManifestFault.{ManifestFault}
use Rattle.sg_manifest.specs.Snapshot.{SnapshotRow, IsSnapshot, is_version, form_of}
use Rattle.sg_manifest.specs.Text.{snapshot_json, text}
use Rattle.sg_manifest.specs.Reading.{json_at, version_at, members_at, draft_at, ordered}
use Rattle.sg_manifest.proofs.ListLemmas.{counted_items, list_again}
use Rattle.sg_manifest.proofs.OrderLemmas.{rises_from_increasing, distinct_from_rises}

version_fits : (version : ℕ) → IsTrue (is_version version) → version < 2 ^ 32
version_fits version h = grind (arith, nat_tests)

version_small : (version : ℕ) → IsTrue (is_version version) → version < 2 ^ 64
version_small version h = grind (arith, nat_tests)

-- no version is the form of an edit
listed : (b : Bool) → (if b then Version1 else Version2) ≢ Edit
listed true same = absurd (cc)
listed false same = absurd (cc)

pub snapshot_sound : (s : SnapshotRow) → IsSnapshot s → Sound 7 (snapshot_json s)
snapshot_sound s h =
    Sound-object refl (
      Sound-list campaign_sound s.campaigns h.rows.campaigns,
      (
        Sound-list (daypart_sound (form_of s.version)) s.dayparts h.rows.dayparts,
        (
          id_sound _ h.default,
          (
            Sound-list (event_sound (form_of s.version)) s.events h.rows.events,
            (
              Sound-list file_sound s.files h.rows.files,
              (Sound-list layout_sound s.layouts h.rows.layouts, (Sound-unsigned s.version (version_small s.version h.version), (zone_sound s.zone h.zone, tt))),
            ),
          ),
        ),
      ),
    )

pub json_again : (s : SnapshotRow) → IsSnapshot s → json_at (text s) ≡ Ok (snapshot_json s)
unfolding json_at text
json_again s h = let sound = snapshot_sound s h in rw (is_utf8-Sound sound, read-Sound refl sound) refl

pub no_float : (s : SnapshotRow) (d : Data) → d ≡ snapshot_json s → IsSnapshot s → has_float d ≡ false
no_float s d e h = rw e (has_float-Sound (snapshot_sound s h))

distinct : {A : Type 0} (key : A → ℕ) (xs : List A) → IsStrictlyIncreasing (map key xs) → IsDistinct (same key) xs
distinct key xs h = distinct_from_rises key xs (rises_from_increasing key xs h)

version_again : (s : SnapshotRow) → IsSnapshot s → version_at (snapshot_json s) ≡ Ok s.version
unfolding version_at
version_again s h =
    let small : s.version < 2 ^ 32 = version_fits s.version h.version in
    rw (lt-ltb s.version (2 ^ 32) small, h.version) refl

members_again : (s : SnapshotRow) → IsSnapshot s → members_at (snapshot_json s) ≡ Ok s.default
unfolding members_at
members_again s h = rw (id_again s.default.0 h.default) refl

pub draft_again : (s : SnapshotRow) → IsSnapshot s → draft_at (snapshot_json s) ≡ Ok s
unfolding draft_at
draft_again s h =
    rw (
      version_again s h,
      members_again s h,
      zone_again s.zone h.zone,
      counted_items file_json s.files,
      le-leb (length s.files) MANIFEST_FILES h.few.files,
      list_again file_json file_at IsListed file_again 1 Media (λ f. f.media.0) s.files h.rows.files (distinct (λ f. f.media.0) s.files h.order.files),
      counted_items layout_json s.layouts,
      le-leb (length s.layouts) MANIFEST_LAYOUTS h.few.layouts,
      list_again layout_json layout_at IsLayoutRow layout_again 2 Layout (λ l. l.id.0) s.layouts h.rows.layouts (distinct (λ l. l.id.0) s.layouts h.order.layouts),
      counted_items campaign_json s.campaigns,
      le-leb (length s.campaigns) MANIFEST_CAMPAIGNS h.few.campaigns,
      list_again campaign_json campaign_at IsCampaignRow campaign_again 3 Campaign (λ c. c.id.0) s.campaigns h.rows.campaigns (distinct (λ c. c.id.0) s.campaigns h.order.campaigns),
      counted_items (daypart_json (form_of s.version)) s.dayparts,
      le-leb (length s.dayparts) MANIFEST_DAYPARTS h.few.dayparts,
      list_again (daypart_json (form_of s.version)) (daypart_at (form_of s.version)) (IsDaypartRow (form_of s.version)) (daypart_again (form_of s.version)) 4 Daypart (λ d. d.id.0) s.dayparts h.rows.dayparts (distinct (λ d. d.id.0) s.dayparts h.order.dayparts),
      counted_items (event_json (form_of s.version)) s.events,
      le-leb (length s.events) MANIFEST_EVENTS h.few.events,
      list_again (event_json (form_of s.version)) (event_at (form_of s.version)) (IsEventRow (form_of s.version)) (λ e v. event_again (form_of s.version) e (listed (s.version == 1)) v) 5 Event (λ e. e.id.0) s.events h.rows.events (distinct (λ e. e.id.0) s.events h.order.events),
    ) refl

-- a valid snapshot is in order
pub ordered_again : (s : SnapshotRow) → IsSnapshot s → ordered s ≡ s
ordered_again s h =
    rw (
      sorted_again (λ l. l.id.0) s.layouts (rises_from_increasing (λ l. l.id.0) s.layouts h.order.layouts),
      sorted_again (λ c. c.id.0) s.campaigns (rises_from_increasing (λ c. c.id.0) s.campaigns h.order.campaigns),
      sorted_again (λ d. d.id.0) s.dayparts (rises_from_increasing (λ d. d.id.0) s.dayparts h.order.dayparts),
      sorted_again (λ e. e.id.0) s.events (rises_from_increasing (λ e. e.id.0) s.events h.order.events),
      sorted_again (λ f. f.media.0) s.files (rises_from_increasing (λ f. f.media.0) s.files h.order.files),
    ) refl

ok_same : {A : Type 0} (r : Result A ManifestFault) (x y : A) → r ≡ Ok x → r ≡ Ok y → x ≡ y
ok_same r x y e f = cc

-- the JSON that the text is read as
json_of_text : (s : SnapshotRow) → IsSnapshot s → read (text s) ≡ Some (snapshot_json s)
unfolding text
json_of_text s h = read-Sound refl (snapshot_sound s h)

some_same : {A : Type 0} (x y : A) → Some x ≡ Some y → x ≡ y
some_same x y e = cc

pub text_injective : (s t : SnapshotRow) → IsSnapshot s → IsSnapshot t → text s ≡ text t → s ≡ t
text_injective s t h i e =
    let jsons = some_same (snapshot_json s) (snapshot_json t) (sym (json_of_text s h) ∙ (ap read e ∙ json_of_text t i)) in
    ok_same (draft_at (snapshot_json s)) s t (draft_again s h) (ap draft_at jsons ∙ draft_again t i)
