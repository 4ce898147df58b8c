-- The rows that JSON says are each valid by itself, few enough, and of different ids.
use Rattle.std.proofs.Common.{◌≡◌, ℕ, ◌+◌, ◌≤◌, ◌==◌, nat_le, not, List, [], ◌∷◌, ◌++◌, length, Result, Ok, Err, subst, arith, IsTrue}
use Rattle.std.specs.Prelude.{codes}
use Rattle.std.specs.List.{AllByRecursion, IsDistinct, list_any}
use borrow.Author.Tests.{leb-true}
use Rattle.serde_json.specs.Data.{Data, Items, no_items, item}
use Rattle.serde_json.specs.Find.{get}
use Rattle.sg_base.specs.declared.limits.TheConstants.{MANIFEST_FILES, MANIFEST_LAYOUTS, MANIFEST_CAMPAIGNS, MANIFEST_DAYPARTS, MANIFEST_EVENTS}
use Rattle.sg_base.specs.declared.ids.LayoutId.{LayoutId}
use Rattle.sg_base.specs.declared.kind.Kind.{Kind}
use Rattle.sg_base.specs.declared.kind.Kind.TheVariants.{Media, Layout, Campaign, Daypart, Event}
use Rattle.sg_base.specs.declared.kind.LimitName.{LimitName}
use Rattle.sg_base.specs.declared.kind.LimitName.TheVariants.{Files, Layouts, Campaigns, Dayparts, Events}
use Rattle.sg_base.proofs.DoubleLemmas.{same}
use Rattle.sg_rows.specs.declared.fault.RowFault.{RowFault}
use Rattle.sg_rows.specs.declared.fault.RowFault.TheVariants.{Shape}
use Rattle.sg_rows.specs.Faults.{◌>>=◌, needs, wants}
use Rattle.sg_rows.specs.Parts.{exactly, member_at, number_at, id_at, items_at, count_of_items}
use Rattle.sg_rows.specs.Reading.{file_at, layout_at, campaign_at, daypart_at, event_at, zone_at}
use Rattle.sg_rows.specs.Rows.{IsId, IsListed, IsLayoutRow, IsCampaignRow, IsDaypartRow, IsEventRow}
use Rattle.sg_rows.specs.Zone.{IsZone}
use Rattle.sg_rows.proofs.BindLemmas.{bind_ok, needs_ok}
use Rattle.sg_rows.proofs.ReadSound.{member_valid, id_valid, file_valid, layout_valid, campaign_valid, daypart_valid, event_valid, zone_valid}
use Rattle.sg_manifest.specs.declared.fault.ManifestFault.{ManifestFault}
use Rattle.sg_manifest.specs.declared.fault.ManifestFault.TheVariants.{Double, Limit, Version}
use Rattle.sg_manifest.specs.Faults.{in_entry}
use Rattle.sg_manifest.specs.Fitting.{IsDraft}
use Rattle.sg_manifest.specs.Reading.{version_at, members_at, entries_at, rows_at, draft_at}
use Rattle.sg_manifest.specs.Snapshot.{SnapshotRow, is_version, form_of}
use Rattle.sg_manifest.proofs.ListLemmas.{entries_facts}

ok_is : {F A : Type 0} (x y : A) → ◌≡◌ {A = Result A F} (Ok x) (Ok y) → x ≡ y
ok_is x y e = cc

entry_ok : {A : Type 0} (list index : ℕ) (r : Result A RowFault) (x : A) → in_entry list index r ≡ Ok x → r ≡ Ok x
entry_ok list index (Ok y) x e = cc
entry_ok list index (Err f) x e = absurd (cc)

entries_valid : {A : Type 0} (P : A → Type 0) (list : ℕ) (kind : Kind) (at : Data → Result A RowFault) (key : A → ℕ) → ((d : Data) (x : A) → at d ≡ Ok x → P x)
    → (k : ℕ) (seen : List ℕ) (ds : Items) (xs : List A) → entries_at list kind at key k seen ds ≡ Ok xs → AllByRecursion P xs
entries_valid P list kind at key valid k seen no_items xs e = subst (AllByRecursion P) (ok_is {F = ManifestFault} [] xs e) tt
entries_valid {A} P list kind at key valid k seen (item d ds) xs e =
    let rest : A → Result (List A) ManifestFault = λ x. entries_at list kind at key (k + 1) (seen ++ key x ∷ []) ds >>= (λ ys. Ok (x ∷ ys)) in
    let a = bind_ok (in_entry list k (at d)) (λ x. needs (not (list_any (λ n. n == key x) seen)) (Double kind (key x)) >>= (λ new. rest x)) xs e in
    let b = bind_ok (needs (not (list_any (λ n. n == key a.0) seen)) (Double kind (key a.0))) (λ new. rest a.0) xs a.2 in
    let c = bind_ok (entries_at list kind at key (k + 1) (seen ++ key a.0 ∷ []) ds) (λ ys. Ok (a.0 ∷ ys)) xs b.2 in
    subst (AllByRecursion P) (ok_is (a.0 ∷ c.0) xs c.2)
    (valid d a.0 (entry_ok list k (at d) a.0 a.1), entries_valid P list kind at key valid (k + 1) (seen ++ key a.0 ∷ []) ds c.0 c.1)

record Rows {A : Type 0} (P : A → Type 0) (key : A → ℕ) (most : ℕ) (xs : List A) : Type 0 where
  valid : AllByRecursion P xs
  few : length xs ≤ most
  apart : IsDistinct (same key) xs

rows_valid : {A : Type 0} (P : A → Type 0) (list : ℕ) (name : LimitName) (most : ℕ) (kind : Kind) (at : Data → Result A RowFault) (key : A → ℕ) → ((d : Data) (x : A) → at d ≡ Ok x → P x)
    → (member : List ℕ) (d : Data) (xs : List A) → rows_at list name most kind at key member d ≡ Ok xs → Rows P key most xs
rows_valid P list name most kind at key valid member d xs e =
    let items = bind_ok (in_entry 0 0 (member_at items_at member d)) (λ ds. needs (nat_le (count_of_items ds) most) (Limit name (count_of_items ds)) >>= (λ few. entries_at list kind at key 0 [] ds)) xs e in
    let few = bind_ok (needs (nat_le (count_of_items items.0) most) (Limit name (count_of_items items.0))) (λ few. entries_at list kind at key 0 [] items.0) xs items.2 in
    let facts = entries_facts list kind at key 0 [] items.0 xs few.2 in
    let count = leb-true (count_of_items items.0) most (needs_ok (nat_le (count_of_items items.0) most) (Limit name (count_of_items items.0)) few.0 few.1) in
    record {
      valid = entries_valid P list kind at key valid 0 [] items.0 xs few.2;
      few = omega (arith, facts.long, count);
      apart = facts.apart;
    }

version_known : (d : Data) (n : ℕ) → version_at d ≡ Ok n → IsTrue (is_version n)
unfolding version_at
version_known d n e =
    let number = bind_ok (in_entry 0 0 (member_at number_at (codes "version") d)) _ n e in
    let known = bind_ok (needs (is_version number.0) (Version number.0)) _ n number.2 in
    subst (λ (v : ℕ). IsTrue (is_version v)) (ok_is {F = ManifestFault} number.0 n known.2) (needs_ok (is_version number.0) (Version number.0) known.0 known.1)

default_valid : (d : Data) (l : LayoutId) → members_at d ≡ Ok l → IsId l.0
unfolding members_at
default_valid d l e =
    let form = bind_ok (exactly 8 d) _ l e in
    let default = bind_ok (member_at id_at (codes "default") d) _ l form.2 in
    let campaigns = bind_ok (member_at items_at (codes "campaigns") d) _ l default.2 in
    let dayparts = bind_ok (member_at items_at (codes "dayparts") d) _ l campaigns.2 in
    let events = bind_ok (member_at items_at (codes "events") d) _ l dayparts.2 in
    let files = bind_ok (member_at items_at (codes "files") d) _ l events.2 in
    let layouts = bind_ok (member_at items_at (codes "layouts") d) _ l files.2 in
    let zone = bind_ok (wants (get (codes "zone") d) Shape) _ l layouts.2 in
    subst (λ (k : LayoutId). IsId k.0) (ok_is {F = RowFault} (record { 0 = default.0 }) l zone.2) (member_valid id_at IsId id_valid (codes "default") d default.0 default.1)

pub draft_valid : (d : Data) (s : SnapshotRow) → draft_at d ≡ Ok s → IsDraft s
unfolding draft_at
draft_valid d s e =
    let version = bind_ok (version_at d) _ s e in
    let form = form_of version.0 in
    let default = bind_ok (in_entry 0 0 (members_at d)) _ s version.2 in
    let zone = bind_ok (in_entry 0 0 (member_at zone_at (codes "zone") d)) _ s default.2 in
    let files = bind_ok (rows_at 1 Files MANIFEST_FILES Media file_at (λ f. f.media.0) (codes "files") d) _ s zone.2 in
    let layouts = bind_ok (rows_at 2 Layouts MANIFEST_LAYOUTS Layout layout_at (λ l. l.id.0) (codes "layouts") d) _ s files.2 in
    let campaigns = bind_ok (rows_at 3 Campaigns MANIFEST_CAMPAIGNS Campaign campaign_at (λ c. c.id.0) (codes "campaigns") d) _ s layouts.2 in
    let dayparts = bind_ok (rows_at 4 Dayparts MANIFEST_DAYPARTS Daypart (daypart_at form) (λ d. d.id.0) (codes "dayparts") d) _ s campaigns.2 in
    let events = bind_ok (rows_at 5 Events MANIFEST_EVENTS Event (event_at form) (λ e. e.id.0) (codes "events") d) _ s dayparts.2 in
    let file_rows = rows_valid IsListed 1 Files MANIFEST_FILES Media file_at (λ f. f.media.0) file_valid (codes "files") d files.0 files.1 in
    let layout_rows = rows_valid IsLayoutRow 2 Layouts MANIFEST_LAYOUTS Layout layout_at (λ l. l.id.0) layout_valid (codes "layouts") d layouts.0 layouts.1 in
    let campaign_rows = rows_valid IsCampaignRow 3 Campaigns MANIFEST_CAMPAIGNS Campaign campaign_at (λ c. c.id.0) campaign_valid (codes "campaigns") d campaigns.0 campaigns.1 in
    let daypart_rows = rows_valid (IsDaypartRow form) 4 Dayparts MANIFEST_DAYPARTS Daypart (daypart_at form) (λ d. d.id.0) (daypart_valid form) (codes "dayparts") d dayparts.0 dayparts.1 in
    let event_rows = rows_valid (IsEventRow form) 5 Events MANIFEST_EVENTS Event (event_at form) (λ e. e.id.0) (event_valid form) (codes "events") d events.0 events.1 in
    let made : SnapshotRow = record {
      version = version.0;
      zone = zone.0;
      default = default.0;
      layouts = layouts.0;
      campaigns = campaigns.0;
      dayparts = dayparts.0;
      events = events.0;
      files = files.0;
    } in
    subst IsDraft (ok_is {F = ManifestFault} made s events.2) (record {
      version = version_known d version.0 version.1;
      zone = member_valid zone_at IsZone zone_valid (codes "zone") d zone.0 (entry_ok 0 0 (member_at zone_at (codes "zone") d) zone.0 zone.1);
      default = default_valid d default.0 (entry_ok 0 0 (members_at d) default.0 default.1);
      rows = record {
        layouts = layout_rows.valid;
        campaigns = campaign_rows.valid;
        dayparts = daypart_rows.valid;
        events = event_rows.valid;
        files = file_rows.valid;
      };
      few = record {
        files = file_rows.few;
        layouts = layout_rows.few;
        campaigns = campaign_rows.few;
        dayparts = daypart_rows.few;
        events = event_rows.few;
      };
      apart = record {
        layouts = layout_rows.apart;
        campaigns = campaign_rows.apart;
        dayparts = daypart_rows.apart;
        events = event_rows.apart;
        files = file_rows.apart;
      };
    })
