-- Rows that were read are a valid snapshot once they are in order and nothing that they name is missing; and the text of
-- a valid snapshot has no fault.
use Rattle.std.proofs.Common.{◌≡◌, ℕ, zero, suc, ◌<◌, ◌≤◌, ◌==◌, nat_le, Bool, true, false, List, [], ◌∷◌, length, map, get_or, Ok, Err, refl, ap, subst, ◌∙◌, arith, le-leb, eqb-true}
use Rattle.std.proofs.lemmas.Bool.Decides.{nat_tests}
use Rattle.std.proofs.lemmas.List.Sorted.{Contains-permutation, IsPermutation-map, length_permutation}
use Rattle.std.proofs.lemmas.Slice.Eq.{bytes_eq-Decides}
use Rattle.std.specs.Prelude.{Option, Some, None, if◌then◌else◌}
use Rattle.std.specs.Str.{bytes_eq}
use Rattle.std.specs.List.{AllByRecursion, Contains, list_any}
use Rattle.std.specs.List.Sorted.{IsPermutation}
use Rattle.sg_base.specs.declared.limits.TheConstants.{MANIFEST_FILES, MANIFEST_LAYOUTS, MANIFEST_CAMPAIGNS, MANIFEST_DAYPARTS, MANIFEST_EVENTS, MANIFEST_TEXT}
use Rattle.sg_base.specs.declared.layout.Region.{Region}
use Rattle.sg_base.specs.declared.campaign.Campaign.{Campaign as CampaignRow}
use Rattle.sg_base.specs.declared.event.When.{When}
use Rattle.sg_base.specs.declared.event.When.TheVariants.{Always, Custom, Named}
use Rattle.sg_base.specs.declared.event.Target.{Target}
use Rattle.sg_base.specs.declared.event.Target.TheVariants as target
use Rattle.sg_base.specs.Faults.{first_in}
use Rattle.sg_base.specs.Layout.{LayoutRow}
use Rattle.sg_base.proofs.FaultLemmas.{first_none}
use Rattle.sg_base.specs.declared.kind.Kind.{Kind}
use Rattle.sg_base.specs.declared.kind.Kind.TheVariants.{Media, Layout, Campaign, Daypart}
use Rattle.sg_rows.specs.Rows.{IsCampaignRow, IsDaypartRow, IsEventRow, IsLayoutRow, IsListed}
use Rattle.sg_rows.specs.Order.{sorted_by}
use Rattle.sg_rows.proofs.OrderLemmas.{all_sorted, sorted_rises, sorted_moves}
use Rattle.sg_manifest.specs.declared.fault.ManifestFault.{ManifestFault}
use Rattle.sg_manifest.specs.declared.fault.ManifestFault.TheVariants.{Dangling, Limit, NotCanonical}
use Rattle.sg_base.specs.declared.kind.LimitName.TheVariants.{Text}
use Rattle.sg_manifest.specs.Snapshot.{SnapshotRow, IsSnapshot, form_of, HasAllNamed, HasMedia, HasLayouts, IsTargetIn, IsWhenIn, layout_ids, campaign_ids, daypart_ids, file_ids}
use Rattle.sg_manifest.specs.Text.{text, IsManifest}
use Rattle.sg_manifest.specs.Fitting.{IsDraft}
use Rattle.sg_manifest.specs.Reading.{missing, missing_media, missing_file, missing_layout, missing_target, missing_daypart, missing_in_target, missing_in_when, none_of, dangling, ordered, common, canonical, json_at, draft_at, rows_of, manifest_at}
use Rattle.sg_manifest.proofs.OrderLemmas.{increasing_from_rises}
use Rattle.sg_rows.specs.Faults.{needs}
use Rattle.sg_rows.proofs.BindLemmas.{bind_ok, needs_ok}
use borrow.Author.Tests.{leb-true}
use Rattle.sg_manifest.proofs.DraftLemmas.{draft_valid}
use Rattle.sg_manifest.proofs.WholeAgain.{json_again, draft_again, ordered_again}

-- ---- what isn't missing is there, in whatever order

found : (b : Bool) (f : ManifestFault) → (if b then None else Some f) ≡ None → b ≡ true
found true f e = refl
found false f e = absurd (cc)

contains_at : (y x : ℕ) (ys : List ℕ) (b : Bool) → (y == x) ≡ b → (b ≡ false → Contains ys x) → Contains (y ∷ ys) x
contains_at y x ys true e later = (0, omega arith, eqb-true y x e)
contains_at y x ys false e later = let at = later refl in (suc at.0, omega (arith, at.1), at.2)

rest_any : (y x : ℕ) (ys : List ℕ) → list_any (λ n. n == x) (y ∷ ys) ≡ true → (y == x) ≡ false → list_any (λ n. n == x) ys ≡ true
rest_any y x ys e f = rw f at e

contains_any : (xs : List ℕ) (x : ℕ) → list_any (λ n. n == x) xs ≡ true → Contains xs x
contains_any [] x e = absurd (cc)
contains_any (y ∷ ys) x e = contains_at y x ys (y == x) refl (λ f. contains_any ys x (rest_any y x ys e f))

there : (kind : Kind) (xs ys : List ℕ) (id : ℕ) → IsPermutation xs ys → missing kind xs id ≡ None → Contains ys id
there kind xs ys id moved e = Contains-permutation xs ys id moved (contains_any xs id (found (list_any (λ n. n == id) xs) (Dangling kind id) e))

none_all : {X F : Type 0} (f : X → Option F) (P : X → Type 0) → ((x : X) → f x ≡ None → P x) → (xs : List X) → first_in f xs ≡ None → AllByRecursion P xs
none_all f P each [] e = tt
none_all f P each (x ∷ xs) e = let parts = first_none (f x) (first_in f xs) e in (each x parts.0, none_all f P each xs parts.1)

media_there : (xs ys : List ℕ) → IsPermutation xs ys → (r : Region) → missing_media xs r ≡ None → HasMedia ys r
media_there xs ys moved r e = none_all (λ i. missing Media xs i.media.0) (λ i. Contains ys i.media.0) (λ i h. there Media xs ys i.media.0 moved h) r.items e

files_there : (xs ys : List ℕ) → IsPermutation xs ys → (l : LayoutRow) → missing_file xs l ≡ None → AllByRecursion (HasMedia ys) l.regions
files_there xs ys moved l e = none_all (missing_media xs) (HasMedia ys) (media_there xs ys moved) l.regions e

layouts_there : (xs ys : List ℕ) → IsPermutation xs ys → (c : CampaignRow) → missing_layout xs c ≡ None → HasLayouts ys c
layouts_there xs ys moved c e = none_all (λ l. missing Layout xs l.0) (λ l. Contains ys l.0) (λ l h. there Layout xs ys l.0 moved h) c.layouts e

target_there : (xs ys vs ws : List ℕ) → IsPermutation xs ys → IsPermutation vs ws → (t : Target) → missing_target xs vs t ≡ None → IsTargetIn ys ws t
target_there xs ys vs ws moved moves (target.Layout id) e = there Layout xs ys id.0 moved e
target_there xs ys vs ws moved moves (target.Campaign id) e = there Campaign vs ws id.0 moves e

daypart_there : (xs ys : List ℕ) → IsPermutation xs ys → (w : When) → missing_daypart xs w ≡ None → IsWhenIn ys w
daypart_there xs ys moved Always e = tt
daypart_there xs ys moved (Custom from to) e = tt
daypart_there xs ys moved (Named daypart date) e = there Daypart xs ys daypart.0 moved e

ids_moved : {A : Type 0} (key : A → ℕ) (xs : List A) → IsPermutation (map key xs) (map key (sorted_by key xs))
ids_moved key xs = IsPermutation-map key xs (sorted_by key xs) (sorted_moves key xs)

named_there : (s : SnapshotRow) → dangling s ≡ None → HasAllNamed (ordered s)
named_there s e =
    let layouts = ids_moved (λ l. l.id.0) s.layouts in
    let campaigns = ids_moved (λ c. c.id.0) s.campaigns in
    let dayparts = ids_moved (λ d. d.id.0) s.dayparts in
    let files = ids_moved (λ f. f.media.0) s.files in
    let a = first_none (missing Layout (layout_ids s) s.default.0) _ e in
    let b = first_none (first_in (missing_file (file_ids s)) s.layouts) _ a.1 in
    let c = first_none (first_in (missing_layout (layout_ids s)) s.campaigns) _ b.1 in
    let d = first_none (first_in (missing_in_target (layout_ids s) (campaign_ids s)) s.events) _ c.1 in
    record {
      default = there Layout (layout_ids s) (layout_ids (ordered s)) s.default.0 layouts a.0;
      media = all_sorted (λ l. AllByRecursion (HasMedia (file_ids (ordered s))) l.regions) (λ l. l.id.0) s.layouts (none_all (missing_file (file_ids s)) (λ l. AllByRecursion (HasMedia (file_ids (ordered s))) l.regions) (files_there (file_ids s) (file_ids (ordered s)) files) s.layouts b.0);
      campaigns = all_sorted (HasLayouts (layout_ids (ordered s))) (λ c. c.id.0) s.campaigns (none_all (missing_layout (layout_ids s)) (HasLayouts (layout_ids (ordered s))) (layouts_there (layout_ids s) (layout_ids (ordered s)) layouts) s.campaigns c.0);
      targets = all_sorted (λ e. IsTargetIn (layout_ids (ordered s)) (campaign_ids (ordered s)) e.target) (λ e. e.id.0) s.events (none_all (missing_in_target (layout_ids s) (campaign_ids s)) (λ e. IsTargetIn (layout_ids (ordered s)) (campaign_ids (ordered s)) e.target) (λ e h. target_there (layout_ids s) (layout_ids (ordered s)) (campaign_ids s) (campaign_ids (ordered s)) layouts campaigns e.target h) s.events d.0);
      dayparts = all_sorted (λ e. IsWhenIn (daypart_ids (ordered s)) e.when) (λ e. e.id.0) s.events (none_all (missing_in_when (daypart_ids s)) (λ e. IsWhenIn (daypart_ids (ordered s)) e.when) (λ e h. daypart_there (daypart_ids s) (daypart_ids (ordered s)) dayparts e.when h) s.events d.1);
    }

few_sorted : {A : Type 0} (key : A → ℕ) (xs : List A) (n : ℕ) → length xs ≤ n → length (sorted_by key xs) ≤ n
few_sorted key xs n h = omega (arith, length_permutation xs (sorted_by key xs) (sorted_moves key xs))

pub snapshot_valid : (s : SnapshotRow) → IsDraft s → dangling s ≡ None → IsSnapshot (ordered s)
snapshot_valid s h e = record {
  version = h.version;
  zone = h.zone;
  default = h.default;
  rows = record {
    layouts = all_sorted IsLayoutRow (λ l. l.id.0) s.layouts h.rows.layouts;
    campaigns = all_sorted IsCampaignRow (λ c. c.id.0) s.campaigns h.rows.campaigns;
    dayparts = all_sorted (IsDaypartRow (form_of s.version)) (λ d. d.id.0) s.dayparts h.rows.dayparts;
    events = all_sorted (IsEventRow (form_of s.version)) (λ e. e.id.0) s.events h.rows.events;
    files = all_sorted IsListed (λ f. f.media.0) s.files h.rows.files;
  };
  order = record {
    layouts = increasing_from_rises (λ l. l.id.0) (sorted_by (λ l. l.id.0) s.layouts) (sorted_rises (λ l. l.id.0) s.layouts h.apart.layouts);
    campaigns = increasing_from_rises (λ c. c.id.0) (sorted_by (λ c. c.id.0) s.campaigns) (sorted_rises (λ c. c.id.0) s.campaigns h.apart.campaigns);
    dayparts = increasing_from_rises (λ d. d.id.0) (sorted_by (λ d. d.id.0) s.dayparts) (sorted_rises (λ d. d.id.0) s.dayparts h.apart.dayparts);
    events = increasing_from_rises (λ e. e.id.0) (sorted_by (λ e. e.id.0) s.events) (sorted_rises (λ e. e.id.0) s.events h.apart.events);
    files = increasing_from_rises (λ f. f.media.0) (sorted_by (λ f. f.media.0) s.files) (sorted_rises (λ f. f.media.0) s.files h.apart.files);
  };
  named = named_there s e;
  few = record {
    files = few_sorted (λ f. f.media.0) s.files MANIFEST_FILES h.few.files;
    layouts = few_sorted (λ l. l.id.0) s.layouts MANIFEST_LAYOUTS h.few.layouts;
    campaigns = few_sorted (λ c. c.id.0) s.campaigns MANIFEST_CAMPAIGNS h.few.campaigns;
    dayparts = few_sorted (λ d. d.id.0) s.dayparts MANIFEST_DAYPARTS h.few.dayparts;
    events = few_sorted (λ e. e.id.0) s.events MANIFEST_EVENTS h.few.events;
  };
}

-- ---- the text, and what differs from it

same_test : (one other : List ℕ) → one ≡ other → bytes_eq one other ≡ true
same_test one other e = (bytes_eq-Decides one other).1 e

other_test : (one other : List ℕ) (b : Bool) → bytes_eq one other ≡ b → (one ≡ other → ⊥) → bytes_eq one other ≡ false
other_test one other true e differ = absurd (differ ((bytes_eq-Decides one other).0 e))
other_test one other false e differ = e

pub canonical_same : (bytes : List ℕ) (s : SnapshotRow) → bytes ≡ text s → canonical bytes s ≡ Ok s
canonical_same bytes s e = rw (same_test bytes (text s) e) refl

pub canonical_other : (bytes : List ℕ) (s : SnapshotRow) (place : ℕ) → (bytes ≡ text s → ⊥) → place ≡ common bytes (text s) → canonical bytes s ≡ Err (NotCanonical place)
canonical_other bytes s place differ e = rw (other_test bytes (text s) (bytes_eq bytes (text s)) refl differ, e) refl

canonical_if : (b : Bool) (s t : SnapshotRow) (f : ManifestFault) → (if b then Ok s else Err f) ≡ Ok t → (b ≡ true) × (s ≡ t)
canonical_if true s t f e = (refl, cc)
canonical_if false s t f e = absurd (cc)

pub text_of_canonical : (bytes : List ℕ) (s t : SnapshotRow) → canonical bytes s ≡ Ok t → bytes ≡ text t
text_of_canonical bytes s t e =
    let parts = canonical_if (bytes_eq bytes (text s)) s t (NotCanonical (common bytes (text s))) e in
    (bytes_eq-Decides bytes (text s)).0 parts.0 ∙ ap text parts.1

-- ---- the text of a valid snapshot

any_at : (xs : List ℕ) (k x : ℕ) → k < length xs → get_or xs k x ≡ x → list_any (λ n. n == x) xs ≡ true
any_at [] k x h e = absurd (omega arith)
any_at (y ∷ ys) zero x h e = let same_one : (y == x) ≡ true = grind (arith, nat_tests) in rw same_one refl
any_at (y ∷ ys) (suc k) x h e = let later = any_at ys k x (omega arith) e in rw later (or_true (y == x))
  where
    or_true : (b : Bool) → list_any (λ c. c) (b ∷ true ∷ []) ≡ true
    or_true true = refl
    or_true false = refl

not_missing : (kind : Kind) (xs : List ℕ) (id : ℕ) → Contains xs id → missing kind xs id ≡ None
not_missing kind xs id h = rw (any_at xs h.0 id h.1 h.2) refl

all_none : {X F : Type 0} (f : X → Option F) (P : X → Type 0) → ((x : X) → P x → f x ≡ None) → (xs : List X) → AllByRecursion P xs → first_in f xs ≡ None
all_none f P each [] h = refl
all_none f P each (x ∷ xs) h = rw (each x h.0) (all_none f P each xs h.1)

media_none : (xs : List ℕ) (r : Region) → HasMedia xs r → missing_media xs r ≡ None
media_none xs r h = all_none (λ i. missing Media xs i.media.0) (λ i. Contains xs i.media.0) (λ i c. not_missing Media xs i.media.0 c) r.items h

file_none : (xs : List ℕ) (l : LayoutRow) → AllByRecursion (HasMedia xs) l.regions → missing_file xs l ≡ None
file_none xs l h = all_none (missing_media xs) (HasMedia xs) (media_none xs) l.regions h

layout_none : (xs : List ℕ) (c : CampaignRow) → HasLayouts xs c → missing_layout xs c ≡ None
layout_none xs c h = all_none (λ l. missing Layout xs l.0) (λ l. Contains xs l.0) (λ l k. not_missing Layout xs l.0 k) c.layouts h

target_none : (xs vs : List ℕ) (t : Target) → IsTargetIn xs vs t → missing_target xs vs t ≡ None
target_none xs vs (target.Layout id) h = not_missing Layout xs id.0 h
target_none xs vs (target.Campaign id) h = not_missing Campaign vs id.0 h

daypart_none : (xs : List ℕ) (w : When) → IsWhenIn xs w → missing_daypart xs w ≡ None
daypart_none xs Always h = refl
daypart_none xs (Custom from to) h = refl
daypart_none xs (Named daypart date) h = not_missing Daypart xs daypart.0 h

dangling_none : (s : SnapshotRow) → HasAllNamed s → dangling s ≡ None
dangling_none s h =
    rw (
      not_missing Layout (layout_ids s) s.default.0 h.default,
      all_none (missing_file (file_ids s)) (λ l. AllByRecursion (HasMedia (file_ids s)) l.regions) (file_none (file_ids s)) s.layouts h.media,
      all_none (missing_layout (layout_ids s)) (HasLayouts (layout_ids s)) (layout_none (layout_ids s)) s.campaigns h.campaigns,
      all_none (missing_in_target (layout_ids s) (campaign_ids s)) (λ e. IsTargetIn (layout_ids s) (campaign_ids s) e.target) (λ e k. target_none (layout_ids s) (campaign_ids s) e.target k) s.events h.targets,
      all_none (missing_in_when (daypart_ids s)) (λ e. IsWhenIn (daypart_ids s) e.when) (λ e k. daypart_none (daypart_ids s) e.when k) s.events h.dayparts,
    ) refl

rows_again : (s : SnapshotRow) → IsSnapshot s → rows_of (text s) ≡ Ok s
unfolding rows_of
rows_again s h = rw (json_again s h) (draft_again s h)

pub manifest_again : (bytes : List ℕ) (s : SnapshotRow) → IsManifest bytes s → manifest_at bytes ≡ Ok s
unfolding manifest_at
manifest_again bytes s h =
    rw (
      ap rows_of h.is ∙ rows_again s h.valid,
      dangling_none s h.valid.named,
      le-leb (length bytes) MANIFEST_TEXT h.short,
      ordered_again s h.valid,
    ) (canonical_same bytes s h.is)

none_of_ok : (o : Option ManifestFault) (u : Unit {0}) → none_of o ≡ Ok u → o ≡ None
none_of_ok None u e = refl
none_of_ok (Some f) u e = absurd (cc)

-- what is read is the valid snapshot whose text the bytes are
pub manifest_found : (bytes : List ℕ) (t : SnapshotRow) → manifest_at bytes ≡ Ok t → IsManifest bytes t
unfolding manifest_at rows_of
manifest_found bytes t e =
    let rows = bind_ok (rows_of bytes) _ t e in
    let s = rows.0 in
    let json = bind_ok (json_at bytes) draft_at s rows.1 in
    let named = bind_ok (none_of (dangling s)) _ t rows.2 in
    let short = bind_ok (needs (nat_le (length bytes) MANIFEST_TEXT) (Limit Text (length bytes))) _ t named.2 in
    let parts = canonical_if (bytes_eq bytes (text (ordered s))) (ordered s) t (NotCanonical (common bytes (text (ordered s)))) short.2 in
    record {
      valid = subst IsSnapshot parts.1 (snapshot_valid s (draft_valid json.0 s json.2) (none_of_ok (dangling s) named.0 named.1));
      is = text_of_canonical bytes (ordered s) t short.2;
      short = leb-true (length bytes) MANIFEST_TEXT (needs_ok (nat_le (length bytes) MANIFEST_TEXT) (Limit Text (length bytes)) short.0 short.1);
    }
