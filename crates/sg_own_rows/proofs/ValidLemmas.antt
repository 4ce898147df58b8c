-- The own rows make a valid snapshot, if each row is valid by itself.
use Rattle.std.proofs.Common.{◌≡◌, ◌≢◌, ℕ, ◌^◌, ◌<◌, ◌||◌, eqb, Bool, true, false, cond, List, [], ◌∷◌, ◌++◌, map, refl, ap, sym, ◌∙◌, subst, arith}
use Rattle.std.specs.Prelude.{Option, None, Some, All, Contains, filter}
use Rattle.std.specs.List.{AllByRecursion, list_any}
use Rattle.std.proofs.lemmas.Bool.{eq-eqb, eqb-true}
use Rattle.std.proofs.lemmas.List.Elements.{All-head, All-tail}
use Rattle.std.proofs.lemmas.Map.Views.{Contains-from_any}
use Rattle.sg_base.specs.declared.campaign.Campaign.{Campaign as CampaignRow}
use Rattle.sg_base.specs.declared.event.Target.{Target}
use Rattle.sg_base.specs.declared.event.Target.TheVariants as target
use Rattle.sg_base.specs.declared.event.When.{When}
use Rattle.sg_base.specs.declared.event.When.TheVariants as when
use Rattle.sg_base.specs.declared.kind.Kind.{Kind}
use Rattle.sg_base.specs.declared.kind.Kind.TheVariants as kind
use Rattle.sg_base.specs.declared.layout.Region.{Region}
use Rattle.sg_base.specs.declared.row.Row.{Row}
use Rattle.sg_base.specs.declared.row.Row.TheVariants as row
use Rattle.sg_base.specs.Rising.{IsRising, found}
use Rattle.sg_base.specs.Rows.{kind_of}
use Rattle.sg_base.proofs.RisingLemmas.{by_equal}
use Rattle.sg_edit_rows.specs.EditRows.{IsRow}
use Rattle.sg_manifest.specs.Snapshot.{HasLayouts, HasMedia, IsTargetIn, IsWhenIn}
use Rattle.sg_rows.specs.declared.form.RowForm.TheVariants.{Version2, Edit}
use Rattle.sg_rows.specs.Rows.{IsCampaignRow, IsDaypartRow, IsEventRow, IsLayoutRow, IsListed}
use Rattle.sg_rows.proofs.OrderLemmas.{Rises}
use Rattle.sg_own_rows.specs.Own.{all_in, campaign_in, daypart_in, event_in, file_in, is_among, layout_in, named_by}
use Rattle.sg_tables.specs.declared.row_id.RowId.{RowId}
use Rattle.sg_tables.specs.Counts.{IsBounded, IsShort}
use Rattle.sg_tables.specs.Entries.{Kept, number_of_kept}
use Rattle.sg_tables.specs.Refusals.{IsThere, is_of, row_at}
use Rattle.sg_tables.specs.Rows.{at, code_of, daypart_in as daypart_named, id_in, id_of, is_same, number_at, references, target_in}
use Rattle.sg_tables.proofs.KindLemmas.{kind_is, same_code}

-- ---- what holds of all

all_append : {A : Type 0} (P : A → Type 0) (xs ys : List A) → AllByRecursion P xs → AllByRecursion P ys → AllByRecursion P (xs ++ ys)
all_append P [] ys a b = b
all_append P (x ∷ xs) ys a b = (a.0, all_append P xs ys a.1 b)

-- what each row gives of its own holds of all
pub all_of : {A : Type 0} (f : Row → List A) (P : A → Type 0) (Q : Kept → Type 0) (rows : List Kept) → ((e : Kept) → Q e → AllByRecursion P (f e.row)) → AllByRecursion Q rows → AllByRecursion P (all_in f rows)
all_of f P Q [] each all = tt
all_of f P Q (e ∷ es) each all = all_append P (f e.row) (all_in f es) (each e all.0) (all_of f P Q es each all.1)

-- ---- valid rows

pub valid_layout : (r : Row) → IsRow Edit r → AllByRecursion IsLayoutRow (layout_in r)
valid_layout (row.Media f) is = tt
valid_layout (row.Layout l) is = (is, tt)
valid_layout (row.Campaign c) is = tt
valid_layout (row.Daypart d) is = tt
valid_layout (row.Group g) is = tt
valid_layout (row.Display d) is = tt
valid_layout (row.Event e) is = tt

pub valid_campaign : (r : Row) → IsRow Edit r → AllByRecursion IsCampaignRow (campaign_in r)
valid_campaign (row.Media f) is = tt
valid_campaign (row.Layout l) is = tt
valid_campaign (row.Campaign c) is = (is, tt)
valid_campaign (row.Daypart d) is = tt
valid_campaign (row.Group g) is = tt
valid_campaign (row.Display d) is = tt
valid_campaign (row.Event e) is = tt

pub valid_daypart : (r : Row) → IsRow Edit r → AllByRecursion (IsDaypartRow Version2) (daypart_in r)
valid_daypart (row.Media f) is = tt
valid_daypart (row.Layout l) is = tt
valid_daypart (row.Campaign c) is = tt
valid_daypart (row.Daypart d) is = (record { id = is.id; window = is.window; exceptions = is.exceptions; dates = is.dates; allowed = tt; accepted = is.accepted }, tt)
valid_daypart (row.Group g) is = tt
valid_daypart (row.Display d) is = tt
valid_daypart (row.Event e) is = tt

pub valid_event : (r : Row) → IsRow Edit r → AllByRecursion (IsEventRow Version2) (event_in r)
valid_event (row.Media f) is = tt
valid_event (row.Layout l) is = tt
valid_event (row.Campaign c) is = tt
valid_event (row.Daypart d) is = tt
valid_event (row.Group g) is = tt
valid_event (row.Display d) is = tt
valid_event (row.Event e) is =
    let v = is.event in
    (record { id = v.id; layer = v.layer; target = v.target; when = v.when; repeat = v.repeat; unit = v.unit; order = v.order; priority = v.priority; share = v.share; accepted = v.accepted }, tt)

pub valid_file : (r : Row) → IsRow Edit r → AllByRecursion IsListed (file_in r)
valid_file (row.Media f) is = (is, tt)
valid_file (row.Layout l) is = tt
valid_file (row.Campaign c) is = tt
valid_file (row.Daypart d) is = tt
valid_file (row.Group g) is = tt
valid_file (row.Display d) is = tt
valid_file (row.Event e) is = tt

-- ---- one row of a kind gives one, with its id

pub record IsOne {A : Type 0} (f : Row → List A) (key : A → ℕ) (r : Row) : Type 0 where
  pub it : A
  pub is : f r ≡ it ∷ []
  pub key_is : key it ≡ id_in r

abbrev pub Lists : {A : Type 0} → Kind → (Row → List A) → (A → ℕ) → Type 0
Lists k f key = (r : Row) → kind_of r ≡ k → IsOne f key r

pub lists_layouts : Lists kind.Layout layout_in (λ l. l.id.0)
lists_layouts (row.Media f) e = absurd (cc)
lists_layouts (row.Layout l) e = record { it = l; is = refl; key_is = refl }
lists_layouts (row.Campaign c) e = absurd (cc)
lists_layouts (row.Daypart d) e = absurd (cc)
lists_layouts (row.Group g) e = absurd (cc)
lists_layouts (row.Display d) e = absurd (cc)
lists_layouts (row.Event v) e = absurd (cc)

pub lists_campaigns : Lists kind.Campaign campaign_in (λ c. c.id.0)
lists_campaigns (row.Media f) e = absurd (cc)
lists_campaigns (row.Layout l) e = absurd (cc)
lists_campaigns (row.Campaign c) e = record { it = c; is = refl; key_is = refl }
lists_campaigns (row.Daypart d) e = absurd (cc)
lists_campaigns (row.Group g) e = absurd (cc)
lists_campaigns (row.Display d) e = absurd (cc)
lists_campaigns (row.Event v) e = absurd (cc)

pub lists_dayparts : Lists kind.Daypart daypart_in (λ p. p.id.0)
lists_dayparts (row.Media f) e = absurd (cc)
lists_dayparts (row.Layout l) e = absurd (cc)
lists_dayparts (row.Campaign c) e = absurd (cc)
lists_dayparts (row.Daypart d) e = record { it = d; is = refl; key_is = refl }
lists_dayparts (row.Group g) e = absurd (cc)
lists_dayparts (row.Display d) e = absurd (cc)
lists_dayparts (row.Event v) e = absurd (cc)

pub lists_events : Lists kind.Event event_in (λ e. e.id.0)
lists_events (row.Media f) e = absurd (cc)
lists_events (row.Layout l) e = absurd (cc)
lists_events (row.Campaign c) e = absurd (cc)
lists_events (row.Daypart d) e = absurd (cc)
lists_events (row.Group g) e = absurd (cc)
lists_events (row.Display d) e = absurd (cc)
lists_events (row.Event v) e = record { it = v.event; is = refl; key_is = refl }

pub lists_files : Lists kind.Media file_in (λ f. f.media.0)
lists_files (row.Media f) e = record { it = f; is = refl; key_is = refl }
lists_files (row.Layout l) e = absurd (cc)
lists_files (row.Campaign c) e = absurd (cc)
lists_files (row.Daypart d) e = absurd (cc)
lists_files (row.Group g) e = absurd (cc)
lists_files (row.Display d) e = absurd (cc)
lists_files (row.Event v) e = absurd (cc)

-- ---- ascending ids

abbrev IsOfKind : Kind → Kept → Type 0
IsOfKind k e = kind_of e.row ≡ k

-- what a filter leaves rises too
pub rising_filter : (p : Kept → Bool) (rows : List Kept) → IsRising number_of_kept rows → IsRising number_of_kept (filter p rows)
rising_filter p [] s = tt
rising_filter p (e ∷ es) s = elim (p e) as (λ b. IsRising number_of_kept (cond b (e ∷ filter p es) (filter p es))) [
  | true ↦ (above e es s.0, rising_filter p es s.1)
  | false ↦ rising_filter p es s.1
]
  where
    above : (x : Kept) (xs : List Kept) → AllByRecursion (λ y. number_of_kept x < number_of_kept y) xs → AllByRecursion (λ y. number_of_kept x < number_of_kept y) (filter p xs)
    above x [] a = tt
    above x (y ∷ ys) a = elim (p y) as (λ b. AllByRecursion (λ z. number_of_kept x < number_of_kept z) (cond b (y ∷ filter p ys) (filter p ys))) [
      | true ↦ (a.0, above x ys a.1)
      | false ↦ above x ys a.1
    ]

pub of_kind : (k : Kind) (rows : List Kept) → AllByRecursion (IsOfKind k) (filter (is_of k) rows)
of_kind k [] = tt
of_kind k (e ∷ es) = elim (is_of k e) as (λ b. is_of k e ≡ b → AllByRecursion (IsOfKind k) (cond b (e ∷ filter (is_of k) es) (filter (is_of k) es))) [
  | true ↦ λ is. (same_code (kind_of e.row) k (eqb-true (code_of (kind_of e.row)) (code_of k) is), of_kind k es)
  | false ↦ λ _. of_kind k es
] refl

above_in : {A : Type 0} (k : Kind) (f : Row → List A) (key : A → ℕ) → Lists k f key → (e : Kept) (rows : List Kept) → IsOfKind k e → AllByRecursion (IsOfKind k) rows → AllByRecursion (λ x. number_of_kept e < number_of_kept x) rows → AllByRecursion (λ y. id_in e.row < key y) (all_in f rows)
above_in k f key lists e [] of kinds above = tt
above_in k f key lists e (x ∷ xs) of kinds above =
    let one = lists x.row kinds.0 in
    let same = ap code_of (of ∙ sym kinds.0) in
    let less = above.0 in
    let key_is = one.key_is in
    rw (one.is) (omega (arith, same, less, key_is), above_in k f key lists e xs of kinds.1 above.1)

pub rises_in : {A : Type 0} (k : Kind) (f : Row → List A) (key : A → ℕ) → Lists k f key → (rows : List Kept) → AllByRecursion (IsOfKind k) rows → IsRising number_of_kept rows → Rises key (all_in f rows)
rises_in k f key lists [] kinds s = tt
rises_in k f key lists (e ∷ es) kinds s =
    let one = lists e.row kinds.0 in
    let above = above_in k f key lists e es kinds.0 kinds.1 s.0 in
    rw (one.is) (subst (λ n. AllByRecursion (λ y. n < key y) (all_in f es)) (sym one.key_is) above, rises_in k f key lists es kinds.1 s.1)

-- ---- what is named is there

-- the number is among these
abbrev Has : List ℕ → ℕ → Type 0
Has xs n = list_any (eqb n) xs ≡ true

pub any_left : {A : Type 0} (p : A → Bool) (xs ys : List A) → list_any p xs ≡ true → list_any p (xs ++ ys) ≡ true
any_left p [] ys e = absurd (cc)
any_left p (x ∷ xs) ys e = elim (p x) as (λ b. (b || list_any p xs) ≡ true → (b || list_any p (xs ++ ys)) ≡ true) [
  | true ↦ λ _. refl
  | false ↦ λ rest. any_left p xs ys rest
] e

pub any_right : {A : Type 0} (p : A → Bool) (xs ys : List A) → list_any p ys ≡ true → list_any p (xs ++ ys) ≡ true
any_right p [] ys e = e
any_right p (x ∷ xs) ys e = rw (any_right p xs ys e) (or_true (p x))
  where
    or_true : (b : Bool) → (b || true) ≡ true
    or_true true = refl
    or_true false = refl

has_right : {A : Type 0} (key : A → ℕ) (xs ys : List A) (n : ℕ) → Has (map key ys) n → Has (map key (xs ++ ys)) n
has_right key [] ys n h = h
has_right key (x ∷ xs) ys n h = elim (eqb n (key x)) as (λ b. (b || list_any (eqb n) (map key (xs ++ ys))) ≡ true) [
  | true ↦ refl
  | false ↦ has_right key xs ys n h
]

has_more : {A : Type 0} (f : Row → List A) (key : A → ℕ) (p q : Kept → Bool) (e : Kept) (es : List Kept) (n : ℕ) → Has (map key (all_in f (filter p (filter q es)))) n → Has (map key (all_in f (filter p (filter q (e ∷ es))))) n
has_more f key p q e es n h = elim (q e) as (λ b. Has (map key (all_in f (filter p (cond b (e ∷ filter q es) (filter q es))))) n) [
  | true ↦ elim (p e) as (λ b. Has (map key (all_in f (cond b (e ∷ filter p (filter q es)) (filter p (filter q es))))) n) [
    | true ↦ has_right key (f e.row) (all_in f (filter p (filter q es))) n h
    | false ↦ h
  ]
  | false ↦ h
]

has_first : {A : Type 0} (f : Row → List A) (key : A → ℕ) (p q : Kept → Bool) (e : Kept) (es : List Kept) → IsOne f key e.row → q e ≡ true → p e ≡ true → Has (map key (all_in f (filter p (filter q (e ∷ es))))) (id_in e.row)
has_first f key p q e es one of also = rw (of, also, one.is, one.key_is, eq-eqb (id_in e.row) (id_in e.row) refl) refl

-- a row that is there, and is named, is one of the own rows
has_named : {A : Type 0} (k : Kind) (f : Row → List A) (key : A → ℕ) → Lists k f key → (ids : List RowId) (id : ℕ) (rows : List Kept) → id < 2 ^ 32 → AllByRecursion IsBounded rows → IsThere rows (at k id) → list_any (is_same (at k id)) ids ≡ true → Has (map key (all_in f (filter (is_among ids) (filter (is_of k) rows)))) id
has_named k f key lists ids id [] short bounded there named = absurd (there refl)
has_named k f key lists ids id (e ∷ es) short bounded there named =
    let bound = bounded.0.id in
    by_equal (number_of_kept e) (number_at (at k id)) (λ b. cond b (Some e) (row_at (at k id) es) ≢ None → Has (map key (all_in f (filter (is_among ids) (filter (is_of k) (e ∷ es))))) id)
    (λ same _.
    let code : code_of (kind_of e.row) ≡ code_of k = kind_is (code_of (kind_of e.row)) (code_of k) (id_in e.row) bound (omega (arith, same, bound, short)) (omega (arith, same, bound, short)) in
    let of = same_code (kind_of e.row) k code in
    let id_is : id_in e.row ≡ id = omega (arith, same, code, bound, short) in
    let row_is : id_of e.row ≡ at k id = ap (λ x. at x (id_in e.row)) of ∙ ap (at k) id_is in
    subst (Has (map key (all_in f (filter (is_among ids) (filter (is_of k) (e ∷ es)))))) id_is
    (has_first f key (is_among ids) (is_of k) e es (lists e.row of) (eq-eqb (code_of (kind_of e.row)) (code_of k) code) (ap (λ x. list_any (is_same x) ids) row_is ∙ named)))
    (λ _ rest. has_more f key (is_among ids) (is_of k) e es id (has_named k f key lists ids id es short bounded.1 rest named))
    there

pub contains_named : {A : Type 0} (k : Kind) (f : Row → List A) (key : A → ℕ) → Lists k f key → (ids : List RowId) (id : ℕ) (rows : List Kept) → id < 2 ^ 32 → AllByRecursion IsBounded rows → IsThere rows (at k id) → list_any (is_same (at k id)) ids ≡ true → Contains (map key (all_in f (filter (is_among ids) (filter (is_of k) rows)))) id
contains_named k f key lists ids id rows short bounded there named =
    Contains-from_any eqb-true id (map key (all_in f (filter (is_among ids) (filter (is_of k) rows)))) (has_named k f key lists ids id rows short bounded there named)

-- what is known of a row that an own row names
pub record IsNamed (rows : List Kept) (ids : List RowId) (x : RowId) : Type 0 where
  pub short : IsShort x
  pub there : IsThere rows x
  pub named : list_any (is_same x) ids ≡ true

pub same_itself : (x : RowId) → is_same x x ≡ true
same_itself x = rw (eq-eqb (code_of x.kind) (code_of x.kind) refl, eq-eqb x.id x.id refl) refl

-- ids are among longer lists
in_longer : (xs : List RowId) (ids : List RowId) → ((x : RowId) → list_any (is_same x) xs ≡ true → list_any (is_same x) ids ≡ true) → AllByRecursion (λ x. list_any (is_same x) ids ≡ true) xs
in_longer [] ids into = tt
in_longer (x ∷ xs) ids into =
    (into x (rw (same_itself x) refl), in_longer xs ids (λ y among. into y (any_right (is_same y) (x ∷ []) xs among)))

named_of : (rows : List Kept) (ids xs : List RowId) → All IsShort xs → AllByRecursion (IsThere rows) xs → AllByRecursion (λ x. list_any (is_same x) ids ≡ true) xs → AllByRecursion (IsNamed rows ids) xs
named_of rows ids [] short there named = tt
named_of rows ids (x ∷ xs) short there named =
    (record { short = All-head IsShort x xs short; there = there.0; named = named.0 }, named_of rows ids xs (All-tail IsShort x xs short) there.1 named.1)

-- what rows name, where that is among some
pub all_named : (rows some : List Kept) (ids : List RowId) → AllByRecursion IsBounded some → AllByRecursion (λ e. AllByRecursion (IsThere rows) (references e.row)) some → ((x : RowId) → list_any (is_same x) (named_by some) ≡ true → list_any (is_same x) ids ≡ true) → AllByRecursion (λ e. AllByRecursion (IsNamed rows ids) (references e.row)) some
all_named rows [] ids bounded closed into = tt
all_named rows (e ∷ es) ids bounded closed into = (
  named_of rows ids (references e.row) bounded.0.named closed.0 (in_longer (references e.row) ids (λ x among. into x (any_left (is_same x) (references e.row) (named_by es) among))),
  all_named rows es ids bounded.1 closed.1 (λ x among. into x (any_right (is_same x) (references e.row) (named_by es) among)),
)
