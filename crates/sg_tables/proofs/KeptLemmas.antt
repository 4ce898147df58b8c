-- What all rows have, after a change of one: what they name is there.
use Rattle.std.proofs.Common.{◌≡◌, ◌≢◌, ℕ, true, false, cond, eqb, ◌&&◌, ◌||◌, List, [], ◌∷◌, refl, ap, sym, ◌∙◌, subst, arith}
use Rattle.std.specs.Prelude.{Option, None, Some, All}
use Rattle.std.specs.List.{AllByRecursion, list_any}
use Rattle.std.proofs.lemmas.Bool.{eq-eqb, ne_eqb}
use Rattle.std.proofs.lemmas.List.Elements.{All-head, All-tail}
use Rattle.std.proofs.lemmas.List.Sums.{sum_by-cons}
use Rattle.sg_base.specs.declared.kind.Kind.{Kind}
use Rattle.sg_base.specs.declared.kind.Kind.TheVariants as kind
use Rattle.sg_base.specs.declared.row.Row.{Row}
use Rattle.sg_base.specs.declared.row.Row.TheVariants as row
use Rattle.sg_base.specs.Faults.{first_in}
use Rattle.sg_base.specs.Rising.{found, put, without}
use Rattle.sg_base.proofs.FaultLemmas.{first_none, if_none}
use Rattle.sg_base.proofs.RisingLemmas.{by_equal, by_put, found-put, found-without, all_without}
use Rattle.sg_tables.specs.declared.change.TableRefusal.TheVariants.{InUse}
use Rattle.sg_tables.specs.declared.row_id.RowId.{RowId}
use Rattle.sg_tables.specs.Counts.{IsBounded, IsShort, times, times_in}
use Rattle.sg_tables.specs.Entries.{Kept, number_of_kept}
use Rattle.sg_tables.specs.Refusals.{AreClosed, IsThere, is_of, reference_fault, references_fault, row_at, use_fault, user_fault}
use Rattle.sg_tables.specs.Rows.{code_of, id_in, is_same, number_at, references, uses}
use Rattle.sg_tables.proofs.KindLemmas.{kind_is}

pub kept_put : (P : Kept → Type 0) (e : Kept) (rows : List Kept) → P e → AllByRecursion P rows → AllByRecursion P (put number_of_kept e rows)
kept_put P e [] p a = (p, tt)
kept_put P e (x ∷ xs) p a = by_put number_of_kept e x xs (AllByRecursion P) (λ _. (p, a)) (λ _. (p, a.1)) (λ _. (a.0, kept_put P e xs p a.1))

pub kept_at : (P : Kept → Type 0) (n : ℕ) (e : Kept) (rows : List Kept) → AllByRecursion P rows → found number_of_kept n rows ≡ Some e → P e
kept_at P n e [] a f = absurd (cc)
kept_at P n e (x ∷ xs) a f = by_equal (number_of_kept x) n (λ b. cond b (Some x) (found number_of_kept n xs) ≡ Some e → P e)
    (λ _ h. let is : x ≡ e = cc in subst P is a.0)
    (λ _ h. kept_at P n e xs a.1 h) f

-- what one fact gives of an element another gives too, if it follows
all_into : {A : Type 0} (P Q : A → Type 0) (xs : List A) → ((x : A) → P x → Q x) → AllByRecursion P xs → AllByRecursion Q xs
all_into P Q [] follows a = tt
all_into P Q (x ∷ xs) follows a = (follows x a.0, all_into P Q xs follows a.1)

-- ---- rows that are put

there_put : (e : Kept) (rows : List Kept) (id : RowId) → IsThere rows id → IsThere (put number_of_kept e rows) id
there_put e rows id there gone =
    by_equal (number_of_kept e) (number_at id) (λ b. cond b (Some e) (row_at id rows) ≡ None → ⊥)
    (λ _ none. absurd (cc))
    (λ _ none. there none)
    (sym (found-put number_of_kept (number_at id) e rows) ∙ gone)

pub closed_put : (e : Kept) (rows : List Kept) → AllByRecursion (IsThere rows) (references e.row) → AreClosed rows → AreClosed (put number_of_kept e rows)
closed_put e rows named closed =
    let now : (x : Kept) → AllByRecursion (IsThere rows) (references x.row) → AllByRecursion (IsThere (put number_of_kept e rows)) (references x.row) =
    (λ x. all_into (IsThere rows) (IsThere (put number_of_kept e rows)) (references x.row) (there_put e rows)) in
    kept_put (λ x. AllByRecursion (IsThere (put number_of_kept e rows)) (references x.row)) e rows (now e named)
    (all_into (λ x. AllByRecursion (IsThere rows) (references x.row)) (λ x. AllByRecursion (IsThere (put number_of_kept e rows)) (references x.row)) rows now closed)

one_there : (id : RowId) (r : Option Kept) → reference_fault id r ≡ None → r ≢ None
one_there id None e is = absurd (cc)
one_there id (Some x) e is = absurd (cc)

-- no fault in what a row names says that it is there
pub named_there : (rows : List Kept) (ids : List RowId) → references_fault rows ids ≡ None → AllByRecursion (IsThere rows) ids
named_there rows [] e = tt
named_there rows (id ∷ ids) e =
    let parts = first_none (reference_fault id (row_at id rows)) (references_fault rows ids) e in
    (one_there id (row_at id rows) parts.0, named_there rows ids parts.1)

-- ---- a row that goes

is_one : (id : RowId) (n : ℕ) → n ≡ number_at id → ◌≡◌ {A = ℕ} (cond (eqb (number_at id) n) 1 0) 1
is_one id n same = rw (eq-eqb (number_at id) n (sym same))

is_none : (id : RowId) (n : ℕ) → number_at id ≢ n → ◌≡◌ {A = ℕ} (cond (eqb (number_at id) n) 1 0) 0
is_none id n other = rw (ne_eqb (number_at id) n other)

-- named nowhere among ids
not_among : (n : ℕ) (ids : List RowId) → times n ids ≡ 0 → AllByRecursion (λ id. n ≢ number_at id) ids
not_among n [] e = tt
not_among n (id ∷ ids) e =
    let c = sum_by-cons (λ (x : RowId). cond (eqb (number_at x) n) 1 0) id ids in (
      λ same. let one = is_one id n same in omega (arith, c, e, one),
      not_among n ids (omega (arith, c, e)),
    )

there_without : (n : ℕ) (rows : List Kept) (id : RowId) → IsThere rows id → n ≢ number_at id → IsThere (without number_of_kept n rows) id
there_without n rows id there other gone =
    there (sym (found-without number_of_kept n (number_at id) rows ∙ rw (ne_eqb n (number_at id) other) refl) ∙ gone)

still_there : (n : ℕ) (rows : List Kept) (ids : List RowId) → AllByRecursion (IsThere rows) ids → AllByRecursion (λ id. n ≢ number_at id) ids → AllByRecursion (IsThere (without number_of_kept n rows)) ids
still_there n rows [] there others = tt
still_there n rows (id ∷ ids) there others = (there_without n rows id there.0 others.0, still_there n rows ids there.1 others.1)

all_still : (n : ℕ) (rows some : List Kept) → times_in n some ≡ 0 → AllByRecursion (λ e. AllByRecursion (IsThere rows) (references e.row)) some → AllByRecursion (λ e. AllByRecursion (IsThere (without number_of_kept n rows)) (references e.row)) some
all_still n rows [] e closed = tt
all_still n rows (x ∷ xs) e closed =
    let c = sum_by-cons (λ (y : Kept). times n (references y.row)) x xs in
    (still_there n rows (references x.row) closed.0 (not_among n (references x.row) (omega (arith, c, e))), all_still n rows xs (omega (arith, c, e)) closed.1)

pub closed_without : (n : ℕ) (rows : List Kept) → times_in n rows ≡ 0 → AreClosed rows → AreClosed (without number_of_kept n rows)
closed_without n rows unused closed =
    all_without number_of_kept (λ e. AllByRecursion (IsThere (without number_of_kept n rows)) (references e.row)) n rows (all_still n rows rows unused closed)

-- ---- no user

-- ids that aren't the same have other numbers
other_number : (id x : RowId) → IsShort id → IsShort x → is_same id x ≡ false → number_at x ≢ number_at id
other_number id x short_id short_x apart same =
    let k : code_of id.kind ≡ code_of x.kind = kind_is (code_of id.kind) (code_of x.kind) id.id short_id (omega (arith, same, short_id, short_x)) (omega (arith, same, short_id, short_x)) in
    let i : id.id ≡ x.id = omega (arith, same, k, short_id, short_x) in
    let yes : is_same id x ≡ true = rw (eq-eqb (code_of id.kind) (code_of x.kind) k, eq-eqb id.id x.id i) refl in
    absurd (cc)

no_times : (id : RowId) (ids : List RowId) → IsShort id → All IsShort ids → list_any (is_same id) ids ≡ false → times (number_at id) ids ≡ 0
no_times id [] short all apart = refl
no_times id (x ∷ xs) short all apart =
    elim (is_same id x) as (λ b. is_same id x ≡ b → (b || list_any (is_same id) xs) ≡ false → times (number_at id) (x ∷ xs) ≡ 0) [
      | true ↦ λ _ e. absurd (cc)
      | false ↦ λ other e.
          let c = sum_by-cons (λ (y : RowId). cond (eqb (number_at y) (number_at id)) 1 0) x xs in
          let rest = no_times id xs short (All-tail IsShort x xs all) e in
          let none = is_none x (number_at id) (other_number id x short (All-head IsShort x xs all) other) in
          omega (arith, c, rest, none)
    ] refl apart

-- a row of one of the kinds that name others doesn't name this one
pub record HasNoUse (id : RowId) (e : Kept) : Type 0 where
  pub campaign : use_fault id kind.Campaign e ≡ None
  pub layout : use_fault id kind.Layout e ≡ None
  pub event : use_fault id kind.Event e ≡ None
  pub display : use_fault id kind.Display e ≡ None

not_used : (id : RowId) (k : Kind) (e : Kept) → is_of k e ≡ true → use_fault id k e ≡ None → uses id e.row ≡ false
not_used id k e of none =
    elim (uses id e.row) as (λ b. uses id e.row ≡ b → b ≡ false) [
      | true ↦ λ yes.
          let both : (is_of k e && uses id e.row) ≡ true = rw (of, yes) refl in
          let other = (if_none (is_of k e && uses id e.row) (InUse id.kind id.id k (id_in e.row)) None none).0 in
          absurd (cc)
      | false ↦ λ _. refl
    ] refl

uses_none : (id : RowId) (r : Row) (e : Kept) → e.row ≡ r → HasNoUse id e → uses id r ≡ false
uses_none id (row.Media f) e is h = refl
uses_none id (row.Layout l) e is h = ap (uses id) (sym is) ∙ not_used id kind.Layout e (rw is refl) h.layout
uses_none id (row.Campaign c) e is h = ap (uses id) (sym is) ∙ not_used id kind.Campaign e (rw is refl) h.campaign
uses_none id (row.Daypart d) e is h = refl
uses_none id (row.Group g) e is h = refl
uses_none id (row.Display d) e is h = ap (uses id) (sym is) ∙ not_used id kind.Display e (rw is refl) h.display
uses_none id (row.Event v) e is h = ap (uses id) (sym is) ∙ not_used id kind.Event e (rw is refl) h.event

none_used : (id : RowId) (rows : List Kept) → IsShort id → AllByRecursion IsBounded rows → first_in (use_fault id kind.Campaign) rows ≡ None → first_in (use_fault id kind.Layout) rows ≡ None
    → first_in (use_fault id kind.Event) rows ≡ None → first_in (use_fault id kind.Display) rows ≡ None → times_in (number_at id) rows ≡ 0
none_used id [] short bounded c l v d = refl
none_used id (x ∷ xs) short bounded c l v d =
    let campaign = first_none (use_fault id kind.Campaign x) (first_in (use_fault id kind.Campaign) xs) c in
    let layout = first_none (use_fault id kind.Layout x) (first_in (use_fault id kind.Layout) xs) l in
    let event = first_none (use_fault id kind.Event x) (first_in (use_fault id kind.Event) xs) v in
    let display = first_none (use_fault id kind.Display x) (first_in (use_fault id kind.Display) xs) d in
    let unused_here = uses_none id x.row x refl (record { campaign = campaign.0; layout = layout.0; event = event.0; display = display.0 }) in
    let here = no_times id (references x.row) short bounded.0.named unused_here in
    let rest = none_used id xs short bounded.1 campaign.1 layout.1 event.1 display.1 in
    let sum = sum_by-cons (λ (y : Kept). times (number_at id) (references y.row)) x xs in
    omega (arith, here, rest, sum)

-- a row that no row uses is named nowhere
pub unused : (id : RowId) (rows : List Kept) → IsShort id → AllByRecursion IsBounded rows → user_fault id rows ≡ None → times_in (number_at id) rows ≡ 0
unused id rows short bounded e =
    let a = first_none (first_in (use_fault id kind.Campaign) rows) _ e in
    let b = first_none (first_in (use_fault id kind.Layout) rows) _ a.1 in
    let c = first_none (first_in (use_fault id kind.Event) rows) (first_in (use_fault id kind.Display) rows) b.1 in
    none_used id rows short bounded a.0 b.0 c.0 c.1
