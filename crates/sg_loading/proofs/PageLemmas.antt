-- What pages say of the rows of a keeper, and how loading goes on by them.
use Rattle.std.proofs.Common.{◌≡◌, ◌∙◌, ◌⊎◌, ⊎_elim, ℕ, zero, suc, ◌+◌, ◌-◌, ◌^◌, ◌<◌, ◌≤◌, List, [], ◌∷◌, length, Option, Some, None, refl, ap, sym, subst, arith}
use Rattle.std.specs.Prelude.{option_map}
use Rattle.std.specs.List.{AllByRecursion, slice_get}
use Rattle.sg_base.specs.declared.key.Key.{Key}
use Rattle.sg_base.specs.Keys.{number}
use Rattle.sg_base.specs.Rising.{IsRising, found}
use Rattle.sg_base.proofs.RisingLemmas.{all_above, found_above, found_first, found_later}
use Rattle.sg_keeper.specs.Pages.{HasPageForm, IsPage, end_of, number_at, start_of}
use Rattle.sg_loading.specs.Loading.{HasNoReading, IsFirstBad, IsLawful, Joins, rows_below}
use Rattle.sg_loading.specs.Pages.{AreNext, Continues, GoesOn}
use Rattle.sg_loading.proofs.RowLemmas.{rows_gap, rows_with}
use Rattle.sg_steps.specs.State.{AreRows, Core}

abbrev Row : Type 0
Row = Key × List ℕ

abbrev bytes_of : Option Row → Option (List ℕ)
bytes_of r = option_map (λ (row : Row). row.1) r

both : (P Q R : Row → Type 0) → ((x : Row) → P x → Q x → R x) → (xs : List Row) → AllByRecursion P xs → AllByRecursion Q xs → AllByRecursion R xs
both P Q R f [] a b = tt
both P Q R f (x ∷ xs) a b = (f x a.0 b.0, both P Q R f xs a.1 b.1)

-- ---- one row of a page

-- no row stands before it
gap : (kept : ℕ → Option (List ℕ)) (start end : ℕ) (e : Row) (es : List Row) → AreNext kept start end (e ∷ es) → (n : ℕ) → start ≤ n → n < number_at e → kept n ≡ None
gap kept start end e es next n ge lt =
    let in_range = next.within.0 in
    let none : found number_at n (e ∷ es) ≡ None = found_above number_at n (e ∷ es) (lt, all_above number_at (number_at e) n es (omega arith) next.rising.0) in
    next.exact n ge (omega (arith, in_range)) ∙ ap bytes_of none

here : (kept : ℕ → Option (List ℕ)) (start end : ℕ) (e : Row) (es : List Row) → AreNext kept start end (e ∷ es) → kept (number_at e) ≡ Some e.1
here kept start end e es next =
    next.exact (number_at e) next.within.0.0 next.within.0.1 ∙ ap bytes_of (found_first number_at (number_at e) e es refl)

-- the rows after it
tail : (kept : ℕ → Option (List ℕ)) (start end : ℕ) (e : Row) (es : List Row) → AreNext kept start end (e ∷ es) → AreNext kept (number_at e + 1) end es
tail kept start end e es next =
    let low : start ≤ number_at e = next.within.0.0 in
    let high : number_at e < end = next.within.0.1 in
    record {
      ordered = omega (arith, high);
      exact = λ n ge lt. next.exact n (omega (arith, low)) lt ∙ ap bytes_of (found_later number_at n e es (λ q. omega arith));
      within = both (λ row. number_at e < number_at row) (λ row. (start ≤ number_at row) × (number_at row < end)) (λ row. (number_at e + 1 ≤ number_at row) × (number_at row < end)) (λ row a b. (omega (arith, a), b.1)) es next.rising.0 next.within.1;
      rising = next.rising.1;
    }

-- the rows below the next one stand for the server
rows_before : (kept : ℕ → Option (List ℕ)) (start end : ℕ) (core : Core) (e : Row) (es : List Row) → AreNext kept start end (e ∷ es) → AreRows core (rows_below start kept) → AreRows core (rows_below (number_at e) kept)
rows_before kept start end core e es next r =
    rows_gap core kept start (number_at e) next.within.0.0 (gap kept start end e es next) r

-- a row was taken in
pub goes_on : (kept : ℕ → Option (List ℕ)) (end : ℕ) (core more : Core) (e : Row) (es : List Row) → Joins core (number_at e) e.1 more → GoesOn kept end core (e ∷ es) → GoesOn kept end more es
goes_on kept end core more e es joins g =
    record {
      start = number_at e + 1;
      next = tail kept g.start end e es g.next;
      loaded = subst (λ c. AreRows c (rows_below (number_at e + 1) kept)) (sym joins.2)
          (rows_with core kept (number_at e) e.1 joins.0 (rows_before kept g.start end core e es g.next g.loaded) (here kept g.start end e es g.next) joins.1);
    }

-- a row was refused
pub ends_bad : (kept : ℕ → Option (List ℕ)) (end limit : ℕ) (core : Core) (e : Row) (es : List Row) → core.limit ≡ limit → IsLawful core → HasNoReading core (number_at e) e.1 → GoesOn kept end core (e ∷ es) → IsFirstBad limit kept (number_at e)
ends_bad kept end limit core e es limited lawful bad g = record {
  core = core;
  limited = limited;
  lawful = lawful;
  before = rows_before kept g.start end core e es g.next g.loaded;
  text = e.1;
  there = here kept g.start end e es g.next;
  bad = bad;
}

-- all were taken in
pub is_done : (kept : ℕ → Option (List ℕ)) (end : ℕ) (core : Core) → GoesOn kept end core [] → AreRows core (rows_below end kept)
is_done kept end core g = rows_gap core kept g.start end g.next.ordered (λ n ge lt. g.next.exact n ge lt) g.loaded

-- ---- how far a page goes

-- one that isn't full has all rows
pub short_page : (kept : ℕ → Option (List ℕ)) (start end size : ℕ) (page : List Row) → start ≤ end → HasPageForm start end size page → length page < size → IsPage start end size kept page → AreNext kept start end page
short_page kept start end size page ordered form short is = record {
  ordered = ordered;
  exact = λ n ge lt. ⊎_elim (λ e. sym e) (λ full. let long = full.0 in absurd (omega (arith, long))) (is.exact n ge lt);
  within = form.within;
  rising = form.rising;
}

last_of : (P : Row → Type 0) (page : List Row) (i : ℕ) (last : Row) → AllByRecursion P page → slice_get page i ≡ Some last → P last
last_of P [] i last a got = absurd (cc)
last_of P (e ∷ es) zero last a got = let same : e ≡ last = cc in subst P same a.0
last_of P (e ∷ es) (suc i) last a got = last_of P es i last a.1 got

-- the last row has the greatest number
up_to_last : (page : List Row) (last : Row) → IsRising number_at page → slice_get page (length page - 1) ≡ Some last → AllByRecursion (λ row. number_at row ≤ number_at last) page
up_to_last [] last rising got = tt
up_to_last (e ∷ []) last rising got = let same : e ≡ last = cc in (let q = ap number_at same in omega (arith, q), tt)
up_to_last (e ∷ (x ∷ xs)) last rising got =
    let index : length (e ∷ (x ∷ xs)) - 1 ≡ suc (length (x ∷ xs) - 1) = omega arith in
    let rest : slice_get (x ∷ xs) (length (x ∷ xs) - 1) ≡ Some last = rw index at got in
    let less : number_at e < number_at last = last_of (λ row. number_at e < number_at row) (x ∷ xs) (length (x ∷ xs) - 1) last rising.0 rest in
    (omega (arith, less), up_to_last (x ∷ xs) last rising.1 rest)

-- one that is full has all rows up to its last
pub full_page : (kept : ℕ → Option (List ℕ)) (start end size : ℕ) (page : List Row) (last : Row) → HasPageForm start end size page → slice_get page (length page - 1) ≡ Some last → IsPage start end size kept page → AreNext kept start (number_at last + 1) page
full_page kept start end size page last form got is =
    let range : (start ≤ number_at last) × (number_at last < end) = last_of (λ row. (start ≤ number_at row) × (number_at row < end)) page (length page - 1) last form.within got in
    record {
      ordered = omega (arith, range);
      exact = λ n ge lt. ⊎_elim (λ e. sym e)
          (λ full. let past : number_at last < n = last_of (λ row. number_at row < n) page (length page - 1) last full.1 got in absurd (omega (arith, past)))
          (is.exact n ge (omega (arith, range)));
      within = both (λ row. number_at row ≤ number_at last) (λ row. (start ≤ number_at row) × (number_at row < end)) (λ row. (start ≤ number_at row) × (number_at row < number_at last + 1)) (λ row a b. (b.0, omega (arith, a))) page (up_to_last page last form.rising got) form.within;
      rising = form.rising;
    }

-- where its last row stands
pub last_within : (start end size : ℕ) (page : List Row) (last : Row) → HasPageForm start end size page → slice_get page (length page - 1) ≡ Some last → (start ≤ number_at last) × (number_at last < end)
last_within start end size page last form got = last_of (λ row. (start ≤ number_at row) × (number_at row < end)) page (length page - 1) last form.within got

pub continues_short : (kind start size : ℕ) (page : List Row) → start ≤ end_of kind → HasPageForm start (end_of kind) size page → length page < size → Continues kind start size page None
continues_short kind start size page ordered form short = record {
  left = omega arith;
  within = omega arith;
  rows = λ kept is. short_page kept start (end_of kind) size page ordered form short is;
}

-- a key between those of a kind is of it
same_kind : (k kind a b : ℕ) → a < 2 ^ 64 → b < 2 ^ 64 → number kind 0 0 ≤ number k a b → number k a b < number (kind + 1) 0 0 → k ≡ kind
same_kind k kind a b small fits low high = omega arith

less_left : (start end n : ℕ) → start ≤ n → n < end → suc (end - (n + 1)) ≤ end - start
less_left start end n low high = omega arith

pub continues_full : (kind start size : ℕ) (page : List Row) (last : Row) (a b : ℕ) → number kind 0 0 ≤ start → HasPageForm start (end_of kind) size page → slice_get page (length page - 1) ≡ Some last → ◌≡◌ {A = ℕ × ℕ} (a, b) (last.0.a, last.0.b) → last.0.a < 2 ^ 64 → last.0.b < 2 ^ 64 → Continues kind start size page (Some (a, b))
continues_full kind start size page last a b first form got pair small fits =
    let range = last_within start (end_of kind) size page last form got in
    let low : start ≤ number_at last = range.0 in
    let high : number_at last < end_of kind = range.1 in
    let is_a : a ≡ last.0.a = ap (λ (p : ℕ × ℕ). p.0) pair in
    let is_b : b ≡ last.0.b = ap (λ (p : ℕ × ℕ). p.1) pair in
    let here : number last.0.kind a b ≡ number_at last = ap (λ n. number last.0.kind n b) is_a ∙ ap (number last.0.kind last.0.a) is_b in
    let of_kind : last.0.kind ≡ kind = same_kind last.0.kind kind a b (subst (λ n. n < 2 ^ 64) (sym is_a) small) (subst (λ n. n < 2 ^ 64) (sym is_b) fits) (omega (arith, first, low, here)) (omega (arith, high, here)) in
    let reach : number kind a b ≡ number_at last = ap (λ k. number k a b) (sym of_kind) ∙ here in
    record {
      left = subst (λ n. suc (end_of kind - (n + 1)) ≤ end_of kind - start) (sym reach) (less_left start (end_of kind) (number_at last) low high);
      within = subst (λ n. n + 1 ≤ end_of kind) (sym reach) (omega (arith, high));
      rows = λ kept is. subst (λ n. AreNext kept start (n + 1) page) (sym reach) (full_page kept start (end_of kind) size page last form got is);
    }

-- each page begins within its kind
pub start_low : (kind : ℕ) (after : Option (ℕ × ℕ)) → number kind 0 0 ≤ start_of kind after
start_low kind None = omega arith
start_low kind (Some key) = omega arith
