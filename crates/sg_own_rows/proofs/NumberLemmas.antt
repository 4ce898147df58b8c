-- Rows looked up by their numbers.
use Rattle.std.proofs.Common.{◌≡◌, ℕ, zero, suc, ◌+◌, ◌*◌, ◌^◌, ◌<◌, ◌==◌, ◌||◌, ◌&&◌, eqb, Bool, true, false, cond, List, [], ◌∷◌, ◌++◌, length, get_or, map, take, refl, ap, sym, ◌∙◌, arith, inl, inr}
use Rattle.std.specs.Prelude.{Result, Ok, Err, MatchResult, All, IsPermutation, ◌≤◌}
use Rattle.std.specs.Result.{is_ok}
use Rattle.std.specs.List.{list_any}
use Rattle.std.specs.List.Sorted.{IsNonDecreasing}
use Rattle.std.proofs.lemmas.Bool.{cases_eq, cases_order, eq-eqb, ne_eqb}
use Rattle.std.proofs.lemmas.List.Elements.{All-head, All-tail}
use Rattle.std.proofs.lemmas.List.Sorted.{list_any-IsPermutation}
use Rattle.sg_base.specs.Rows.{kind_of}
use Rattle.sg_own_rows.specs.Numbers.{IsListOf, has_number, number_of_row}
use Rattle.sg_tables.specs.declared.row_id.RowId.{RowId}
use Rattle.sg_tables.specs.Counts.{IsShort}
use Rattle.sg_tables.specs.Rows.{code_of, is_same}

-- ---- one number

-- two rows have one number only if they are the same
numbers_of : (m n i j : ℕ) → i < 2 ^ 32 → j < 2 ^ 32 → m * 2 ^ 32 + i ≡ n * 2 ^ 32 + j → (m ≡ n) × (i ≡ j)
numbers_of m n i j a b e = (omega (arith, a, b, e), omega (arith, a, b, e))

one_number : (id x : RowId) → IsShort id → IsShort x → (number_of_row x == number_of_row id) ≡ is_same id x
one_number id x short_id short_x =
    elim (cases_eq (number_of_row x) (number_of_row id)) [
      | inl same ↦
          let parts = numbers_of (code_of x.kind) (code_of id.kind) x.id id.id short_x short_id same in
          rw (eq-eqb (number_of_row x) (number_of_row id) same, eq-eqb (code_of id.kind) (code_of x.kind) (sym parts.0), eq-eqb id.id x.id (sym parts.1)) refl
      | inr other ↦ elim (cases_eq (code_of id.kind) (code_of x.kind)) [
        | inl k ↦ rw (ne_eqb (number_of_row x) (number_of_row id) other, eq-eqb (code_of id.kind) (code_of x.kind) k, ne_eqb id.id x.id (λ i. other (omega (arith, k, i)))) refl
        | inr k ↦ rw (ne_eqb (number_of_row x) (number_of_row id) other, ne_eqb (code_of id.kind) (code_of x.kind) k) refl
      ]
    ]

any_same : (id : RowId) (ids : List RowId) → IsShort id → All IsShort ids → list_any (λ n. n == number_of_row id) (map number_of_row ids) ≡ list_any (is_same id) ids
any_same id [] short all = refl
any_same id (x ∷ xs) short all =
    rw (one_number id x short (All-head IsShort x xs all)) (ap (λ b. is_same id x || b) (any_same id xs short (All-tail IsShort x xs all)))

-- numbers in order are looked up as the rows are
pub list_ordered : (ids : List RowId) (numbers ordered : List ℕ) → IsPermutation numbers ordered → IsNonDecreasing ordered → All IsShort ids → numbers ≡ map number_of_row ids → IsListOf ids ordered
list_ordered ids numbers ordered moved sorted all is = record {
  sorted = sorted;
  same = λ id short.
      sym (list_any-IsPermutation (λ n. n == number_of_row id) numbers ordered moved)
      ∙ (ap (list_any (λ n. n == number_of_row id)) is ∙ any_same id ids short all);
}

-- ---- a number at an index

or_true : (b : Bool) → (b || true) ≡ true
or_true true = refl
or_true false = refl

pub any_at : (xs : List ℕ) (k x : ℕ) → k < length xs → get_or xs k 0 ≡ x → list_any (λ n. n == x) xs ≡ true
any_at [] k x h e = absurd (omega arith)
any_at (y ∷ ys) zero x h e = rw (eq-eqb y x e) refl
any_at (y ∷ ys) (suc k) x h e = rw (any_at ys k x (omega arith) e) (or_true (y == x))

pub none_any : (xs : List ℕ) (x : ℕ) → ((k : ℕ) → k < length xs → get_or xs k 0 ≡ x → ⊥) → list_any (λ n. n == x) xs ≡ false
none_any [] x h = refl
none_any (y ∷ ys) x h = rw (ne_eqb y x (λ e. h 0 (omega arith) e)) (none_any ys x (λ k lt e. h (suc k) (omega arith) e))

-- what a search by halving says
pub found_by : (xs : List ℕ) (x : ℕ) (r : Result ℕ ℕ) → MatchResult r (λ i. (i < length xs) × (get_or xs i 0 ≡ x)) (λ i. (i ≤ length xs) × ((k : ℕ) → k < i → get_or xs k 0 < x) × ((k : ℕ) → i ≤ k → k < length xs → x < get_or xs k 0)) → is_ok r ≡ list_any (λ n. n == x) xs
found_by xs x (Ok i) m = sym (any_at xs i x m.0 m.1)
found_by xs x (Err i) m = sym (none_any xs x (λ k lt e. elim (cases_order k i) [
  | inl same ↦ let above = m.2 k (omega (arith, same)) lt in omega (arith, above, e)
  | inr (inl less) ↦ let below = m.1 k less in omega (arith, below, e)
  | inr (inr more) ↦ let above = m.2 k (omega (arith, more)) lt in omega (arith, above, e)
]))
