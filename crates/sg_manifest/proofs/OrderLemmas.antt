-- Rows whose ids differ have one ascending order.
use Rattle.std.proofs.Common.{◌≡◌, ℕ, zero, suc, ◌+◌, ◌<◌, ◌≤◌, eqb, false, List, [], ◌∷◌, length, map, drop, drop-cons, add-one, get_or, ◌⊎◌, inl, inr, refl, sym, ap, ◌∙◌, subst, arith}
use Rattle.std.proofs.lemmas.Bool.Decides.{nat_tests}
use Rattle.std.proofs.lemmas.Map.Keys.{IsDistinct-head, IsDistinct-tail, IsDistinct-IsPermutation}
use Rattle.std.proofs.lemmas.List.Sorted.{Contains-permutation, IsPermutation-sym, IsPermutation-trans}
use Rattle.std.proofs.lemmas.List.{drop_all}
use Rattle.std.specs.List.{AllByRecursion, IsDistinct, Contains}
use Rattle.std.specs.List.Sorted.{IsPermutation, IsNonDecreasingBy, IsStrictlyIncreasing}
use Rattle.sg_base.proofs.DoubleLemmas.{same, same_flips}
use Rattle.sg_rows.specs.Order.{sorted_by}
use Rattle.sg_rows.proofs.OrderLemmas.{Rises, all_above, sorted_rises, sorted_moves}

-- ---- ids that ascend, by their list and by their rows

pub increasing_from_rises : {A : Type 0} (key : A → ℕ) (xs : List A) → Rises key xs → IsStrictlyIncreasing (map key xs)
increasing_from_rises key [] h k lt = absurd (omega arith)
increasing_from_rises key (x ∷ []) h k lt = absurd (omega arith)
increasing_from_rises key (x ∷ y ∷ ys) h zero lt = h.0.0
increasing_from_rises key (x ∷ y ∷ ys) h (suc k) lt =
    let next : suc k + 1 ≡ suc (k + 1) = omega arith in
    rw next (increasing_from_rises key (y ∷ ys) h.1 k (omega arith))

rest_increases : {A : Type 0} (key : A → ℕ) (x : A) (xs : List A) → IsStrictlyIncreasing (map key (x ∷ xs)) → IsStrictlyIncreasing (map key xs)
rest_increases key x xs h k lt =
    let next : suc k + 1 ≡ suc (k + 1) = omega arith in
    rw next at (h (suc k) (omega arith))

first_less : {A : Type 0} (key : A → ℕ) (x : A) (xs : List A) → IsStrictlyIncreasing (map key (x ∷ xs)) → Rises key xs → AllByRecursion (λ y. key x < key y) xs
first_less key x [] h r = tt
first_less key x (y ∷ ys) h r = let low : key x < key y = h 0 (omega arith) in (low, all_above key x y ys low r.0)

pub rises_from_increasing : {A : Type 0} (key : A → ℕ) (xs : List A) → IsStrictlyIncreasing (map key xs) → Rises key xs
rises_from_increasing key [] h = tt
rises_from_increasing key (x ∷ xs) h = let rest = rises_from_increasing key xs (rest_increases key x xs h) in (first_less key x xs h rest, rest)

all_apart : {A : Type 0} (key : A → ℕ) (x : A) (xs : List A) → AllByRecursion (λ y. key x < key y) xs → AllByRecursion (λ y. same key x y ≡ false) xs
all_apart key x [] h = tt
all_apart key x (y ∷ ys) h = (let low : key x < key y = h.0 in grind (arith, nat_tests), all_apart key x ys h.1)

pub distinct_from_rises : {A : Type 0} (key : A → ℕ) (xs : List A) → Rises key xs → IsDistinct (same key) xs
unfolding IsDistinct
distinct_from_rises key [] h = tt
distinct_from_rises key (x ∷ xs) h = (all_apart key x xs h.0, distinct_from_rises key xs h.1)

-- ---- a sort of ids that differ makes them ascend

less : (m n : ℕ) → m ≤ n → eqb m n ≡ false → m < n
less m n h e = grind (arith, nat_tests)

all_less : {A : Type 0} (key : A → ℕ) (x : A) (xs : List A) → ((j : ℕ) (d : A) → j < length xs → key x ≤ key (get_or xs j d)) → AllByRecursion (λ y. same key x y ≡ false) xs → AllByRecursion (λ y. key x < key y) xs
all_less key x [] h k = tt
all_less key x (y ∷ ys) h k = (less (key x) (key y) (h 0 y (omega arith)) k.0, all_less key x ys (λ j d lt. h (suc j) d (omega arith)) k.1)

rises_from_distinct : {A : Type 0} (key : A → ℕ) (xs : List A) → IsNonDecreasingBy key xs → IsDistinct (same key) xs → Rises key xs
rises_from_distinct key [] h k = tt
rises_from_distinct key (x ∷ xs) h k = (
  all_less key x xs (λ j d lt. h 0 (suc j) d (omega arith) (omega arith)) (IsDistinct-head (same key) x xs k),
  rises_from_distinct key xs (λ i j d le lt. h (suc i) (suc j) d (omega arith) (omega arith)) (IsDistinct-tail (same key) x xs k),
)

-- ---- two ascending orders of the same rows are one

all_contains : {A : Type 0} (P : A → Type 0) (xs : List A) → AllByRecursion P xs → (k : ℕ) (z : A) → k < length xs → get_or xs k z ≡ z → P z
all_contains P [] h k z lt e = absurd (omega arith)
all_contains P (x ∷ xs) h zero z lt e = subst P e h.0
all_contains P (x ∷ xs) h (suc k) z lt e = all_contains P xs h.1 k z (omega arith) e

above : {A : Type 0} (key : A → ℕ) (x : A) (xs : List A) → Rises key (x ∷ xs) → (z : A) → Contains xs z → key x < key z
above key x xs h z c = all_contains (λ y. key x < key y) xs h.0 c.0 z c.1 c.2

first_or_rest : {A : Type 0} (x : A) (xs : List A) (z : A) → Contains (x ∷ xs) z → (x ≡ z) ⊎ Contains xs z
first_or_rest x xs z within = at within.0 within.1 within.2
  where
    at : (k : ℕ) → k < length (x ∷ xs) → get_or (x ∷ xs) k z ≡ z → (x ≡ z) ⊎ Contains xs z
    at zero inside is = inl is
    at (suc k) inside is = inr (k, omega arith, is)

has_first : {A : Type 0} (x : A) (xs : List A) → Contains (x ∷ xs) x
has_first x xs = (0, omega arith, refl)

rest_within : {A : Type 0} (key : A → ℕ) (x : A) (xs ys : List A) → Rises key (x ∷ xs) → ((z : A) → Contains (x ∷ xs) z → Contains (x ∷ ys) z) → (z : A) → Contains xs z → Contains ys z
rest_within key x xs ys up within z there =
    elim (first_or_rest x ys z (within z (in_rest there))) [ inl is ↦ absurd (omega (arith, above key x xs up z there, ap key is)) | inr rest ↦ rest ]
  where
    in_rest : Contains xs z → Contains (x ∷ xs) z
    in_rest h = (suc h.0, omega (arith, h.1), h.2)

same_first : {A : Type 0} (key : A → ℕ) (x y : A) (xs ys : List A) → Rises key (x ∷ xs) → Rises key (y ∷ ys) → Contains (y ∷ ys) x → Contains (x ∷ xs) y → x ≡ y
same_first key x y xs ys up down there back =
    elim (first_or_rest y ys x there) [
      | inl is ↦ sym is
      | inr late ↦
          elim (first_or_rest x xs y back) [ inl is ↦ is | inr later ↦ absurd (omega (arith, above key y ys down x late, above key x xs up y later)) ]
    ]

one_order : {A : Type 0} (key : A → ℕ) (xs ys : List A) → Rises key xs → Rises key ys → ((z : A) → Contains xs z → Contains ys z) → ((z : A) → Contains ys z → Contains xs z) → xs ≡ ys
one_order key [] [] up down there back = refl
one_order key [] (y ∷ ys) up down there back = absurd (omega (arith, (back y (has_first y ys)).1))
one_order key (x ∷ xs) [] up down there back = absurd (omega (arith, (there x (has_first x xs)).1))
one_order {A} key (x ∷ xs) (y ∷ ys) up down there back =
    let first : x ≡ y = same_first key x y xs ys up down (there x (has_first x xs)) (back y (has_first y ys)) in
    let P : A → Type 0 = λ v. Rises key (v ∷ ys) → ((z : A) → Contains (x ∷ xs) z → Contains (v ∷ ys) z) → ((z : A) → Contains (v ∷ ys) z → Contains (x ∷ xs) z) → x ∷ xs ≡ v ∷ ys in
    subst P first (λ d t b. ap (λ l. x ∷ l) (one_order key xs ys up.1 d.1 (rest_within key x xs ys up t) (rest_within key x ys xs d b))) down there back

-- what a sort by ids makes of rows whose ids differ
pub sorted_is : {A : Type 0} (key : A → ℕ) (xs ys : List A) → IsDistinct (same key) xs → IsPermutation xs ys → IsNonDecreasingBy key ys → ys ≡ sorted_by key xs
sorted_is key xs ys apart moved up =
    let rises = rises_from_distinct key ys up (IsDistinct-IsPermutation (same key) (same_flips key) xs ys moved apart) in
    let across : IsPermutation ys (sorted_by key xs) = IsPermutation-trans ys xs (sorted_by key xs) (IsPermutation-sym xs ys moved) (sorted_moves key xs) in
    one_order key ys (sorted_by key xs) rises (sorted_rises key xs apart)
    (λ z h. Contains-permutation ys (sorted_by key xs) z across h)
    (λ z h. Contains-permutation (sorted_by key xs) ys z (IsPermutation-sym ys (sorted_by key xs) across) h)

-- ---- rows whose ids ascend from a number on

pub record RisesFrom {A : Type 0} (key : A → ℕ) (least : ℕ) (xs : List A) : Type 0 where
  pub rises : Rises key xs
  pub from : AllByRecursion (λ x. least ≤ key x) xs

all_over : {A : Type 0} (key : A → ℕ) (low high : ℕ) (xs : List A) → low ≤ high → AllByRecursion (λ x. high ≤ key x) xs → AllByRecursion (λ x. low ≤ key x) xs
all_over key low high [] less h = tt
all_over key low high (x ∷ xs) less h = (omega (arith, less, h.0), all_over key low high xs less h.1)

from_next : {A : Type 0} (key : A → ℕ) (x : A) (xs : List A) (least next : ℕ) → least ≤ key x → next ≡ key x + 1 → RisesFrom key next xs → RisesFrom key least (x ∷ xs)
from_next key x xs least next low is h = record {
  rises = (all_over key (suc (key x)) next xs (omega (arith, is)) h.from, h.rises);
  from = (low, all_over key least next xs (omega (arith, low, is)) h.from);
}

-- one row more is above those before it
pub rises_next : {A : Type 0} (key : A → ℕ) (rows : List A) (i : ℕ) (x : A) (least next : ℕ) → i < length rows → x ≡ get_or rows i x → least ≤ key x → next ≡ key x + 1
    → (RisesFrom key least (drop i rows) → Rises key rows) → RisesFrom key next (drop (i + 1) rows) → Rises key rows
rises_next key rows i x least next inside e low is before h =
    let here : drop i rows ≡ x ∷ drop (suc i) rows = drop-cons rows i x inside ∙ ap (λ y. y ∷ drop (suc i) rows) (sym e) in
    let rest = subst (λ n. RisesFrom key next (drop n rows)) (add-one i) h in
    before (subst (RisesFrom key least) (sym here) (from_next key x (drop (suc i) rows) least next low is rest))

-- nothing stands after the last row
pub rises_end : {A : Type 0} (key : A → ℕ) (rows : List A) (i least : ℕ) → length rows ≤ i → (RisesFrom key least (drop i rows) → Rises key rows) → IsDistinct (same key) rows
rises_end key rows i least over before =
    distinct_from_rises key rows (before (subst (RisesFrom key least) (sym (drop_all i rows over)) (record { rises = tt; from = tt })))
