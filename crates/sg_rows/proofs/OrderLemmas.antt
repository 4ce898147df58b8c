-- Entries whose numbers differ have one ascending order.
use Rattle.std.proofs.Common.{◌≡◌, ℕ, ◌<◌, Bool, true, false, List, [], ◌∷◌, nat_lt, eqb, refl, arith, lt-ltb}
use Rattle.std.proofs.lemmas.Bool.{ltb-true}
use Rattle.std.proofs.lemmas.Bool.Decides.{nat_tests}
use Rattle.std.proofs.lemmas.Map.Keys.{IsDistinct-head, IsDistinct-tail}
use Rattle.std.proofs.lemmas.List.Sorted.{IsPermutation-refl, IsPermutation-cons, IsPermutation-trans, IsPermutation-insert}
use Rattle.std.specs.Prelude.{if◌then◌else◌}
use Rattle.std.specs.List.{AllByRecursion, IsDistinct}
use Rattle.std.specs.List.Sorted.{IsPermutation}
use Rattle.sg_base.specs.declared.daypart.Window.{Window}
use Rattle.sg_base.specs.Daypart.{Ascends}
use Rattle.sg_base.proofs.DoubleLemmas.{same}
use Rattle.sg_rows.specs.Order.{insert_by, sorted_by}

-- each number is below those behind it
abbrev pub Rises : {A : Type 0} → (A → ℕ) → List A → Type 0
Rises key [] = Unit {0}
Rises key (x ∷ xs) = AllByRecursion (λ y. key x < key y) xs × Rises key xs

-- ---- what holds of each entry holds of each in order

all_if : {A : Type 0} (P : A → Type 0) (b : Bool) (xs ys : List A) → AllByRecursion P xs → AllByRecursion P ys → AllByRecursion P (if b then xs else ys)
all_if P true xs ys h k = h
all_if P false xs ys h k = k

all_insert : {A : Type 0} (P : A → Type 0) (key : A → ℕ) (x : A) (ys : List A) → P x → AllByRecursion P ys → AllByRecursion P (insert_by key x ys)
all_insert P key x [] p h = (p, tt)
all_insert P key x (y ∷ ys) p h = all_if P (nat_lt (key x) (key y)) (x ∷ (y ∷ ys)) (y ∷ insert_by key x ys) (p, h) (h.0, all_insert P key x ys p h.1)

pub all_sorted : {A : Type 0} (P : A → Type 0) (key : A → ℕ) (xs : List A) → AllByRecursion P xs → AllByRecursion P (sorted_by key xs)
all_sorted P key [] h = tt
all_sorted P key (x ∷ xs) h = all_insert P key x (sorted_by key xs) h.0 (all_sorted P key xs h.1)

-- ---- in order they ascend

pub all_above : {A : Type 0} (key : A → ℕ) (x y : A) (zs : List A) → key x < key y → AllByRecursion (λ z. key y < key z) zs → AllByRecursion (λ z. key x < key z) zs
all_above key x y [] low h = tt
all_above key x y (z ∷ zs) low h = (omega (arith, h.0), all_above key x y zs low h.1)

apart_below : (m n : ℕ) → eqb m n ≡ false → nat_lt m n ≡ false → n < m
apart_below m n e f = grind (arith, nat_tests)

rises_if : {A : Type 0} (key : A → ℕ) (x y : A) (ys zs : List A) (b : Bool) → nat_lt (key x) (key y) ≡ b → eqb (key x) (key y) ≡ false
    → Rises key (y ∷ ys) → (key y < key x → Rises key (y ∷ zs)) → Rises key (if b then x ∷ (y ∷ ys) else y ∷ zs)
rises_if key x y ys zs true e apart h k = let low = ltb-true (key x) (key y) e in ((low, all_above key x y ys low h.0), h)
rises_if key x y ys zs false e apart h k = k (apart_below (key x) (key y) apart e)

rises_insert : {A : Type 0} (key : A → ℕ) (x : A) (ys : List A) → AllByRecursion (λ y. eqb (key x) (key y) ≡ false) ys → Rises key ys → Rises key (insert_by key x ys)
rises_insert key x [] apart h = (tt, tt)
rises_insert key x (y ∷ ys) apart h =
    rises_if key x y ys (insert_by key x ys) (nat_lt (key x) (key y)) refl apart.0 h
    (λ low. (all_insert (λ z. key y < key z) key x ys low h.0, rises_insert key x ys apart.1 h.1))

pub sorted_rises : {A : Type 0} (key : A → ℕ) (xs : List A) → IsDistinct (same key) xs → Rises key (sorted_by key xs)
sorted_rises key [] h = tt
sorted_rises key (x ∷ xs) h =
    rises_insert key x (sorted_by key xs)
    (all_sorted (λ y. eqb (key x) (key y) ≡ false) key xs (IsDistinct-head (same key) x xs h))
    (sorted_rises key xs (IsDistinct-tail (same key) x xs h))

-- ---- they are the same entries

moved_if : {A : Type 0} (b : Bool) (x y : A) (ys zs : List A) → IsPermutation (x ∷ ys) zs → IsPermutation (x ∷ (y ∷ ys)) (if b then x ∷ (y ∷ ys) else y ∷ zs)
moved_if true x y ys zs h = IsPermutation-refl (x ∷ (y ∷ ys))
moved_if false x y ys zs h =
    IsPermutation-trans (x ∷ (y ∷ ys)) (y ∷ (x ∷ ys)) (y ∷ zs) (IsPermutation-insert (y ∷ ys) 1 x) (IsPermutation-cons y (x ∷ ys) zs h)

insert_moves : {A : Type 0} (key : A → ℕ) (x : A) (ys : List A) → IsPermutation (x ∷ ys) (insert_by key x ys)
insert_moves key x [] = IsPermutation-refl (x ∷ [])
insert_moves key x (y ∷ ys) = moved_if (nat_lt (key x) (key y)) x y ys (insert_by key x ys) (insert_moves key x ys)

pub sorted_moves : {A : Type 0} (key : A → ℕ) (xs : List A) → IsPermutation xs (sorted_by key xs)
sorted_moves key [] = IsPermutation-refl []
sorted_moves key (x ∷ xs) =
    IsPermutation-trans (x ∷ xs) (x ∷ sorted_by key xs) (insert_by key x (sorted_by key xs))
    (IsPermutation-cons x xs (sorted_by key xs) (sorted_moves key xs)) (insert_moves key x (sorted_by key xs))

-- ---- what ascends stays

insert_first : {A : Type 0} (key : A → ℕ) (x : A) (ys : List A) → AllByRecursion (λ y. key x < key y) ys → insert_by key x ys ≡ x ∷ ys
insert_first key x [] h = refl
insert_first key x (y ∷ ys) h = rw (lt-ltb (key x) (key y) h.0) refl

pub sorted_again : {A : Type 0} (key : A → ℕ) (xs : List A) → Rises key xs → sorted_by key xs ≡ xs
sorted_again key [] h = refl
sorted_again key (x ∷ xs) h = rw (sorted_again key xs h.1) (insert_first key x xs h.0)

-- ---- the exceptions of a daypart

pub ascends_from_rises : (es : List (ℕ × Window)) → Rises (λ e. e.0) es → Ascends es
ascends_from_rises [] h = tt
ascends_from_rises (e ∷ []) h = tt
ascends_from_rises (e ∷ (f ∷ es)) h = (h.0.0, ascends_from_rises (f ∷ es) h.1)

first_below : (e : ℕ × Window) (es : List (ℕ × Window)) → Ascends (e ∷ es) → Rises (λ e. e.0) es → AllByRecursion (λ f. e.0 < f.0) es
first_below e [] h k = tt
first_below e (f ∷ es) h k = (h.0, all_above (λ (e : ℕ × Window). e.0) e f es h.0 k.0)

pub rises_from_ascends : (es : List (ℕ × Window)) → Ascends es → Rises (λ e. e.0) es
rises_from_ascends [] h = tt
rises_from_ascends (e ∷ []) h = (tt, tt)
rises_from_ascends (e ∷ (f ∷ es)) h = let rest = rises_from_ascends (f ∷ es) h.1 in (first_below e (f ∷ es) h rest, rest)
