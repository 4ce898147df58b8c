-- Lemmas on lists that rise by the rank of each element.
use Rattle.std.proofs.Common.{◌≡◌, ℕ, suc, zero, ◌+◌, ◌-◌, ◌<◌, ◌≤◌, Bool, true, false, cond, not, eqb, ltb, List, [], ◌∷◌, length, get_or, set, take, drop, ⊎_elim, refl, ap, sym, ◌∙◌, subst, inl, inr, ◌⊎◌, arith, zero-add}
use Rattle.std.specs.Prelude.{None, Some}
use Rattle.std.specs.List.{AllByRecursion, insert, remove}
use Rattle.std.specs.List.Sorted.{IsNonDecreasingBy, IsPartitionPoint}
use Rattle.std.proofs.lemmas.Bool.{ltb-true, ltb-false, le-ltb, lt-ltb, eq-eqb, ne_eqb, cases_order}
use Rattle.std.proofs.lemmas.List.{get_or_default}
use Rattle.sg_base.specs.Rising.{IsRising, IsFirstFrom, found, put, without}

-- ---- tests of ranks

-- a test whether two numbers are equal, by whether they are
pub by_equal : (m n : ℕ) (P : Bool → Type 0) → (m ≡ n → P true) → ((m ≡ n → ⊥) → P false) → P (eqb m n)
by_equal m n P same other =
    elim (cases_order m n) [
      | inl e ↦ rw (eq-eqb m n e) (same e)
      | inr (inl h) ↦ let ne : m ≡ n → ⊥ = (λ e. omega arith) in rw (ne_eqb m n ne) (other ne)
      | inr (inr h) ↦ let ne : m ≡ n → ⊥ = (λ e. omega arith) in rw (ne_eqb m n ne) (other ne)
    ]

-- one number that isn't above another and isn't equal to it is below it
pub less_than : (m n : ℕ) → m ≤ n → (n ≡ m → ⊥) → m < n
less_than m n le ne =
    elim (cases_order m n) [
      | inl e ↦ absurd (ne (sym e))
      | inr (inl h) ↦ h
      | inr (inr h) ↦ absurd (omega arith)
    ]

-- the three ways in which an element is put before, over or after the first of a list
pub by_put : {A : Type 0} (rank : A → ℕ) (x y : A) (ys : List A) (P : List A → Type 0) → (rank x < rank y → P (x ∷ y ∷ ys)) → (rank y ≡ rank x → P (x ∷ ys)) → (rank y < rank x → P (y ∷ put rank x ys)) → P (put rank x (y ∷ ys))
by_put rank x y ys P before over after =
    elim (cases_order (rank y) (rank x)) [
      | inl e ↦ rw (le-ltb (rank x) (rank y) (omega arith), eq-eqb (rank y) (rank x) e) (over e)
      | inr (inl h) ↦ rw (le-ltb (rank x) (rank y) (omega arith), ne_eqb (rank y) (rank x) (omega arith)) (after h)
      | inr (inr h) ↦ rw (lt-ltb (rank x) (rank y) h) (before h)
    ]

-- ---- what is found

pub found_first : {A : Type 0} (rank : A → ℕ) (k : ℕ) (x : A) (xs : List A) → rank x ≡ k → found rank k (x ∷ xs) ≡ Some x
found_first rank k x xs e = rw (eq-eqb (rank x) k e)

pub found_later : {A : Type 0} (rank : A → ℕ) (k : ℕ) (x : A) (xs : List A) → (rank x ≡ k → ⊥) → found rank k (x ∷ xs) ≡ found rank k xs
found_later rank k x xs ne = rw (ne_eqb (rank x) k ne)

-- what is found after an element is put
pub found-put : {A : Type 0} (rank : A → ℕ) (k : ℕ) (x : A) (xs : List A) → found rank k (put rank x xs) ≡ cond (eqb (rank x) k) (Some x) (found rank k xs)
found-put rank k x [] = refl
found-put rank k x (y ∷ ys) = by_put rank x y ys (λ l. found rank k l ≡ cond (eqb (rank x) k) (Some x) (found rank k (y ∷ ys)))
    (λ _. refl)
    (λ e. by_equal (rank x) k (λ b. cond b (Some x) (found rank k ys) ≡ cond b (Some x) (found rank k (y ∷ ys)))
    (λ _. refl)
    (λ ne. sym (found_later rank k y ys (λ f. ne (sym e ∙ f)))))
    (λ h. by_equal (rank y) k (λ b. cond b (Some y) (found rank k (put rank x ys)) ≡ cond (eqb (rank x) k) (Some x) (cond b (Some y) (found rank k ys)))
    (λ e. rw (ne_eqb (rank x) k (λ f. omega arith)))
    (λ _. found-put rank k x ys))

-- what is found after an element is taken out
pub found-without : {A : Type 0} (rank : A → ℕ) (k n : ℕ) (xs : List A) → found rank n (without rank k xs) ≡ cond (eqb k n) None (found rank n xs)
found-without {A = A} rank k n [] = by_equal k n (λ b. found rank n [] ≡ cond b None (found rank n [])) (λ _. refl) (λ _. refl)
found-without rank k n (y ∷ ys) =
    by_equal (rank y) k (λ b. found rank n (cond (not b) (y ∷ without rank k ys) (without rank k ys)) ≡ cond (eqb k n) None (found rank n (y ∷ ys)))
    (λ e. found-without rank k n ys ∙ by_equal k n (λ b. cond b None (found rank n ys) ≡ cond b None (found rank n (y ∷ ys)))
    (λ _. refl)
    (λ ne. sym (found_later rank n y ys (λ f. ne (sym e ∙ f)))))
    (λ ne. by_equal (rank y) n (λ b. cond b (Some y) (found rank n (without rank k ys)) ≡ cond (eqb k n) None (cond b (Some y) (found rank n ys)))
    (λ e. rw (ne_eqb k n (λ f. ne (e ∙ sym f))))
    (λ _. found-without rank k n ys))

-- what is found has the rank
pub rank_found : {A : Type 0} (rank : A → ℕ) (k : ℕ) (xs : List A) (x : A) → found rank k xs ≡ Some x → rank x ≡ k
rank_found rank k [] x e = absurd (cc)
rank_found rank k (y ∷ ys) x e =
    by_equal (rank y) k (λ b. cond b (Some y) (found rank k ys) ≡ Some x → rank x ≡ k)
    (λ same h. let is : y ≡ x = cc in subst (λ z. rank z ≡ k) is same)
    (λ _ h. rank_found rank k ys x h) e

-- where nothing is found, no element has the rank
pub rank_missing : {A : Type 0} (rank : A → ℕ) (k : ℕ) (xs : List A) → found rank k xs ≡ None → (j : ℕ) (d : A) → j < length xs → rank (get_or xs j d) ≡ k → ⊥
rank_missing rank k [] none j d h e = omega arith
rank_missing rank k (y ∷ ys) none zero d h e = let f = found_first rank k y ys e in absurd (cc)
rank_missing rank k (y ∷ ys) none (suc j) d h e =
    by_equal (rank y) k (λ b. cond b (Some y) (found rank k ys) ≡ None → ⊥)
    (λ _ h. absurd (cc))
    (λ _ f. rank_missing rank k ys f j d (omega arith) e) none

-- ---- the order

-- what is above a number is above a lower one
pub all_above : {A : Type 0} (rank : A → ℕ) (j k : ℕ) (xs : List A) → k ≤ j → AllByRecursion (λ x. j < rank x) xs → AllByRecursion (λ x. k < rank x) xs
all_above rank j k [] le a = tt
all_above rank j k (x ∷ xs) le a = (let h = a.0 in omega arith, all_above rank j k xs le a.1)

all_higher : {A : Type 0} (rank : A → ℕ) (j k : ℕ) (xs : List A) → k < j → AllByRecursion (λ x. j ≤ rank x) xs → AllByRecursion (λ x. k < rank x) xs
all_higher rank j k [] lt a = tt
all_higher rank j k (x ∷ xs) lt a = (let h = a.0 in omega arith, all_higher rank j k xs lt a.1)

pub found_above : {A : Type 0} (rank : A → ℕ) (k : ℕ) (xs : List A) → AllByRecursion (λ x. k < rank x) xs → found rank k xs ≡ None
found_above rank k [] a = refl
found_above rank k (x ∷ xs) a = let h : k < rank x = a.0 in found_later rank k x xs (λ e. omega arith) ∙ found_above rank k xs a.1

all_put : {A : Type 0} (rank : A → ℕ) (P : A → Type 0) (x : A) (xs : List A) → P x → AllByRecursion P xs → AllByRecursion P (put rank x xs)
all_put rank P x [] p a = (p, tt)
all_put rank P x (y ∷ ys) p a = by_put rank x y ys (AllByRecursion P) (λ _. (p, a)) (λ _. (p, a.1)) (λ _. (a.0, all_put rank P x ys p a.1))

pub rising-put : {A : Type 0} (rank : A → ℕ) (x : A) (xs : List A) → IsRising rank xs → IsRising rank (put rank x xs)
rising-put rank x [] s = (tt, tt)
rising-put rank x (y ∷ ys) s = by_put rank x y ys (IsRising rank)
    (λ h. ((h, all_above rank (rank y) (rank x) ys (omega arith) s.0), s))
    (λ e. (all_above rank (rank y) (rank x) ys (omega arith) s.0, s.1))
    (λ h. (all_put rank (λ z. rank y < rank z) x ys h s.0, rising-put rank x ys s.1))

pub all_without : {A : Type 0} (rank : A → ℕ) (P : A → Type 0) (k : ℕ) (xs : List A) → AllByRecursion P xs → AllByRecursion P (without rank k xs)
all_without rank P k [] a = tt
all_without rank P k (y ∷ ys) a = elim (eqb (rank y) k) as (λ b. AllByRecursion P (cond (not b) (y ∷ without rank k ys) (without rank k ys))) [
  | true ↦ all_without rank P k ys a.1
  | false ↦ (a.0, all_without rank P k ys a.1)
]

pub rising-without : {A : Type 0} (rank : A → ℕ) (k : ℕ) (xs : List A) → IsRising rank xs → IsRising rank (without rank k xs)
rising-without rank k [] s = tt
rising-without rank k (y ∷ ys) s = elim (eqb (rank y) k) as (λ b. IsRising rank (cond (not b) (y ∷ without rank k ys) (without rank k ys))) [
  | true ↦ rising-without rank k ys s.1
  | false ↦ (all_without rank (λ z. rank y < rank z) k ys s.0, rising-without rank k ys s.1)
]

pub all_at : {A : Type 0} (P : A → Type 0) (xs : List A) (j : ℕ) (d : A) → j < length xs → AllByRecursion P xs → P (get_or xs j d)
all_at P [] j d h a = absurd (omega arith)
all_at P (x ∷ xs) zero d h a = a.0
all_at P (x ∷ xs) (suc j) d h a = all_at P xs j d (omega arith) a.1

pub rising_at : {A : Type 0} (rank : A → ℕ) (xs : List A) (i j : ℕ) (d : A) → IsRising rank xs → i < j → j < length xs → rank (get_or xs i d) < rank (get_or xs j d)
rising_at rank [] i j d s h l = absurd (omega arith)
rising_at rank (x ∷ xs) i zero d s h l = absurd (omega arith)
rising_at rank (x ∷ xs) zero (suc j) d s h l = all_at (λ y. rank x < rank y) xs j d (omega arith) s.0
rising_at rank (x ∷ xs) (suc i) (suc j) d s h l = rising_at rank xs i j d s.1 (omega arith) (omega arith)

pub rising_non_decreasing : {A : Type 0} (rank : A → ℕ) (xs : List A) → IsRising rank xs → IsNonDecreasingBy rank xs
rising_non_decreasing rank xs s i j d le lt =
    elim (cases_order i j) [
      | inl e ↦ rw e (omega arith)
      | inr (inl h) ↦ let up = rising_at rank xs i j d s h lt in omega arith
      | inr (inr h) ↦ absurd (omega arith)
    ]

-- where the ranks that are below a number end
pub first_from_point : {A : Type 0} (rank : A → ℕ) (k : ℕ) (xs : List A) (i : ℕ) → i ≤ length xs → IsPartitionPoint (λ x. ltb (rank x) k ≡ true) (λ x. ltb (rank x) k ≡ false) xs i → IsFirstFrom rank k xs i
first_from_point rank k xs i within point = record {
  within = within;
  below = λ j d low h. ltb-true _ _ (point.0 j d low h);
  above = λ j d low h. ltb-false _ _ (point.1 j d low h);
}

-- two lists that rise and in which the same is found are one
pub same_rising : {A : Type 0} (rank : A → ℕ) (xs ys : List A) → IsRising rank xs → IsRising rank ys → ((k : ℕ) → found rank k xs ≡ found rank k ys) → xs ≡ ys
same_rising rank [] [] s t f = refl
same_rising rank [] (y ∷ ys) s t f = let e = f (rank y) in let g = found_first rank (rank y) y ys refl in absurd (cc)
same_rising rank (x ∷ xs) [] s t f = let e = f (rank x) in let g = found_first rank (rank x) x xs refl in absurd (cc)
same_rising rank (x ∷ xs) (y ∷ ys) s t f =
    let fx = f (rank x) in let fy = f (rank y) in
    let gx = found_first rank (rank x) x xs refl in let gy = found_first rank (rank y) y ys refl in
    elim (cases_order (rank x) (rank y)) [
      | inl e ↦
          let h = found_first rank (rank x) y ys (sym e) in
          let xy : x ≡ y = cc in
          let rest : (k : ℕ) → found rank k xs ≡ found rank k ys = λ k.
          elim (cases_order (rank x) k) [
            | inl q ↦ found_above rank k xs (all_above rank (rank x) k xs (omega arith) s.0) ∙ sym (found_above rank k ys (all_above rank (rank y) k ys (omega arith) t.0))
            | inr (inl h) ↦ sym (found_later rank k x xs (λ q. omega arith)) ∙ (f k ∙ found_later rank k y ys (λ q. omega arith))
            | inr (inr h) ↦ sym (found_later rank k x xs (λ q. omega arith)) ∙ (f k ∙ found_later rank k y ys (λ q. omega arith))
          ] in
          ap (λ z. z ∷ xs) xy ∙ ap (λ l. y ∷ l) (same_rising rank xs ys s.1 t.1 rest)
      | inr (inl h) ↦
          let g = found_later rank (rank x) y ys (λ q. omega arith) in
          let n = found_above rank (rank x) ys (all_above rank (rank y) (rank x) ys (omega arith) t.0) in
          absurd (cc)
      | inr (inr h) ↦
          let g = found_later rank (rank y) x xs (λ q. omega arith) in
          let n = found_above rank (rank y) xs (all_above rank (rank x) (rank y) xs (omega arith) s.0) in
          absurd (cc)
    ]

-- ---- at the index where a rank begins

-- the index in the rest of a list
first_tail : {A : Type 0} (rank : A → ℕ) (k : ℕ) (x : A) (xs : List A) (i : ℕ) → IsFirstFrom rank k (x ∷ xs) (suc i) → IsFirstFrom rank k xs i
first_tail rank k x xs i p = record {
  within = let h = p.within in omega (arith, h);
  below = λ j d low h. p.below (suc j) d (omega arith) (omega arith);
  above = λ j d h l. p.above (suc j) d (omega arith) (omega arith);
}

pub found_at : {A : Type 0} (rank : A → ℕ) (k : ℕ) (xs : List A) (i : ℕ) (d : A) → IsFirstFrom rank k xs i → i < length xs → rank (get_or xs i d) ≡ k → found rank k xs ≡ Some (get_or xs i d)
found_at rank k [] i d p l e = absurd (omega arith)
found_at rank k (x ∷ xs) zero d p l e = found_first rank k x xs e
found_at rank k (x ∷ xs) (suc i) d p l e =
    let h : rank x < k = p.below 0 d (omega arith) (omega arith) in
    found_later rank k x xs (λ f. omega arith) ∙ found_at rank k xs i d (first_tail rank k x xs i p) (omega arith) e

-- none is there where the element at the index has another rank
pub missing_at : {A : Type 0} (rank : A → ℕ) (k : ℕ) (xs : List A) (i : ℕ) → IsRising rank xs → IsFirstFrom rank k xs i → ((d : A) → i < length xs → rank (get_or xs i d) ≡ k → ⊥) → found rank k xs ≡ None
missing_at rank k [] i s p ne = refl
missing_at rank k (x ∷ xs) zero s p ne =
    let at : k ≤ rank x = p.above 0 x (omega arith) (omega arith) in
    let other : rank x ≡ k → ⊥ = ne x (omega arith) in
    let less : k < rank x = less_than k (rank x) at other in
    found_above rank k (x ∷ xs) (less, all_above rank (rank x) k xs at s.0)
missing_at rank k (x ∷ xs) (suc i) s p ne =
    let h : rank x < k = p.below 0 x (omega arith) (omega arith) in
    found_later rank k x xs (λ f. omega arith) ∙ missing_at rank k xs i s.1 (first_tail rank k x xs i p) (λ d l. ne d (omega arith))

pub missing_over : {A : Type 0} (rank : A → ℕ) (k : ℕ) (xs : List A) (i : ℕ) (x : A) → IsRising rank xs → IsFirstFrom rank k xs i → x ≡ get_or xs i x → k < rank x → found rank k xs ≡ None
missing_over rank k xs i x s p is less = missing_at rank k xs i s p (λ d l e.
    let same : get_or xs i d ≡ get_or xs i x = get_or_default xs i d x l in
    let at : rank x ≡ k = ap rank (is ∙ sym same) ∙ e in
    omega arith)

-- an element of a rank that isn't there is inserted
pub put_new : {A : Type 0} (rank : A → ℕ) (x : A) (xs : List A) (i : ℕ) → IsFirstFrom rank (rank x) xs i → found rank (rank x) xs ≡ None → put rank x xs ≡ insert xs i x
put_new rank x [] zero p none = refl
put_new rank x [] (suc i) p none = absurd (let h = p.within in omega (arith, h))
put_new rank x (y ∷ ys) zero p none =
    let at : rank x ≤ rank y = p.above 0 x (omega arith) (omega arith) in
    by_put rank x y ys (λ l. l ≡ x ∷ y ∷ ys) (λ _. refl) (λ e. absurd (rank_missing rank (rank x) (y ∷ ys) none 0 x (omega arith) e)) (λ h. absurd (omega arith))
put_new rank x (y ∷ ys) (suc i) p none =
    let h : rank y < rank x = p.below 0 x (omega arith) (omega arith) in
    by_put rank x y ys (λ l. l ≡ y ∷ insert ys i x) (λ q. absurd (omega arith)) (λ q. absurd (omega arith))
    (λ _. ap (λ l. y ∷ l) (put_new rank x ys i (first_tail rank (rank x) y ys i p) (sym (found_later rank (rank x) y ys (λ e. omega arith)) ∙ none)))

-- the element of a rank gives way to another of that rank
pub put_over : {A : Type 0} (rank : A → ℕ) (x : A) (xs : List A) (i : ℕ) (d : A) → IsFirstFrom rank (rank x) xs i → i < length xs → rank (get_or xs i d) ≡ rank x → put rank x xs ≡ set xs i x
put_over rank x [] i d p l e = absurd (omega arith)
put_over rank x (y ∷ ys) zero d p l e = by_put rank x y ys (λ l. l ≡ x ∷ ys) (λ h. absurd (omega arith)) (λ _. refl) (λ h. absurd (omega arith))
put_over rank x (y ∷ ys) (suc i) d p l e =
    let h : rank y < rank x = p.below 0 x (omega arith) (omega arith) in
    by_put rank x y ys (λ l. l ≡ y ∷ set ys i x) (λ q. absurd (omega arith)) (λ q. absurd (omega arith))
    (λ _. ap (λ l. y ∷ l) (put_over rank x ys i d (first_tail rank (rank x) y ys i p) (omega arith) e))

without_above : {A : Type 0} (rank : A → ℕ) (k : ℕ) (xs : List A) → AllByRecursion (λ x. k < rank x) xs → without rank k xs ≡ xs
without_above rank k [] a = refl
without_above rank k (x ∷ xs) a = let h : k < rank x = a.0 in rw (ne_eqb (rank x) k (omega arith)) (ap (λ l. x ∷ l) (without_above rank k xs a.1))

-- the element of a rank is removed
pub without_at : {A : Type 0} (rank : A → ℕ) (k : ℕ) (xs : List A) (i : ℕ) (d : A) → IsRising rank xs → IsFirstFrom rank k xs i → i < length xs → rank (get_or xs i d) ≡ k → without rank k xs ≡ remove xs i
without_at rank k [] i d s p l e = absurd (omega arith)
without_at rank k (x ∷ xs) zero d s p l e = rw (eq-eqb (rank x) k e) (without_above rank k xs (all_above rank (rank x) k xs (omega arith) s.0))
without_at rank k (x ∷ xs) (suc i) d s p l e =
    let h : rank x < k = p.below 0 d (omega arith) (omega arith) in
    rw (ne_eqb (rank x) k (omega arith)) (ap (λ l. x ∷ l) (without_at rank k xs i d s.1 (first_tail rank k x xs i p) (omega arith) e))

pub without_missing : {A : Type 0} (rank : A → ℕ) (k : ℕ) (xs : List A) → found rank k xs ≡ None → without rank k xs ≡ xs
without_missing rank k [] e = refl
without_missing rank k (y ∷ ys) e =
    elim (eqb (rank y) k) as (λ b. cond b (Some y) (found rank k ys) ≡ None → cond (not b) (y ∷ without rank k ys) (without rank k ys) ≡ y ∷ ys) [
      | true ↦ λ h. absurd (cc)
      | false ↦ λ h. ap (λ l. y ∷ l) (without_missing rank k ys h)
    ] e

-- ---- parts of a list that rises

pub all_take : {A : Type 0} (P : A → Type 0) (xs : List A) (m : ℕ) → AllByRecursion P xs → AllByRecursion P (take m xs)
all_take P [] zero a = tt
all_take P [] (suc m) a = tt
all_take P (x ∷ xs) zero a = tt
all_take P (x ∷ xs) (suc m) a = (a.0, all_take P xs m a.1)

pub rising-take : {A : Type 0} (rank : A → ℕ) (xs : List A) (m : ℕ) → IsRising rank xs → IsRising rank (take m xs)
rising-take rank [] zero s = tt
rising-take rank [] (suc m) s = tt
rising-take rank (x ∷ xs) zero s = tt
rising-take rank (x ∷ xs) (suc m) s = (all_take (λ z. rank x < rank z) xs m s.0, rising-take rank xs m s.1)

pub rising-drop : {A : Type 0} (rank : A → ℕ) (xs : List A) (m : ℕ) → IsRising rank xs → IsRising rank (drop m xs)
rising-drop rank [] zero s = tt
rising-drop rank [] (suc m) s = tt
rising-drop rank (x ∷ xs) zero s = s
rising-drop rank (x ∷ xs) (suc m) s = rising-drop rank xs m s.1

-- what is found in a front is what is found in the list, or the rank is above all of the front
pub found-take : {A : Type 0} (rank : A → ℕ) (k : ℕ) (xs : List A) (m : ℕ) → IsRising rank xs → (found rank k (take m xs) ≡ found rank k xs) ⊎ AllByRecursion (λ x. rank x < k) (take m xs)
found-take rank k [] zero s = inl refl
found-take rank k [] (suc m) s = inl refl
found-take rank k (x ∷ xs) zero s = inr tt
found-take {A = A} rank k (x ∷ xs) (suc m) s =
    elim (cases_order (rank x) k) [
      | inl e ↦ inl (found_first rank k x (take m xs) e ∙ sym (found_first rank k x xs e))
      | inr (inl h) ↦
          let skip : (l : List A) → found rank k (x ∷ l) ≡ found rank k l = (λ l. found_later rank k x l (λ f. omega arith)) in
          ⊎_elim (λ e. inl (skip (take m xs) ∙ (e ∙ sym (skip xs)))) (λ a. inr (h, a)) (found-take rank k xs m s.1)
      | inr (inr h) ↦
          let none : (l : List A) → AllByRecursion (λ z. rank x < rank z) l → found rank k (x ∷ l) ≡ None = (λ l a. found_above rank k (x ∷ l) (h, all_above rank (rank x) k l (omega arith) a)) in
          inl (none (take m xs) (all_take (λ z. rank x < rank z) xs m s.0) ∙ sym (none xs s.0))
    ]

-- all of a rank is found in a front, where what comes after it is above
pub found_in_front : {A : Type 0} (rank : A → ℕ) (k : ℕ) (xs : List A) (m : ℕ) → AllByRecursion (λ x. k < rank x) (drop m xs) → found rank k (take m xs) ≡ found rank k xs
found_in_front rank k [] zero a = refl
found_in_front rank k [] (suc m) a = refl
found_in_front rank k (x ∷ xs) zero a = sym (found_above rank k (x ∷ xs) a)
found_in_front rank k (x ∷ xs) (suc m) a = ap (λ r. cond (eqb (rank x) k) (Some x) r) (found_in_front rank k xs m a)

-- what is found from the index on at which a rank begins, or below it
pub found-drop : {A : Type 0} (rank : A → ℕ) (from k : ℕ) (xs : List A) (i : ℕ) → IsFirstFrom rank from xs i → from ≤ k → found rank k (drop i xs) ≡ found rank k xs
found-drop rank from k [] zero p le = refl
found-drop rank from k [] (suc i) p le = refl
found-drop rank from k (x ∷ xs) zero p le = refl
found-drop rank from k (x ∷ xs) (suc i) p le =
    let h : rank x < from = p.below 0 x (omega arith) (omega arith) in
    found-drop rank from k xs i (first_tail rank from x xs i p) le ∙ sym (found_later rank k x xs (λ f. omega arith))

-- the elements from an index on
pub all_from : {A : Type 0} (rank : A → ℕ) (k : ℕ) (xs : List A) (i : ℕ) → IsFirstFrom rank k xs i → AllByRecursion (λ x. k ≤ rank x) (drop i xs)
all_from rank k [] zero p = tt
all_from rank k [] (suc i) p = tt
all_from rank k (x ∷ xs) zero p = (
  p.above 0 x (omega arith) (omega arith),
  all_from rank k xs zero (record {
    within = omega arith;
    below = λ j d low h. absurd (omega arith);
    above = λ j d h l. p.above (suc j) d (omega arith) (omega arith);
  }),
)
all_from rank k (x ∷ xs) (suc i) p = all_from rank k xs i (first_tail rank k x xs i p)

pub all_before : {A : Type 0} (rank : A → ℕ) (k : ℕ) (xs : List A) (i m : ℕ) → IsFirstFrom rank k xs i → m ≤ i → AllByRecursion (λ x. rank x < k) (take m xs)
all_before rank k [] i zero p le = tt
all_before rank k [] i (suc m) p le = tt
all_before rank k (x ∷ xs) i zero p le = tt
all_before rank k (x ∷ xs) zero (suc m) p le = absurd (omega arith)
all_before rank k (x ∷ xs) (suc i) (suc m) p le = (p.below 0 x (omega arith) (omega arith), all_before rank k xs i m (first_tail rank k x xs i p) (omega arith))

-- the index in what comes after an earlier one
pub first_in_rest : {A : Type 0} (rank : A → ℕ) (k : ℕ) (xs : List A) (i j : ℕ) → IsFirstFrom rank k xs (i + j) → IsFirstFrom rank k (drop i xs) j
first_in_rest rank k xs zero j p = rw (← zero-add j) p
first_in_rest rank k [] (suc i) j p = absurd (let h = p.within in omega (arith, h))
first_in_rest rank k (x ∷ xs) (suc i) j p =
    let e : suc i + j ≡ suc (i + j) = omega arith in
    first_in_rest rank k xs i j (first_tail rank k x xs (i + j) (rw (← e) p))

-- where each rank has P and k hasn't, nothing is found
pub found_outside : {A : Type 0} (rank : A → ℕ) (P : ℕ → Type 0) (k : ℕ) (xs : List A) → AllByRecursion (λ x. P (rank x)) xs → (P k → ⊥) → found rank k xs ≡ None
found_outside rank P k [] a out = refl
found_outside rank P k (x ∷ xs) a out = found_later rank k x xs (λ e. out (subst P e a.0)) ∙ found_outside rank P k xs a.1 out

both : {A : Type 0} (P Q : A → Type 0) (xs : List A) → AllByRecursion P xs → AllByRecursion Q xs → AllByRecursion (λ x. P x × Q x) xs
both P Q [] a b = tt
both P Q (x ∷ xs) a b = ((a.0, b.0), both P Q xs a.1 b.1)

-- ---- the elements between two ranks

-- no rank is below one that begins a list
least : {A : Type 0} (rank : A → ℕ) (start : ℕ) (xs : List A) (i end : ℕ) → IsFirstFrom rank start xs i → IsFirstFrom rank end xs 0 → start ≤ end → i ≤ 0
least rank start [] i end p q le = let h = p.within in omega (arith, h)
least rank start (x ∷ xs) zero end p q le = omega arith
least rank start (x ∷ xs) (suc i) end p q le =
    let low : rank x < start = p.below 0 x (omega arith) (omega arith) in
    let high : end ≤ rank x = q.above 0 x (omega arith) (omega arith) in
    absurd (omega arith)

pub first_in_order : {A : Type 0} (rank : A → ℕ) (start end : ℕ) (xs : List A) (i j : ℕ) → IsFirstFrom rank start xs i → IsFirstFrom rank end xs j → start ≤ end → i ≤ j
first_in_order rank start end xs i zero p q le = least rank start xs i end p q le
first_in_order rank start end [] i (suc j) p q le = let h = p.within in omega (arith, h)
first_in_order rank start end (x ∷ xs) zero (suc j) p q le = omega arith
first_in_order rank start end (x ∷ xs) (suc i) (suc j) p q le = let h = first_in_order rank start end xs i j (first_tail rank start x xs i p) (first_tail rank end x xs j q) le in omega arith

-- the part of a list between two indices at which ranks begin
pub within_between : {A : Type 0} (rank : A → ℕ) (start end : ℕ) (xs : List A) (i j : ℕ) → IsFirstFrom rank start xs i → IsFirstFrom rank end xs j → i ≤ j → AllByRecursion (λ x. (start ≤ rank x) × (rank x < end)) (take (j - i) (drop i xs))
within_between rank start end xs i j p q le =
    let ends : IsFirstFrom rank end xs (i + (j - i)) = subst (λ n. IsFirstFrom rank end xs n) (omega arith) q in
    both (λ x. start ≤ rank x) (λ x. rank x < end) (take (j - i) (drop i xs))
    (all_take (λ x. start ≤ rank x) (drop i xs) (j - i) (all_from rank start xs i p))
    (all_before rank end (drop i xs) (j - i) (j - i) (first_in_rest rank end xs i (j - i) ends) (omega arith))

pub found-between : {A : Type 0} (rank : A → ℕ) (start end k : ℕ) (xs : List A) (i j : ℕ) → IsFirstFrom rank start xs i → IsFirstFrom rank end xs j → i ≤ j → start ≤ k → k < end → found rank k (take (j - i) (drop i xs)) ≡ found rank k xs
found-between rank start end k xs i j p q le low high =
    let ends : IsFirstFrom rank end xs (i + (j - i)) = subst (λ n. IsFirstFrom rank end xs n) (omega arith) q in
    let rest = all_from rank end (drop i xs) (j - i) (first_in_rest rank end xs i (j - i) ends) in
    found_in_front rank k (drop i xs) (j - i) (all_higher rank end k (drop (j - i) (drop i xs)) high rest) ∙ found-drop rank start k xs i p low
