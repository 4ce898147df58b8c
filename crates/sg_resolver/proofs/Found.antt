-- Rows found by their id.
use Rattle.std.proofs.Common.{◌≡◌, ℕ, ◌<◌, true, eqb, Bool, cond, List, [], ◌∷◌, length, map, get_or, Option, Some, None, false, zero, suc, refl, ap, ◌∙◌, arith, inl, inr, sym, subst}
use Rattle.std.proofs.lemmas.Bool.{eq-eqb, ne_eqb, cases_Bool}
use Rattle.std.proofs.lemmas.List.{length-map, get_or-map}
use Rattle.std.proofs.lemmas.List.Kept.{AllPairs-from_increasing}
use Rattle.std.specs.List.Sorted.{IsStrictlyIncreasing, IsNonDecreasing}
use Rattle.std.specs.List.{AllByRecursion, find, Contains}
use Rattle.sg_base.proofs.FaultLemmas.{if_none}
use Rattle.sg_base.specs.Index.{IsIndexOf}
use Rattle.std.proofs.lemmas.Bool.{cases_lt}

-- a row whose id stands at a place among the ids is found
missing_at : {X : Type 0} (number : X → ℕ) (xs : List X) (id k : ℕ) → k < length xs → get_or (map number xs) k id ≡ id → find (λ x. eqb (number x) id) xs ≡ None → ⊥
missing_at number [] id k inside is missing = omega arith
missing_at number (x ∷ xs) id zero inside is missing =
    let hit : eqb (number x) id ≡ true = eq-eqb (number x) id is in
    let none = rw hit at missing in
    cc
missing_at number (x ∷ xs) id (suc k) inside is missing =
    missing_at number xs id k (omega arith) is (if_none (eqb (number x) id) x (find (λ y. eqb (number y) id) xs) missing).1

-- a row whose id is among the ids is found
pub not_missing : {X : Type 0} (number : X → ℕ) (xs : List X) (id : ℕ) → Contains (map number xs) id → find (λ x. eqb (number x) id) xs ≡ None → ⊥
not_missing number xs id there missing = missing_at number xs id there.0 (omega (arith, length-map xs number, there.1)) there.2 missing

-- what holds of each row holds of the one that is found
pub found_passes : {X : Type 0} (P : X → Type 0) (p : X → Bool) (xs : List X) (x : X) → AllByRecursion P xs → find p xs ≡ Some x → P x
found_passes P p [] x all is = absurd (cc)
found_passes P p (y ∷ ys) x all is =
    let C : Bool → Type 0 = λ b. cond b (Some y) (find p ys) ≡ Some x → P x in
    let here : Some y ≡ Some x → P x = λ h. let e : y ≡ x = cc in subst P e all.0 in
    (elim (cases_Bool (p y)) as (λ z. C (p y)) [
      | inl passes ↦ subst C (sym passes) here
      | inr fails ↦ subst C (sym fails) (λ h. found_passes P p ys x all.1 h)
    ]) is

-- numbers that increase are apart by their places
rises : {X : Type 0} (number : X → ℕ) (xs : List X) → IsStrictlyIncreasing (map number xs) → (i j : ℕ) (d : X) → i < j → j < length xs → number (get_or xs i d) < number (get_or xs j d)
rises number xs up i j d less inside =
    let there : j < length (map number xs) = omega (arith, length-map xs number) in
    let pairs = AllPairs-from_increasing (map number xs) up i j (number d) less there in
    let here : i < length xs = omega arith in
    rw (get_or-map number xs i d (number d) here, get_or-map number xs j d (number d) inside) at pairs

-- ids that rise don't fall
pub ids_ordered : {X : Type 0} (number : X → ℕ) (xs : List X) (ids : List ℕ) → ids ≡ map number xs → IsStrictlyIncreasing (map number xs) → IsNonDecreasing ids
ids_ordered number xs ids are up = rw are (λ i j d le inside.
    elim (cases_lt i j) [
      | inl less ↦ omega (arith, AllPairs-from_increasing (map number xs) up i j d less inside)
      | inr more ↦ let same : i ≡ j = omega arith in rw same (omega arith)
    ])

-- a row is found where those before it have other ids
found_here : {X : Type 0} (number : X → ℕ) (xs : List X) (id k : ℕ) (x : X) → k < length xs → x ≡ get_or xs k x → ((i : ℕ) → i < k → eqb (number (get_or xs i x)) id ≡ false) → number x ≡ id → find (λ y. eqb (number y) id) xs ≡ Some x
found_here number [] id k x inside is others same = absurd (omega arith)
found_here number (y ∷ ys) id zero x inside is others same =
    let hit : eqb (number y) id ≡ true = eq-eqb (number y) id (ap number (sym is) ∙ same) in
    rw hit (ap (λ z. Some z) (sym is))
found_here number (y ∷ ys) id (suc k) x inside is others same =
    let miss : eqb (number y) id ≡ false = others 0 (omega arith) in
    rw miss (found_here number ys id k x (omega arith) is (λ i less. others (suc i) (omega arith)) same)

-- no row is found where all have other ids
none_here : {X : Type 0} (number : X → ℕ) (xs : List X) (id : ℕ) → ((i : ℕ) (d : X) → i < length xs → eqb (number (get_or xs i d)) id ≡ false) → find (λ y. eqb (number y) id) xs ≡ None
none_here number [] id others = refl
none_here number (y ∷ ys) id others =
    let miss : eqb (number y) id ≡ false = others 0 y (omega arith) in
    rw miss (none_here number ys id (λ i d less. others (suc i) d (omega arith)))

-- the row at a place whose id is the number is found
found_place : {X : Type 0} (number : X → ℕ) (xs : List X) (id k : ℕ) (x : X) → IsStrictlyIncreasing (map number xs) → k < length xs → x ≡ get_or xs k x → number x ≡ id → find (λ y. eqb (number y) id) xs ≡ Some x
found_place number xs id k x up inside is same =
    found_here number xs id k x inside is (λ i less. ne_eqb (number (get_or xs i x)) id (λ e. omega (arith, rises number xs up i k x less inside, e, same, ap number is))) same

-- what a place among the ids says of the row that is found
pub found_at : {X : Type 0} (number : X → ℕ) (xs : List X) (ids : List ℕ) (id k : ℕ) (x : X) → ids ≡ map number xs → IsStrictlyIncreasing (map number xs) → IsIndexOf ids id (Some k) → x ≡ get_or xs k x → find (λ y. eqb (number y) id) xs ≡ Some x
found_at number xs ids id k x are up place is =
    let here : IsIndexOf (map number xs) id (Some k) = rw are at place in
    let inside : k < length xs = omega (arith, here.0, length-map xs number) in
    let same : number x ≡ id = ap number is ∙ (sym (get_or-map number xs k x 0 inside) ∙ here.1) in
    found_place number xs id k x up inside is same

-- where a number is not among the ids, no row is found
pub none_found : {X : Type 0} (number : X → ℕ) (xs : List X) (ids : List ℕ) (id : ℕ) → ids ≡ map number xs → IsIndexOf ids id None → find (λ y. eqb (number y) id) xs ≡ None
none_found number xs ids id are missing =
    none_here number xs id (λ i d inside. ne_eqb (number (get_or xs i d)) id (λ e.
    let there : Contains (map number xs) id = (i, omega (arith, inside, length-map xs number), get_or-map number xs i d id inside ∙ e) in
    missing (rw are there)))

-- a place among the ids is a place among the rows
place_inside : {X : Type 0} (number : X → ℕ) (xs : List X) (ids : List ℕ) (id k : ℕ) → ids ≡ map number xs → IsIndexOf ids id (Some k) → k < length xs
place_inside number xs ids id k are place = omega (arith, ap (λ (ns : List ℕ). length ns) are, length-map xs number, place.0)

told_here : {X : Type 0} (number told : X → ℕ) (F : Option X → ℕ) → ((x : X) → F (Some x) ≡ told x) → (xs : List X) (id k d : ℕ) → ((i j : ℕ) (e : X) → i < j → j < length xs → number (get_or xs i e) < number (get_or xs j e)) → k < length xs → get_or (map number xs) k 0 ≡ id → F (find (λ y. eqb (number y) id) xs) ≡ get_or (map told xs) k d
told_here number told F is [] id k d up inside same = absurd (omega (arith, inside))
told_here number told F is (x ∷ xs) id zero d up inside same =
    let hit : eqb (number x) id ≡ true = eq-eqb (number x) id same in
    rw hit (is x)
told_here number told F is (x ∷ xs) id (suc k) d up inside same =
    let here : k < length xs = omega (arith, inside) in
    let less : number x < number (get_or xs k x) = up 0 (suc k) x (omega arith) inside in
    let there : number (get_or xs k x) ≡ id = sym (get_or-map number xs k x 0 here) ∙ same in
    let miss : eqb (number x) id ≡ false = ne_eqb (number x) id (λ e. omega (arith, less, there, e)) in
    rw miss (told_here number told F is xs id k d (λ i j e l n. up (suc i) (suc j) e (omega (arith, l)) (omega (arith, n))) here same)

-- what is told of each row, read at the place of the row that is found
pub told_at : {X : Type 0} (number told : X → ℕ) (F : Option X → ℕ) → ((x : X) → F (Some x) ≡ told x) → (xs : List X) (ids : List ℕ) (id k d : ℕ) → ids ≡ map number xs → IsStrictlyIncreasing (map number xs) → IsIndexOf ids id (Some k) → F (find (λ y. eqb (number y) id) xs) ≡ get_or (map told xs) k d
told_at number told F is xs ids id k d are up place =
    let here : IsIndexOf (map number xs) id (Some k) = rw are at place in
    told_here number told F is xs id k d (rises number xs up) (omega (arith, here.0, length-map xs number)) here.1
