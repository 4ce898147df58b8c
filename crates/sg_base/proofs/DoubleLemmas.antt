-- No number stands twice, as the first double says it and by any two places.
use Rattle.std.proofs.Common.{◌≡◌, ℕ, eqb, ◌||◌, Bool, true, false, List, [], ◌∷◌, ◌++◌, None, refl, append_assoc, arith}
use Rattle.std.specs.List.{list_any, AllByRecursion, IsDistinct}
use Rattle.std.proofs.lemmas.List.Folds.{list_any-append}
use Rattle.std.proofs.lemmas.Bool.Decides.{nat_tests}
use Rattle.std.proofs.lemmas.Map.Keys.{IsDistinct-head, IsDistinct-tail}
use Rattle.sg_base.specs.Faults.{double_of}
use Rattle.sg_base.proofs.FaultLemmas.{if_none}

-- two entries of one number
abbrev pub same : {X : Type 0} → (X → ℕ) → X → X → Bool
same number x y = eqb (number x) (number y)

pub same_flips : {X : Type 0} (number : X → ℕ) (x y : X) → same number x y ≡ same number y x
same_flips number x y = grind (arith, nat_tests)

or_none : (a b : Bool) → (a || b) ≡ false → (a ≡ false) × (b ≡ false)
or_none true b h = absurd (cc)
or_none false b h = (refl, h)

-- an entry that stands further up is not the same as one that follows
pub apart_from_seen : {X F : Type 0} (number : X → ℕ) (fault : ℕ → F) (front : List X) (s : X) (back xs : List X)
    → double_of number fault (front ++ s ∷ back) xs ≡ None → AllByRecursion (λ y. same number s y ≡ false) xs
apart_from_seen number fault front s back [] h = tt
apart_from_seen number fault front s back (y ∷ ys) h =
    let parts = if_none (list_any (λ z. eqb (number z) (number y)) (front ++ s ∷ back)) (fault (number y)) (double_of number fault ((front ++ s ∷ back) ++ y ∷ []) ys) h in
    let new = or_none (list_any (λ z. eqb (number z) (number y)) front) (list_any (λ z. eqb (number z) (number y)) (s ∷ back)) (rw (← list_any-append (λ z. eqb (number z) (number y)) front (s ∷ back)) parts.0) in
    ((or_none (eqb (number s) (number y)) (list_any (λ z. eqb (number z) (number y)) back) new.1).0, apart_from_seen number fault front s (back ++ y ∷ []) ys (rw (← append_assoc front (s ∷ back) (y ∷ [])) parts.1))

-- where there is no double, any two entries differ
pub distinct_from_none : {X F : Type 0} (number : X → ℕ) (fault : ℕ → F) (seen xs : List X) → double_of number fault seen xs ≡ None → IsDistinct (same number) xs
unfolding IsDistinct
distinct_from_none number fault seen [] h = tt
distinct_from_none number fault seen (x ∷ xs) h =
    let parts = if_none (list_any (λ z. eqb (number z) (number x)) seen) (fault (number x)) (double_of number fault (seen ++ x ∷ []) xs) h in
    (apart_from_seen number fault seen x [] xs parts.1, distinct_from_none number fault (seen ++ x ∷ []) xs parts.1)

-- one more entry is new to those that follow
pub new_more : {X : Type 0} (number : X → ℕ) (seen : List X) (x : X) (xs : List X)
    → AllByRecursion (λ y. list_any (λ z. eqb (number z) (number y)) seen ≡ false) xs → AllByRecursion (λ y. same number x y ≡ false) xs
    → AllByRecursion (λ y. list_any (λ z. eqb (number z) (number y)) (seen ++ x ∷ []) ≡ false) xs
new_more number seen x [] h k = tt
new_more number seen x (y ∷ ys) h k =
    (rw (list_any-append (λ z. eqb (number z) (number y)) seen (x ∷ []), h.0, k.0) refl, new_more number seen x ys h.1 k.1)

-- where any two entries differ, there is no double
pub none_from_distinct : {X F : Type 0} (number : X → ℕ) (fault : ℕ → F) (seen xs : List X)
    → AllByRecursion (λ y. list_any (λ z. eqb (number z) (number y)) seen ≡ false) xs → IsDistinct (same number) xs → double_of number fault seen xs ≡ None
none_from_distinct number fault seen [] h k = refl
none_from_distinct number fault seen (x ∷ xs) h k =
    rw h.0 (none_from_distinct number fault (seen ++ x ∷ []) xs
    (new_more number seen x xs h.1 (IsDistinct-head (same number) x xs k))
    (IsDistinct-tail (same number) x xs k))
