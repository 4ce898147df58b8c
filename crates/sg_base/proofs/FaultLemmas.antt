-- The first of several faults, as loops find it.
use Rattle.std.proofs.Common.{◌≡◌, ℕ, ◌+◌, ◌<◌, Bool, true, false, List, [], ◌∷◌, length, take, drop, get_or, eqb, Option, Some, None, refl, zero, suc, arith, add-one, drop-cons}
use Rattle.std.proofs.lemmas.List.{take_more}
use Rattle.std.specs.Prelude.{if◌then◌else◌}
use Rattle.std.specs.List.{list_any}
use Rattle.sg_base.specs.Faults.{first_of, first_in, double_of}

-- no fault means that neither part has one
pub first_none : {F : Type 0} (a b : Option F) → first_of a b ≡ None → (a ≡ None) × (b ≡ None)
first_none None b h = (refl, h)
first_none (Some f) b h = (h, absurd (cc))

-- no fault behind a test means that the test fails
pub if_none : {F : Type 0} (b : Bool) (f : F) (g : Option F) → (if b then Some f else g) ≡ None → (b ≡ false) × (g ≡ None)
if_none true f g h = absurd (cc)
if_none false f g h = (refl, h)

-- a loop has passed an entry whose number is new
pub double_next : {X F : Type 0} (number : X → ℕ) (fault : ℕ → F) (xs : List X) (i : ℕ) (x : X) → i < length xs → x ≡ get_or xs i x
    → list_any (λ s. eqb (number s) (number x)) (take i xs) ≡ false
    → double_of number fault (take (i + 1) xs) (drop (i + 1) xs) ≡ double_of number fault (take i xs) (drop i xs)
double_next number fault xs i x inside is new = rw (take_more xs i x inside, drop-cons xs i x inside, ← is, new, add-one) refl

-- a loop has found an entry whose number isn't
pub double_found : {X F : Type 0} (number : X → ℕ) (fault : ℕ → F) (xs : List X) (i : ℕ) (x : X) → i < length xs → x ≡ get_or xs i x
    → list_any (λ s. eqb (number s) (number x)) (take i xs) ≡ true
    → double_of number fault (take i xs) (drop i xs) ≡ Some (fault (number x))
double_found number fault xs i x inside is old = rw (drop-cons xs i x inside, ← is, old) refl

-- where no entry has a fault, none at a place has one
pub none_at : {X F : Type 0} (f : X → Option F) (xs : List X) (k : ℕ) (x : X) → first_in f xs ≡ None → k < length xs → x ≡ get_or xs k x → f x ≡ None
none_at f [] k x h inside is = absurd (omega arith)
none_at f (y ∷ ys) zero x h inside is = rw is (first_none (f y) (first_in f ys) h).0
none_at f (y ∷ ys) (suc k) x h inside is = none_at f ys k x (first_none (f y) (first_in f ys) h).1 (omega arith) is
