-- Lists as loops go over them.
use Rattle.std.proofs.Common.{◌≡◌, ℕ, ◌+◌, ◌<◌, Bool, true, cond, List, [], ◌∷◌, length, drop, get_or, filter, map, refl, sym, subst, inl, inr, add-one, drop-cons}
use Rattle.std.specs.List.{AllByRecursion}
use Rattle.std.proofs.lemmas.Bool.{cases_Bool}
use Rattle.sg_layer.specs.declared.entry.Entry.{Entry}
use Rattle.sg_layer.specs.Front.{marked}

-- what is left of a list, one entry further
pub drop_here : {X : Type 0} (xs : List X) (i : ℕ) (x : X) → i < length xs → x ≡ get_or xs i x → drop i xs ≡ x ∷ drop (i + 1) xs
drop_here xs i x inside is = rw (add-one, drop-cons xs i x inside, ← is) refl

-- the same with the entry read at its index
pub drop_at : {X : Type 0} (xs : List X) (i : ℕ) (d : X) → i < length xs → drop i xs ≡ get_or xs i d ∷ drop (i + 1) xs
drop_at xs i d inside = rw (add-one) (drop-cons xs i d inside)

-- what passes a test keeps what held of all, and what the test tells
pub all_passing : {X : Type 0} (P Q : X → Type 0) (p : X → Bool) (xs : List X) → ((x : X) → p x ≡ true → P x → Q x) → AllByRecursion P xs → AllByRecursion Q (filter p xs)
all_passing P Q p [] tells all = tt
all_passing P Q p (x ∷ xs) tells all =
    let C : Bool → Type 0 = λ b. AllByRecursion Q (cond b (x ∷ filter p xs) (filter p xs)) in
    elim (cases_Bool (p x)) [
      | inl stays ↦ subst C (sym stays) (tells x stays all.0, all_passing P Q p xs tells all.1)
      | inr gone ↦ subst C (sym gone) (all_passing P Q p xs tells all.1)
    ]

-- tests that answer alike let the same pass
pub filter_alike : {X : Type 0} (p q : X → Bool) → ((x : X) → p x ≡ q x) → (xs : List X) → filter p xs ≡ filter q xs
filter_alike p q same xs = λ i. filter (λ x. same x i) xs

-- the entries marked by a test are those that pass it
pub marked_is : (p : Entry → Bool) (xs : List Entry) → marked (map p xs) xs ≡ filter p xs
marked_is p [] = refl
marked_is p (x ∷ xs) =
    let C : Bool → Type 0 = λ b. cond b (x ∷ marked (map p xs) xs) (marked (map p xs) xs) ≡ cond b (x ∷ filter p xs) (filter p xs) in
    elim (cases_Bool (p x)) [
      | inl stays ↦ subst C (sym stays) (rw (marked_is p xs) refl)
      | inr gone ↦ subst C (sym gone) (marked_is p xs)
    ]
