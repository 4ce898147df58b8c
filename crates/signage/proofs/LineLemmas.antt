-- The timeline, moment by moment.
use Rattle.std.proofs.Common.{◌≡◌, ℕ, ◌+◌, ◌<◌, List, [], ◌∷◌, ◌++◌, length, take, drop, get_or, refl, sym, ap, ◌∙◌}
use Rattle.std.specs.List.{flat_map}
use Rattle.std.proofs.lemmas.List.{take_more, append-nil, take-append-drop}
use Rattle.std.proofs.lemmas.Grind.{flat_map-append}

-- what one moment more adds
one_more : {X : Type 0} (f : X → List ℕ) (xs : List X) (i : ℕ) (x : X) → i < length xs → get_or xs i x ≡ x → flat_map f (take (i + 1) xs) ≡ flat_map f (take i xs) ++ f x
one_more f xs i x inside is = rw (take_more xs i x inside, is, flat_map-append f (take i xs) (x ∷ []), append-nil (f x)) refl

-- all lines: those before, this one, and those after
pub around : {X : Type 0} (f : X → List ℕ) (xs : List X) (i : ℕ) (x : X) → i < length xs → x ≡ get_or xs i x
    → flat_map f xs ≡ (flat_map f (take i xs) ++ f x) ++ flat_map f (drop (i + 1) xs)
around f xs i x inside is =
    ap (flat_map f) (sym (take-append-drop (i + 1) xs))
    ∙ (flat_map-append f (take (i + 1) xs) (drop (i + 1) xs) ∙ ap (λ l. l ++ flat_map f (drop (i + 1) xs)) (one_more f xs i x inside (sym is)))
