-- A line, entry by entry.
use Rattle.std.proofs.Common.{◌≡◌, ℕ, ◌+◌, ◌<◌, List, [], ◌∷◌, ◌++◌, length, take, get_or, Some, slice_get, refl, append_assoc}
use Rattle.std.specs.List.{flat_map}
use Rattle.std.proofs.lemmas.List.{take_more, append-nil}
use Rattle.std.proofs.lemmas.Grind.{flat_map-append}
use Rattle.std.proofs.lemmas.Option.{slice_get_within, get_or_from_slice_get}

-- what one entry more adds
one_more : {X : Type 0} (f : X → List ℕ) (xs : List X) (i : ℕ) (x : X) → i < length xs → get_or xs i x ≡ x → flat_map f (take (i + 1) xs) ≡ flat_map f (take i xs) ++ f x
one_more f xs i x inside is = rw (take_more xs i x inside, is, flat_map-append f (take i xs) (x ∷ []), append-nil (f x)) refl

-- an entry is added after those before it
pub entry_added : {X : Type 0} (f : X → List ℕ) (xs : List X) (i : ℕ) (x : X) (front so_far part : List ℕ) → slice_get xs i ≡ Some x → part ≡ f x
    → so_far ≡ front ++ flat_map f (take i xs) → so_far ++ part ≡ front ++ flat_map f (take (i + 1) xs)
entry_added f xs i x front so_far part is shown done =
    let inside : i < length xs = slice_get_within xs i x is in
    let more = one_more f xs i x inside (get_or_from_slice_get xs i x x is) in
    rw (more, done, shown, append_assoc) refl
