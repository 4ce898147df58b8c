-- Lists that stand at the front of a fixed array.
use Rattle.std.proofs.Common.{◌≡◌, ℕ, ◌<◌, ◌≤◌, List, length, take, get_or, Some, slice_get, ◌∙◌, refl, arith}
use Rattle.std.proofs.lemmas.List.{length-take-le, get_or-take}
use Rattle.std.proofs.lemmas.Option.{slice_get-get_or}

-- so many entries are taken as there are
pub length_front : {A : Type 0} (n room : ℕ) (xs : List A) → n ≤ room → length xs ≡ room → length (take n xs) ≡ n
length_front n room xs few full = length-take-le n xs (omega arith)

-- an entry of the front is that of the array
pub front_at : {A : Type 0} (n room i : ℕ) (xs : List A) (d : A) → n ≤ room → length xs ≡ room → i < n → slice_get (take n xs) i ≡ Some (get_or xs i d)
front_at n room i xs d few full inside =
    let here : i < length (take n xs) = rw (length_front n room xs few full) inside in
    slice_get-get_or (take n xs) i d here ∙ rw (get_or-take n xs i d inside) refl
