-- How many first bytes two texts have in common.
use Rattle.std.proofs.Common.{◌≡◌, ℕ, suc, ◌+◌, ◌<◌, ◌≤◌, ◌==◌, true, false, List, [], ◌∷◌, length, drop, drop-cons, get_or, refl, arith, add-one}
use Rattle.std.proofs.lemmas.Bool.Decides.{nat_tests}
use Rattle.std.proofs.lemmas.List.{drop_all}
use Rattle.sg_manifest.specs.Reading.{common}

pub common_none : (xs : List ℕ) → common xs [] ≡ 0
common_none [] = refl
common_none (x ∷ xs) = refl

-- the other text is at its end
pub common_over : (xs ys : List ℕ) (i n : ℕ) → length ys ≤ i → common (drop i xs) (drop i ys) + i ≡ n → i ≡ n
common_over xs ys i n over e =
    let none : drop i ys ≡ [] = drop_all i ys over in
    let left : common (drop i xs) (drop i ys) ≡ 0 = rw none (common_none (drop i xs)) in
    omega (arith, left, e)

-- two bytes differ
pub common_stop : (xs ys : List ℕ) (i n x : ℕ) → i < length xs → i < length ys → x ≡ get_or xs i 0 → (x ≡ get_or ys i 0 → ⊥) → common (drop i xs) (drop i ys) + i ≡ n → i ≡ n
common_stop xs ys i n x inside within is differ e =
    let test : (get_or xs i 0 == get_or ys i 0) ≡ false = grind (arith, nat_tests) in
    let left : common (drop i xs) (drop i ys) ≡ 0 = rw (drop-cons xs i 0 inside, drop-cons ys i 0 within, test) refl in
    omega (arith, left, e)

-- two bytes are the same
pub common_next : (xs ys : List ℕ) (i n x : ℕ) → i < length xs → i < length ys → x ≡ get_or xs i 0 → x ≡ get_or ys i 0 → common (drop i xs) (drop i ys) + i ≡ n → common (drop (i + 1) xs) (drop (i + 1) ys) + (i + 1) ≡ n
common_next xs ys i n x inside within is same e =
    let test : (get_or xs i 0 == get_or ys i 0) ≡ true = grind (arith, nat_tests) in
    let left : common (drop i xs) (drop i ys) ≡ common (drop (suc i) xs) (drop (suc i) ys) + 1 = rw (drop-cons xs i 0 inside, drop-cons ys i 0 within, test) refl in
    rw add-one (omega (arith, left, e))
