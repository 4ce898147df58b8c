-- Lemmas on the index of a number among numbers that ascend.
use Rattle.std.proofs.Common.{◌≡◌, ℕ, List, get_or, Option, None, Result, Ok, Err, arith}
use Rattle.std.specs.List.Sorted.{IsBinarySearchResult, IsNonDecreasing, IsStrictlyIncreasing}
use Rattle.std.specs.Ordering.{nat_cmp}
use Rattle.std.specs.Result.{result_ok}
use Rattle.std.proofs.lemmas.Grind.{get_or_default_zero}
use Rattle.std.proofs.lemmas.List.Kept.{AllPairs-from_increasing}
use Rattle.std.proofs.lemmas.List.Sorted.{searched}
use Rattle.sg_base.specs.Index.{IsIndexOf}

-- a binary search answers where a number stands
pub index_searched : (xs : List ℕ) (x : ℕ) (r : Result ℕ ℕ) (o : Option ℕ) → IsBinarySearchResult (λ y. nat_cmp y x) xs r → IsNonDecreasing xs → o ≡ result_ok r → IsIndexOf xs x o
index_searched xs x (Ok i) o s up is = let at = searched xs x (Ok i) s (λ i j le lt. up i j 0 le lt) in rw is at
index_searched xs x (Err i) o s up is =
    let at = searched xs x (Err i) s (λ i j le lt. up i j 0 le lt) in
    let none : IsIndexOf xs x None = λ c.
    let same : get_or xs c.0 0 ≡ x = grind (arith, get_or_default_zero xs c.0 x c.1, c.2) in
    let low = at.1 c.0 in
    let high = at.2 c.0 in
    grind (arith, low, high, same) in
    rw is none

-- numbers of which each is below the next don't fall
pub increasing_rises : (xs : List ℕ) → IsStrictlyIncreasing xs → IsNonDecreasing xs
increasing_rises xs up i j d le lt = let pairs = AllPairs-from_increasing xs up in grind (arith, pairs i j d)
