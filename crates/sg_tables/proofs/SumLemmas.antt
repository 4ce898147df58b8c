-- Sums over a list that rises, after one of its elements has changed.
use Rattle.std.proofs.Common.{◌≡◌, ℕ, ◌+◌, cond, not, List, [], ◌∷◌, ap, arith}
use Rattle.std.specs.Prelude.{Option, None, Some}
use Rattle.std.specs.List.{sum_by}
use Rattle.std.proofs.lemmas.List.Sums.{sum_by-cons}
use Rattle.sg_base.specs.Rising.{IsRising, found, put, without}
use Rattle.sg_base.proofs.RisingLemmas.{by_equal, by_put, all_above, found_above, found_first, found_later, without_missing}

-- what an element adds, if there is one
abbrev pub part : {A : Type 0} → (A → ℕ) → Option A → ℕ
part f None = 0
part f (Some x) = f x

pub sum-put : {A : Type 0} (rank f : A → ℕ) (x : A) (xs : List A) → IsRising rank xs → sum_by f (put rank x xs) + part f (found rank (rank x) xs) ≡ sum_by f xs + f x
sum-put rank f x [] s = let a = sum_by-cons f x [] in omega (arith, a)
sum-put rank f x (y ∷ ys) s = by_put rank x y ys (λ l. sum_by f l + part f (found rank (rank x) (y ∷ ys)) ≡ sum_by f (y ∷ ys) + f x)
    (λ h.
    let none = ap (part f) (found_above rank (rank x) (y ∷ ys) (h, all_above rank (rank y) (rank x) ys (omega arith) s.0)) in
    let a = sum_by-cons f x (y ∷ ys) in
    omega (arith, none, a))
    (λ e.
    let some = ap (part f) (found_first rank (rank x) y ys e) in
    let a = sum_by-cons f x ys in
    let b = sum_by-cons f y ys in
    omega (arith, some, a, b))
    (λ h.
    let later = ap (part f) (found_later rank (rank x) y ys (λ e. omega arith)) in
    let a = sum_by-cons f y (put rank x ys) in
    let b = sum_by-cons f y ys in
    let rest = sum-put rank f x ys s.1 in
    omega (arith, later, a, b, rest))

pub sum-without : {A : Type 0} (rank f : A → ℕ) (k : ℕ) (xs : List A) → IsRising rank xs → sum_by f (without rank k xs) + part f (found rank k xs) ≡ sum_by f xs
sum-without rank f k [] s = omega arith
sum-without rank f k (y ∷ ys) s = by_equal (rank y) k (λ b. sum_by f (cond (not b) (y ∷ without rank k ys) (without rank k ys)) + part f (cond b (Some y) (found rank k ys)) ≡ sum_by f (y ∷ ys))
    (λ e.
    let none = found_above rank k ys (all_above rank (rank y) k ys (omega arith) s.0) in
    let same = ap (sum_by f) (without_missing rank k ys none) in
    let a = sum_by-cons f y ys in
    omega (arith, same, a))
    (λ ne.
    let a = sum_by-cons f y (without rank k ys) in
    let b = sum_by-cons f y ys in
    let rest = sum-without rank f k ys s.1 in
    omega (arith, a, b, rest))
