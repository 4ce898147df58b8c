-- Lists that rise by a number of each element, its rank.
use Rattle.std.specs.Prelude.{ℕ, ◌<◌, ◌≤◌, ◌==◌, nat_lt, not, if◌then◌else◌, List, [], ◌∷◌, Option, length, filter}
use Rattle.std.specs.List.{AllByRecursion, AllWithin, find}

-- each rank is below all later ones
abbrev pub IsRising : {A : Type 0} → (A → ℕ) → List A → Type 0
IsRising rank [] = Unit {0}
IsRising rank (x ∷ xs) = AllByRecursion (λ y. rank x < rank y) xs × IsRising rank xs

-- the element of a rank
abbrev pub found : {A : Type 0} → (A → ℕ) → ℕ → List A → Option A
found rank k xs = find (λ x. rank x == k) xs

-- the list with x at its place, where an element of the same rank gives way to it
abbrev pub put : {A : Type 0} → (A → ℕ) → A → List A → List A
put rank x [] = x ∷ []
put rank x (y ∷ ys) =
    if nat_lt (rank x) (rank y) then x ∷ y ∷ ys else (if rank y == rank x then x ∷ ys else y ∷ put rank x ys)

-- the list without the element of a rank
abbrev pub without : {A : Type 0} → (A → ℕ) → ℕ → List A → List A
without rank k xs = filter (λ x. not (rank x == k)) xs

-- the ranks before an index are below k, and those from it on aren't
pub record IsFirstFrom {A : Type 0} (rank : A → ℕ) (k : ℕ) (xs : List A) (index : ℕ) : Type 0 where
  pub within : index ≤ length xs
  pub below : AllWithin (λ x. rank x < k) xs 0 index
  pub above : AllWithin (λ x. k ≤ rank x) xs index (length xs)
