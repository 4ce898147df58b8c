-- The first of several faults. A row is valid where its constructor finds none.
use Rattle.std.specs.Prelude.{ℕ, ◌==◌, if◌then◌else◌, List, [], ◌∷◌, ◌++◌, Option, Some, None}
use Rattle.std.specs.List.{list_any}

-- the first fault, or else the second
abbrev pub first_of : {F : Type 0} → Option F → Option F → Option F
first_of None g = g
first_of (Some f) g = Some f

-- the fault of the first entry that has one
abbrev pub first_in : {X F : Type 0} → (X → Option F) → List X → Option F
first_in f [] = None
first_in f (x ∷ xs) = first_of (f x) (first_in f xs)

-- the fault of the first entry whose number stands earlier in the list
abbrev pub double_of : {X F : Type 0} → (X → ℕ) → (ℕ → F) → List X → List X → Option F
double_of number fault seen [] = None
double_of number fault seen (x ∷ xs) =
    if list_any (λ s. number s == number x) seen then Some (fault (number x)) else double_of number fault (seen ++ x ∷ []) xs
