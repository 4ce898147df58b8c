-- Lists in the order of a number of their entries.
use Rattle.std.specs.Prelude.{ℕ, ◌==◌, nat_lt, Bool, if◌then◌else◌, List, [], ◌∷◌}

-- two entries of one number
abbrev pub same_number : {A : Type 0} → (A → ℕ) → A → A → Bool
same_number key x y = key x == key y

-- before the first entry with a greater number
abbrev pub insert_by : {A : Type 0} → (A → ℕ) → A → List A → List A
insert_by key x [] = x ∷ []
insert_by key x (y ∷ ys) = if nat_lt (key x) (key y) then x ∷ (y ∷ ys) else y ∷ insert_by key x ys

-- the entries by ascending number
abbrev pub sorted_by : {A : Type 0} → (A → ℕ) → List A → List A
sorted_by key [] = []
sorted_by key (x ∷ xs) = insert_by key x (sorted_by key xs)
