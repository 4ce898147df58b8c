-- What a call does to a list that the object may tell. `None` in place of a list claims nothing: it isn't told.
use Rattle.std.specs.Prelude.{◌≡◌, ⊤, List, [], ◌++◌, None, Some}
use Rattle.std.specs.declared.option.Option.{Option}

-- where the list is told now, it has these after those that it had
abbrev pub Grows : {A : Type 0} → Option (List A) → Option (List A) → List A → Type 0
Grows old None more = ⊤
Grows None (Some ys) more = ⊥
Grows (Some xs) (Some ys) more = ys ≡ xs ++ more

-- where the list is told now, it had these at its front and has the others left
abbrev pub Loses : {A : Type 0} → Option (List A) → Option (List A) → List A → Type 0
Loses old None gone = ⊤
Loses None (Some ys) gone = ⊥
Loses (Some xs) (Some ys) gone = xs ≡ gone ++ ys

-- where the list is told, nothing is left of it
abbrev pub IsSpent : {A : Type 0} → Option (List A) → Type 0
IsSpent None = ⊤
IsSpent (Some xs) = xs ≡ []
