-- What changes do to rows.
use Rattle.std.specs.Prelude.{ℕ, ◌==◌, if◌then◌else◌, List, [], ◌∷◌, Option, None, Some}
use Rattle.sg_base.specs.Keys.{number_of}
use Rattle.sg_keeper.specs.declared.keeper.Change.{Change}
use Rattle.sg_keeper.specs.declared.keeper.Change.TheVariants.{Put, Drop}

-- the rows with this one at the number of a key
abbrev pub with_row : ℕ → Option (List ℕ) → (ℕ → Option (List ℕ)) → ℕ → Option (List ℕ)
with_row number row rows n = if number == n then row else rows n

abbrev pub changed : Change → (ℕ → Option (List ℕ)) → ℕ → Option (List ℕ)
changed (Put key bytes) rows = with_row (number_of key) (Some bytes) rows
changed (Drop key) rows = with_row (number_of key) None rows

-- the rows after changes, one after another
abbrev pub applied : List Change → (ℕ → Option (List ℕ)) → ℕ → Option (List ℕ)
applied [] rows = rows
applied (c ∷ cs) rows = applied cs (changed c rows)
