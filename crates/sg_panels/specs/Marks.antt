-- The lines of what befell the panels of a turn.
use Rattle.std.specs.Prelude.{◌≡◌, ℕ, ◌+◌, Bool, true, false, List, [], ◌∷◌, ◌++◌, replicate, codes, decimal}
use Rattle.std.specs.declared.option.Option.{Option}
use Rattle.std.specs.Io.KnownBytes.{Appends}
use Rattle.std.specs.List.{concat}
use Rattle.sg_outside.specs.Streams.{AppendsPart}
use Rattle.sg_panels.specs.declared.mark.Marks.{Marks}

-- a screen in this place was marked; places are counted from 1
abbrev pub dropped_line : ℕ → List ℕ
dropped_line place = codes "panel " ++ (decimal place ++ codes " dropped\n")

-- a spare came into this place and shows the picture
abbrev pub replaced_line : ℕ → List ℕ
replaced_line place = codes "panel " ++ (decimal place ++ codes " replaced\n")

-- a line, if it is wanted
abbrev pub line_if : Bool → List ℕ → List (List ℕ)
line_if false line = []
line_if true line = line ∷ []

-- the lines of one place
abbrev pub place_lines : ℕ → Marks → List (List ℕ)
place_lines place marks =
    line_if marks.failed (dropped_line place)
    ++ (replicate marks.spares (dropped_line place) ++ line_if marks.replaced (replaced_line place))

-- the lines of the places from this one on
abbrev pub lines_from : ℕ → List Marks → List (List ℕ)
lines_from place [] = []
lines_from place (marks ∷ more) = place_lines place marks ++ lines_from (place + 1) more

-- Lines were written up to one that has failed, of which there is a front at most.
pub record EndsInLine (old new : Option (List ℕ)) (lines : List (List ℕ)) : Type 0 where
  pub done : List (List ℕ)
  pub last : List ℕ
  pub rest : List (List ℕ)
  pub split : done ++ (last ∷ rest) ≡ lines
  pub between : Option (List ℕ)
  pub whole : Appends old between (concat done)
  pub part : AppendsPart between new last
