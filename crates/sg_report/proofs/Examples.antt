-- A report that was worked by hand: display 7 played layout 1 in the seconds 0 to 10 and 20 to 30, and layout 2 from 10 to 20.
use Rattle.std.proofs.Common.{◌≡◌, ℕ, List, [], ◌∷◌, refl}
use Rattle.std.specs.Prelude.{filter, Option, None, Some}
use Rattle.sg_report.specs.declared.kept.KeptPlay.{KeptPlay}
use Rattle.sg_report.specs.declared.line.Line.{Line}
use Rattle.sg_report.specs.Lines.{belongs, line_of, pair}

abbrev played_at : ℕ → ℕ → ℕ → ℕ → KeptPlay
played_at number layout from to = record { display = 7; epoch = 1; number = number; play = record { event = 9; layout = layout; from = from; to = to } }

abbrev plays : List KeptPlay
plays = played_at 1 1 0 10 ∷ played_at 2 2 10 20 ∷ played_at 3 1 20 30 ∷ []

abbrev first : Line
first = record { display = 7; layout = 1; count = 2; seconds = 20 }

abbrev second : Line
second = record { display = 7; layout = 2; count = 1; seconds = 10 }

-- before second 25
two_lines : (line_of (filter (belongs 0 25 (pair 7 1)) plays) ≡ Some first) × (line_of (filter (belongs 0 25 (pair 7 2)) plays) ≡ Some second) × (line_of (filter (belongs 0 25 (pair 7 3)) plays) ≡ None)
two_lines = (refl, refl, refl)

-- the last second is out of the range, and the first one in it
edges : (line_of (filter (belongs 0 20 (pair 7 1)) plays) ≡ Some (record first { count = 1; seconds = 10 })) × (line_of (filter (belongs 20 21 (pair 7 1)) plays) ≡ Some (record first { count = 1; seconds = 10 }))
edges = (refl, refl)

-- an empty range
none : line_of (filter (belongs 0 0 (pair 7 1)) plays) ≡ None
none = refl
