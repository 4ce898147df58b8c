-- The lines of a report: one for each display and each layout that it played.
use Rattle.std.specs.Prelude.{◌≡◌, ℕ, ◌+◌, ◌-◌, ◌*◌, ◌^◌, ◌==◌, ◌&&◌, nat_le, nat_lt, Bool, List, [], ◌∷◌, ◌++◌, Option, None, Some, length, filter, sum_by, decimal, codes}
use Rattle.std.specs.List.{flat_map}
use Rattle.sg_base.specs.declared.play.PlayBody.{PlayBody}
use Rattle.sg_base.specs.Rising.{IsRising, found}
use Rattle.sg_report.specs.declared.kept.KeptPlay.{KeptPlay}
use Rattle.sg_report.specs.declared.line.Line.{Line}

-- a display and a layout as one number, by which lines stand
abbrev pub pair : ℕ → ℕ → ℕ
pair display layout = display * 2 ^ 32 + layout

abbrev pub pair_of : Line → ℕ
pair_of line = pair line.display line.layout

abbrev pub played : KeptPlay → ℕ
played k = pair k.display k.play.layout

-- the play began at one moment or later, and before another
abbrev pub begins_within : ℕ → ℕ → PlayBody → Bool
begins_within from to p = nat_le from p.from && nat_lt p.from to

-- it belongs to the line of a pair
abbrev pub belongs : ℕ → ℕ → ℕ → KeptPlay → Bool
belongs from to pair k = begins_within from to k.play && (played k == pair)

abbrev pub seconds_of : KeptPlay → ℕ
seconds_of k = k.play.to - k.play.from

-- what a line says of its plays: how many they are, and all their seconds. Without plays there is no line
abbrev pub line_of : List KeptPlay → Option Line
line_of [] = None
line_of (k ∷ ks) = Some (record { display = k.display; layout = k.play.layout; count = length (k ∷ ks); seconds = sum_by seconds_of (k ∷ ks) })

-- the lines of the plays that begin from one moment on and before another
pub record AreLines (from to : ℕ) (plays : List KeptPlay) (lines : List Line) : Type 0 where
  pub rising : IsRising pair_of lines
  pub each : (pair : ℕ) → found pair_of pair lines ≡ line_of (filter (belongs from to pair) plays)

-- ---- the text

abbrev pub head_text : List ℕ
head_text = codes "display,layout,count,seconds\n"

unfoldable pub line_text : Line → List ℕ
line_text line =
    decimal line.display ++ codes "," ++ decimal line.layout ++ codes "," ++ decimal line.count ++ codes "," ++ decimal line.seconds ++ codes "\n"

-- the report of these lines as a table of comma-separated values
abbrev pub table_text : List Line → List ℕ
table_text lines = head_text ++ flat_map line_text lines
