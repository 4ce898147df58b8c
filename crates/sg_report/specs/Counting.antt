-- For private clauses: how plays are counted, row by row and page by page.
use Rattle.std.specs.Prelude.{◌≡◌, ℕ, ◌+◌, ◌-◌, ◌^◌, ◌<◌, ◌≤◌, suc, IsTrue, if◌then◌else◌, List, [], ◌∷◌, ◌++◌, Option, None, Some, length}
use Rattle.std.specs.List.{AllByRecursion}
use Rattle.std.specs.Int.{w32, to_le_bytes}
use Rattle.sg_base.specs.declared.key.Key.{Key}
use Rattle.sg_base.specs.Keys.{number_of}
use Rattle.sg_base.specs.Rising.{found, put}
use Rattle.sg_keeper.specs.Pages.{HasPageForm, end_of, start_of}
use Rattle.sg_keeper.specs.View.{View}
use Rattle.sg_report.specs.declared.kept.KeptPlay.{KeptPlay}
use Rattle.sg_report.specs.declared.line.Line.{Line}
use Rattle.sg_report.specs.Lines.{AreLines, begins_within, pair_of, played, seconds_of}
use Rattle.sg_report.specs.Plays.{AreKept, IsKept, IsListed, IsReadAs, kept_number}

-- bytes that begin with those of a number
pub record BeginsWith (bytes : List ℕ) (n : ℕ) (rest : List ℕ) : Type 0 where
  pub fits : n < 2 ^ 32
  pub is : to_le_bytes w32 n ++ rest ≡ bytes

-- ---- one play

-- the line of its display and its layout, with this play
abbrev pub more_of : KeptPlay → Option Line → Line
more_of k None = record { display = k.display; layout = k.play.layout; count = 1; seconds = seconds_of k }
more_of k (Some line) = record line { count = line.count + 1; seconds = line.seconds + seconds_of k }

abbrev pub with_play : KeptPlay → List Line → List Line
with_play k lines = put pair_of (more_of k (found pair_of (played k) lines)) lines

-- a line whose numbers can grow by those of a play
pub record HasRoom (line : Line) : Type 0 where
  pub count : line.count + 1 < 2 ^ 64
  pub seconds : line.seconds + 2 ^ 32 < 2 ^ 128

abbrev pub CanAdd : KeptPlay → List Line → Type 0
CanAdd k lines = (line : Line) → found pair_of (played k) lines ≡ Some line → HasRoom line

-- the lines with a play, if it began in time
abbrev pub counted : ℕ → ℕ → KeptPlay → List Line → List Line
counted from to k lines = if begins_within from to k.play then with_play k lines else lines

abbrev pub all_counted : ℕ → ℕ → List KeptPlay → List Line → List Line
all_counted from to [] lines = lines
all_counted from to (k ∷ ks) lines = all_counted from to ks (counted from to k lines)

-- ---- a row

abbrev pub CanAddRow : ℕ → ℕ → Key → List Line → Type 0
CanAddRow from to key lines = (k : KeptPlay) → IsKept k → kept_number k ≡ number_of key → IsTrue (begins_within from to k.play) → CanAdd k lines

abbrev pub counted_if : ℕ → ℕ → Option KeptPlay → List Line → List Line
counted_if from to None lines = lines
counted_if from to (Some k) lines = counted from to k lines

-- the row's play is counted, if it has one
pub record CountsRow (from to : ℕ) (row : Key × List ℕ) (old new : List Line) : Type 0 where
  pub play : Option KeptPlay
  pub read : IsReadAs row play
  pub lines : new ≡ counted_if from to play old

-- ---- rows

-- the plays of rows, in their order
pub data AreRead : List (Key × List ℕ) → List KeptPlay → Type 0 where
  none : AreRead [] []
  play : (row : Key × List ℕ) (k : KeptPlay) (rows : List (Key × List ℕ)) (plays : List KeptPlay) → IsReadAs row (Some k) → AreRead rows plays → AreRead (row ∷ rows) (k ∷ plays)
  other : (row : Key × List ℕ) (rows : List (Key × List ℕ)) (plays : List KeptPlay) → IsReadAs row None → AreRead rows plays → AreRead (row ∷ rows) plays

pub record CountsRows (from to : ℕ) (rows : List (Key × List ℕ)) (old new : List Line) : Type 0 where
  pub added : List KeptPlay
  pub read : AreRead rows added
  pub lines : new ≡ all_counted from to added old

-- the lines are those of some plays before a key
pub record HasLines (from to goal : ℕ) (lines : List Line) : Type 0 where
  pub plays : List KeptPlay
  pub kept : AreKept plays
  pub below : AllByRecursion (λ k. kept_number k < goal) plays
  pub sums : AreLines from to plays lines

-- a page whose rows come after the plays of the lines
pub record CanCount (from to : ℕ) (rows : List (Key × List ℕ)) (lines : List Line) : Type 0 where
  pub start : ℕ
  pub end : ℕ
  pub limit : ℕ
  pub before : HasLines from to start lines
  pub form : HasPageForm start end limit rows

-- ---- pages

-- the first number of a key that wasn't looked at
abbrev pub cursor : Option (ℕ × ℕ) → ℕ
cursor None = end_of 10
cursor (Some p) = start_of 10 (Some p)

-- how many there are from it on
abbrev pub left : Option (ℕ × ℕ) → ℕ
left None = 0
left (Some p) = suc (end_of 10 - start_of 10 (Some p))

-- The key of the last row of a full page
pub record EndsWith (rows : List (Key × List ℕ)) (p : ℕ × ℕ) : Type 0 where
  pub front : List (Key × List ℕ)
  pub last : Key × List ℕ
  pub is : rows ≡ front ++ last ∷ []
  pub a : p.0 ≡ last.0.a
  pub b : p.1 ≡ last.0.b
  pub fits : (p.0 < 2 ^ 64) × (p.1 < 2 ^ 64)

-- after which key the next page begins, where there may be one
abbrev pub IsNext : ℕ → List (Key × List ℕ) → Option (ℕ × ℕ) → Type 0
IsNext limit rows None = length rows < limit
IsNext limit rows (Some p) = EndsWith rows p

-- the plays from one number on and before another are counted: those that the keeper has, where it tells that
pub record CountsPlays (from to : ℕ) (v : View) (start goal : ℕ) (old new : List Line) : Type 0 where
  pub added : List KeptPlay
  pub kept : AreKept added
  pub within : AllByRecursion (λ k. (start ≤ kept_number k) × (kept_number k < goal)) added
  pub all : v.told → (k : KeptPlay) → IsKept k → start ≤ kept_number k → kept_number k < goal → IsListed v.rows added k
  pub lines : new ≡ all_counted from to added old
