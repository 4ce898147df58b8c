-- The report of plays.
use Rattle.std.specs.Prelude.{◌≡◌, ℕ, List}
use Rattle.sg_keeper.specs.View.{View}
use Rattle.sg_report.specs.declared.kept.KeptPlay.{KeptPlay}
use Rattle.sg_report.specs.declared.line.Line.{Line}
use Rattle.sg_report.specs.Lines.{AreLines, table_text}
use Rattle.sg_report.specs.Plays.{AreKept, HasPlays}

-- the text of the lines of a keeper's plays. A keeper that doesn't tell its rows has some plays
pub record IsReport (from to : ℕ) (keeper : View) (text : List ℕ) : Type 0 where
  pub plays : List KeptPlay
  pub kept : AreKept plays
  pub all : keeper.told → HasPlays keeper.rows plays
  pub lines : List Line
  pub sums : AreLines from to plays lines
  pub table : text ≡ table_text lines
