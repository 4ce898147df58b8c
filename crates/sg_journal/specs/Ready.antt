-- A journal as contracts see it, and the disk that it was opened on.
use Rattle.std.specs.Prelude.{◌≡◌, ℕ, ◌+◌, ◌-◌, List, length, drop}
use Rattle.sg_base.specs.declared.play.PlayBody.{PlayBody}
use Rattle.sg_disk.specs.View.{View}
use Rattle.sg_disk.specs.Contents.{Contents}
use Rattle.sg_disk.specs.StandsFor.{HoldsPlays, journal_of, HasOneJournal}
use Rattle.sg_contents.specs.StandsFor.{Settled}
use Rattle.sg_journal.specs.declared.journal.Journal.{Journal}

-- the number of the first play that isn't acknowledged
abbrev pub first_of : Journal → ℕ
first_of j = j.first

-- the plays that aren't acknowledged, by ascending numbers
abbrev pub plays_of : Journal → List PlayBody
plays_of j = j.plays.items

-- the number of the next play
abbrev pub next_of : Journal → ℕ
next_of j = j.first + length j.plays.items

-- the epoch whose plays it records
abbrev pub epoch_of : Journal → ℕ
epoch_of j = j.epoch

-- the least number whose record may be open: from there on records hold plays, acknowledged or not
abbrev pub oldest_of : Journal → ℕ
oldest_of j = j.oldest

-- the journal in memory knows the open records of an area, its floor, and the plays from the floor on
pub record Agrees (j : Journal) (p : Contents) (area : List ℕ) : Type 0 where
  pub held : HoldsPlays p.epoch (oldest_of j) p.plays area
  pub first : first_of j ≡ p.floor
  pub next : next_of j ≡ length p.plays + 1
  pub plays : plays_of j ≡ drop (p.floor - 1) p.plays
  pub epoch : epoch_of j ≡ p.epoch

-- The journal is ready to record on a disk with these contents: each image of the disk stands for them, every image has the
-- same journal, and the journal in memory agrees with it
pub record IsReady (v : View) (j : Journal) (p : Contents) : Type 0 where
  pub settled : Settled v p
  pub one : HasOneJournal v
  pub agrees : Agrees j p (journal_of v.bytes)
