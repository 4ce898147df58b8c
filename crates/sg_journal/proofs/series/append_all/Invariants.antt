use Rattle.std.proofs.Common.{◌≡◌, ◌*◌, ◌++◌, take}
use Rattle.sg_disk.specs.Contents.{Contents}
use Rattle.sg_disk.specs.Runs.{Ran, Within}
use Rattle.sg_disk.specs.declared.places.TheConstants.{APPEND_CALLS, JOURNAL, JOURNAL_LEN}
use Rattle.sg_journal.specs.Ready.{first_of, plays_of, IsReady}
use Rattle.sg_journal.proofs.SeriesLemmas.{HasCome}
use Rattle.sg_journal.proofs.series.append_all.Given as goal

abbrev pub invariant-loop-play : goal.invariant-loop-play
invariant-loop-play g l = record {
  size : (g.D.Disk.view l.disk).size ≡ (g.D.Disk.view l.initial.disk).size;
  within : Within JOURNAL JOURNAL_LEN (g.D.Disk.view l.initial.disk) (g.D.Disk.view l.disk);
  ran : Ran (APPEND_CALLS * l.play-index) (g.D.Disk.view l.initial.disk) (g.D.Disk.view l.disk);
  first : first_of l.journal ≡ first_of l.initial.journal;
  plays : plays_of l.journal ≡ plays_of l.initial.journal ++ take l.play-index l.plays;
  come : (p : Contents) → IsReady (g.D.Disk.view l.initial.disk) l.initial.journal p → HasCome p l.plays l.play-index (g.D.Disk.view l.initial.disk) (g.D.Disk.view l.disk) l.journal;
}
