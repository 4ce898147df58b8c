use Rattle.std.proofs.Common.{◌≡◌}
use Rattle.sg_disk.specs.Runs.{Ran}
use Rattle.sg_disk.specs.StandsFor.{HasOneJournal}
use Rattle.sg_contents.specs.StandsFor.{disk_len}
use Rattle.sg_paged_runs.specs.Stage.{Stage, IsAt}
use Rattle.sg_paged_runs.proofs.RunLemmas.{HasCome}
use Rattle.sg_paged_runs.proofs.runs.run.Given as goal

abbrev pub invariant-loop-call : goal.invariant-loop-call
invariant-loop-call g l = record {
  size : (g.D.Disk.view l.disk).size ≡ disk_len l.store.room;
  ran : Ran 0 (g.D.Disk.view l.initial.disk) (g.D.Disk.view l.disk);
  journal : (g.D.Disk.view l.initial.disk).told → HasOneJournal (g.D.Disk.view l.initial.disk) → HasOneJournal (g.D.Disk.view l.disk);
  come : (start : Stage) → IsAt (g.D.Disk.view l.initial.disk) l.initial.store start → HasCome start l.calls l.call-index (g.D.Disk.view l.initial.disk) (g.D.Disk.view l.disk) l.store;
}
