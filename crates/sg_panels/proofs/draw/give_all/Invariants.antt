use Rattle.std.proofs.Common.{◌≡◌, ◌<◌, ◌≤◌, ◌-◌, ◌%◌, ℕ, List, false, length, Some}
use Rattle.sg_base.specs.declared.limits.TheConstants.{PIECE_LEN}
use Rattle.sg_devices.specs.Blame.{CountsFault}
use Rattle.sg_panels.specs.Reads.{OnlyReads, StaysKnown}
use Rattle.sg_panels.proofs.DrawLemmas.{HasCome}
use Rattle.sg_panels.proofs.draw.give_all.Given as goal

abbrev pub invariant-loop-at : goal.invariant-loop-at
invariant-loop-at g l = record {
  reach : l.at ≤ l.size;
  aligned : l.at < l.size → l.at % PIECE_LEN ≡ 0;
  come : HasCome (g.S.Shelf.knows l.shelf (g.D.Disk.view l.fn.disk)) l.media.0 l.at
      ((goal.Panel-dyn g (l.fn.panel.vtable, l.fn.panel.value)).seen l.fn.panel.value)
      ((goal.Panel-dyn g (l.panel.vtable, l.panel.value)).seen l.panel.value);
  long : 0 < l.at → (bytes : ℕ → List ℕ) → g.S.Shelf.knows l.shelf (g.D.Disk.view l.fn.disk) bytes
      → g.S.Shelf.lengths l.shelf l.media.0 ≡ Some (length (bytes l.media.0));
  counts : CountsFault false ((goal.Panel-dyn g (l.fn.panel.vtable, l.fn.panel.value)).seen l.fn.panel.value).faults
      ((goal.Panel-dyn g (l.panel.vtable, l.panel.value)).seen l.panel.value).faults;
  known : StaysKnown (g.S.Shelf.knows l.shelf (g.D.Disk.view l.fn.disk)) (g.S.Shelf.knows l.shelf (g.D.Disk.view l.disk));
  only : OnlyReads false (g.D.Disk.view l.fn.disk) (g.D.Disk.view l.disk);
}

abbrev pub decreases-loop-at : goal.decreases-loop-at
decreases-loop-at g l = l.size - l.at
