use Rattle.std.proofs.Common.{false, take}
use Rattle.sg_panels.specs.Draws.{Shows}
use Rattle.sg_panels.specs.Reads.{OnlyReads, StaysKnown}
use Rattle.sg_panels.proofs.draw.draw.Given as goal

abbrev pub invariant-loop-i : goal.invariant-loop-i
invariant-loop-i g l = record {
  shows : Shows (g.S.Shelf.knows l.shelf (g.D.Disk.view l.fn.disk)) (take l.i l.picture)
      ((goal.Panel-dyn g (l.fn.panel.vtable, l.fn.panel.value)).seen l.fn.panel.value)
      ((goal.Panel-dyn g (l.panel.vtable, l.panel.value)).seen l.panel.value);
  known : StaysKnown (g.S.Shelf.knows l.shelf (g.D.Disk.view l.fn.disk)) (g.S.Shelf.knows l.shelf (g.D.Disk.view l.disk));
  only : OnlyReads false (g.D.Disk.view l.fn.disk) (g.D.Disk.view l.disk);
}
