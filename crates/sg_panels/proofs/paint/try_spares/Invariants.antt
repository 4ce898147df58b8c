use Rattle.std.proofs.Common.{◌≡◌, ◌≤◌, false, length, take, drop, map}
use Rattle.sg_panels.specs.Reads.{OnlyReads, StaysKnown}
use Rattle.sg_panels.specs.Screens.{screen_view}
use Rattle.sg_panels.proofs.Walks.{Walked}
use Rattle.sg_panels.proofs.paint.try_spares.Given as goal

abbrev pub invariant-loop-j : goal.invariant-loop-j
invariant-loop-j g l = record {
  long : length l.spares.items ≡ l.j-end;
  few : l.failed ≤ l.j;
  walked : Walked (g.S.Shelf.knows l.shelf (g.D.Disk.view l.fn.disk)) l.picture
      (screen_view l.fn.screen.live ((goal.Panel-dyn g (l.fn.screen.panel.vtable, l.fn.screen.panel.value)).seen l.fn.screen.panel.value))
      (map (λ s. screen_view s.live ((goal.Panel-dyn g (s.panel.vtable, s.panel.value)).seen s.panel.value)) l.fn.spares.items)
      (screen_view l.screen.live ((goal.Panel-dyn g (l.screen.panel.vtable, l.screen.panel.value)).seen l.screen.panel.value))
      (take l.j (map (λ s. screen_view s.live ((goal.Panel-dyn g (s.panel.vtable, s.panel.value)).seen s.panel.value)) l.spares.items))
      (drop l.j (map (λ s. screen_view s.live ((goal.Panel-dyn g (s.panel.vtable, s.panel.value)).seen s.panel.value)) l.spares.items))
      l.failed;
  known : StaysKnown (g.S.Shelf.knows l.shelf (g.D.Disk.view l.fn.disk)) (g.S.Shelf.knows l.shelf (g.D.Disk.view l.disk));
  only : OnlyReads false (g.D.Disk.view l.fn.disk) (g.D.Disk.view l.disk);
}
