use Rattle.std.proofs.Common.{◌≡◌, List, false, length, take, drop, map}
use Rattle.std.specs.Io.KnownBytes.{Appends}
use Rattle.std.specs.List.{concat}
use Rattle.sg_devices.specs.Blame.{CountsFault}
use Rattle.sg_panels.specs.declared.mark.Marks.{Marks}
use Rattle.sg_panels.specs.Marks.{lines_from}
use Rattle.sg_panels.specs.Reads.{OnlyReads, StaysKnown}
use Rattle.sg_panels.specs.Screens.{screen_view}
use Rattle.sg_panels.proofs.Walks.{Along}
use Rattle.sg_panels.proofs.paint.paint_all.Given as goal

abbrev pub invariant-loop-i : goal.invariant-loop-i
invariant-loop-i g l = record {
  long : length l.panels.items ≡ l.i-end;
  come : (marks : List Marks) × (length marks ≡ l.i)
      × Along (g.S.Shelf.knows l.shelf (g.D.Disk.view l.fn.disk)) l.picture
      (map (λ s. screen_view s.live ((goal.Panel-dyn g (s.panel.vtable, s.panel.value)).seen s.panel.value)) l.fn.panels.items)
      (map (λ s. screen_view s.live ((goal.Panel-dyn g (s.panel.vtable, s.panel.value)).seen s.panel.value)) l.fn.spares.items)
      (map (λ s. screen_view s.live ((goal.Panel-dyn g (s.panel.vtable, s.panel.value)).seen s.panel.value)) l.spares.items)
      (take l.i (map (λ s. screen_view s.live ((goal.Panel-dyn g (s.panel.vtable, s.panel.value)).seen s.panel.value)) l.panels.items))
      (drop l.i (map (λ s. screen_view s.live ((goal.Panel-dyn g (s.panel.vtable, s.panel.value)).seen s.panel.value)) l.panels.items))
      marks
      × Appends (g.O.Ends.written l.fn.out) (g.O.Ends.written l.out) (concat (lines_from 1 marks));
  counts : CountsFault false (g.O.Ends.put_faults l.fn.out) (g.O.Ends.put_faults l.out);
  known : StaysKnown (g.S.Shelf.knows l.shelf (g.D.Disk.view l.fn.disk)) (g.S.Shelf.knows l.shelf (g.D.Disk.view l.disk));
  only : OnlyReads false (g.D.Disk.view l.fn.disk) (g.D.Disk.view l.disk);
}
