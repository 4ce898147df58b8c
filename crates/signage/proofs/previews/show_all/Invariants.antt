use Rattle.std.proofs.Common.{◌≡◌, take}
use Rattle.std.specs.Io.KnownBytes.{Appends}
use Rattle.signage.specs.Lines.{lines_of}
use Rattle.signage.proofs.previews.show_all.Given as goal

abbrev pub invariant-loop-moment : goal.invariant-loop-moment
invariant-loop-moment g l = record {
  written : Appends (g.O.Ends.written l.initial.out) (g.O.Ends.written l.out) (lines_of l.initial.display (take l.moment-index l.moments));
  same : l.display ≡ l.initial.display;
  faults : g.O.Ends.put_faults l.out ≡ g.O.Ends.put_faults l.initial.out;
}
