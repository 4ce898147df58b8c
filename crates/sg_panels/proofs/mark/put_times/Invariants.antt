use Rattle.std.proofs.Common.{◌≡◌, ◌≤◌, ◌-◌, replicate}
use Rattle.std.specs.Io.KnownBytes.{Appends}
use Rattle.std.specs.List.{concat}
use Rattle.sg_panels.proofs.mark.put_times.Given as goal

abbrev pub invariant-loop-done : goal.invariant-loop-done
invariant-loop-done g l = record {
  reach : l.done ≤ l.times;
  put : Appends (g.O.Ends.written l.initial.out) (g.O.Ends.written l.out) (concat (replicate l.done l.line));
  same : g.O.Ends.put_faults l.out ≡ g.O.Ends.put_faults l.initial.out;
}

abbrev pub decreases-loop-done : goal.decreases-loop-done
decreases-loop-done g l = l.times - l.done
