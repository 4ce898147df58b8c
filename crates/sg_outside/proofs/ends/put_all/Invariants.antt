use Rattle.std.proofs.Common.{length, take, ◌-◌, ◌≡◌, ◌≤◌}
use Rattle.std.specs.Io.KnownBytes.{Appends}
use Rattle.sg_outside.specs.Streams.{IsApart}
use Rattle.sg_outside.proofs.ends.put_all.Given as goal

-- The bytes that are done were put, and no put has failed.
abbrev pub invariant-loop-done : goal.invariant-loop-done
invariant-loop-done g l = record {
  within : l.done ≤ length l.bytes;
  put : Appends (g.O.Ends.written l.initial.out) (g.O.Ends.written l.out) (take l.done l.bytes);
  faults : g.O.Ends.put_faults l.out ≡ g.O.Ends.put_faults l.initial.out;
  apart : IsApart (g.O.Ends.left l.initial.out) (g.O.Ends.left l.out) (g.O.Ends.take_faults l.initial.out) (g.O.Ends.take_faults l.out);
}

abbrev pub decreases-loop-done : goal.decreases-loop-done
decreases-loop-done g l = length l.bytes - l.done
