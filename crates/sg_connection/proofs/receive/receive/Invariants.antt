use Rattle.std.proofs.Common.{◌≡◌, ◌-◌, ◌<◌, ◌≤◌, length}
use Rattle.sg_base.specs.declared.limits.TheConstants.{MAX_TAKEN}
use Rattle.sg_connection.specs.Taking.{Comes, IsAwaited}
use Rattle.sg_outside.specs.Streams.{IsApart}
use Rattle.sg_connection.proofs.receive.receive.Given as goal

abbrev pub invariant-loop-next : goal.invariant-loop-next
invariant-loop-next g l = record {
  comes : Comes (g.S.Ends.left l.initial.source) (g.S.Ends.left l.source) l.initial.inbox l.inbox;
  faults : g.S.Ends.take_faults l.source ≡ g.S.Ends.take_faults l.initial.source;
  awaited : IsAwaited l.inbox.stream l.wait;
  limit : l.inbox.total ≤ MAX_TAKEN;
  room : 0 < length l.piece;
  apart : IsApart (g.S.Ends.written l.initial.source) (g.S.Ends.written l.source) (g.S.Ends.put_faults l.initial.source) (g.S.Ends.put_faults l.source);
}

abbrev pub decreases-loop-next : goal.decreases-loop-next
decreases-loop-next g l = MAX_TAKEN - l.inbox.total
