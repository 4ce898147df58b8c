use Rattle.std.proofs.Common.{◌<◌, ◌≤◌, [], length}
use Rattle.sg_base.specs.declared.limits.TheConstants.{MAX_TAKEN}
use Rattle.sg_connection.specs.Exchanges.{in_pairs}
use Rattle.sg_connection.specs.Serving.{scene_at}
use Rattle.sg_connection.specs.Turns.{left_to_do}
use Rattle.sg_connection.proofs.TurnLemmas.{IsFar}
use Rattle.sg_connection.proofs.serve.serve_by.Given as goal

abbrev pub invariant-loop-end : goal.invariant-loop-end
invariant-loop-end g l = record {
  far : IsFar (in_pairs g.A.Answerer.answers)
      (scene_at (g.C.Ends.left l.initial.conn) (g.C.Ends.take_faults l.initial.conn) (g.C.Ends.written l.initial.conn) (g.C.Ends.put_faults l.initial.conn) (l.initial.server, l.initial.keeper))
      (scene_at (g.C.Ends.left l.conn) (g.C.Ends.take_faults l.conn) (g.C.Ends.written l.conn) (g.C.Ends.put_faults l.conn) (l.server, l.keeper))
      (record { stream = []; total = 0 }) l.inbox;
  limit : l.inbox.total ≤ MAX_TAKEN;
  room : 0 < length l.piece;
}

abbrev pub decreases-loop-end : goal.decreases-loop-end
decreases-loop-end g l = left_to_do l.inbox
