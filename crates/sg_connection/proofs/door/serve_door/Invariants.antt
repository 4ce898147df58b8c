use Rattle.std.proofs.Common.{◌≡◌}
use Rattle.sg_connection.specs.Exchanges.{in_pairs}
use Rattle.sg_connection.specs.Serving.{scene_at}
use Rattle.sg_connection.specs.Visits.{Handed}
use Rattle.sg_connection.proofs.door.serve_door.Given as goal

abbrev pub invariant-loop-served : goal.invariant-loop-served
invariant-loop-served g l = record {
  handed : Handed (in_pairs g.A.Answerer.answers)
      (λ conn state. scene_at (g.N.Conn.Ends.left conn) (g.N.Conn.Ends.take_faults conn) (g.N.Conn.Ends.written conn) (g.N.Conn.Ends.put_faults conn) state)
      (l.initial.server, l.initial.keeper) (l.server, l.keeper)
      (g.N.Door.coming l.initial.door) (g.N.Door.coming l.door) (g.N.Door.back l.initial.door) (g.N.Door.back l.door) l.served;
  faults : g.N.Door.faults l.door ≡ g.N.Door.faults l.initial.door;
}
