use Rattle.std.proofs.Common.{refl}
use Rattle.sg_api.proofs.HistoryLemmas.{door_history}
use Rattle.sg_connection.specs.Serving.{scene_at}
use Rattle.sg_api.proofs.server.serve_clients.Goals as goal

pub returns-clause-history : goal.returns-clause-history
returns-clause-history g c =
    door_history g.K.Keeper.view
    (λ conn state. scene_at (g.N.Conn.Ends.left conn) (g.N.Conn.Ends.take_faults conn) (g.N.Conn.Ends.written conn) (g.N.Conn.Ends.put_faults conn) state)
    (λ conn state. refl)
    (c.args.server.now, c.args.keeper.now) (c.serve_door.new.server, c.serve_door.new.keeper)
    (g.N.Door.coming c.args.door.now) (g.N.Door.coming c.serve_door.new.door) (g.N.Door.back c.args.door.now) (g.N.Door.back c.serve_door.new.door)
    c.args.limit (g.N.Door.ended c.serve_door.new.door) (g.N.Door.faults c.args.door.now) (g.N.Door.faults c.serve_door.new.door)
    c.serve_door.result c.serve_door.ensures
