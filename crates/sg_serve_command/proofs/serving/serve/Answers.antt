use Rattle.sg_connection.specs.Serving.{scene_at}
use Rattle.sg_endings.proofs.Endings.{stopped_first}
use Rattle.sg_endings.specs.Stops.{status_of, text_of}
use Rattle.sg_serve_command.specs.Serves.{Serves, door_at, status_of_served, text_of_served}
use Rattle.sg_serve_command.specs.Serves.Serves.{served, stopped}
use Rattle.std.proofs.Common.{refl}
use Rattle.sg_serve_command.proofs.serving.serve.Goals as goal

pub returns-in-Ok : goal.returns-in-Ok
returns-in-Ok g c =
    stopped_first
    (Serves g.K.Keeper.view
    (λ conn state. scene_at (g.N.Conn.Ends.left conn) (g.N.Conn.Ends.take_faults conn) (g.N.Conn.Ends.written conn) (g.N.Conn.Ends.put_faults conn) state)
    c.args.operator.now c.args.connections
    (door_at (g.N.Door.coming c.args.door.now) (g.N.Door.back c.args.door.now) (g.N.Door.ended c.args.door.now) (g.N.Door.faults c.args.door.now))
    (door_at (g.N.Door.coming c.serve_clients-served.new.door) (g.N.Door.back c.serve_clients-served.new.door) (g.N.Door.ended c.serve_clients-served.new.door) (g.N.Door.faults c.serve_clients-served.new.door))
    c.args.keeper.now c.serve_clients-served.new.keeper)
    (status_of_served c.serve_clients-served.result) (text_of_served c.serve_clients-served.result) c.tell.result _ _ _ _ c.tell.ensures
    (served c.in-Ok.server c.serve_clients-served.new.server c.open_for.new.keeper c.serve_clients-served.result c.in-Ok.ensures.opened c.in-Ok.ensures.same
    c.serve_clients-served.ensures.served c.serve_clients-served.ensures.history)

pub returns-in-Err : goal.returns-in-Err
returns-in-Err g c =
    stopped_first
    (Serves g.K.Keeper.view
    (λ conn state. scene_at (g.N.Conn.Ends.left conn) (g.N.Conn.Ends.take_faults conn) (g.N.Conn.Ends.written conn) (g.N.Conn.Ends.put_faults conn) state)
    c.args.operator.now c.args.connections
    (door_at (g.N.Door.coming c.args.door.now) (g.N.Door.back c.args.door.now) (g.N.Door.ended c.args.door.now) (g.N.Door.faults c.args.door.now))
    (door_at (g.N.Door.coming c.args.door.now) (g.N.Door.back c.args.door.now) (g.N.Door.ended c.args.door.now) (g.N.Door.faults c.args.door.now))
    c.args.keeper.now c.open_for.new.keeper)
    (status_of c.in-Err.stop) (text_of c.in-Err.stop) c.finish.result _ _ _ _ c.finish.ensures
    (stopped c.in-Err.stop c.in-Err.ensures.stop c.in-Err.ensures.same refl)
