use Rattle.std.proofs.Common.{◌∙◌, [], ◌∷◌, arith, refl, subst, sym}
use Rattle.sg_base.specs.Causes.{Rose}
use Rattle.sg_outside.specs.Lists.{Grows, Loses}
use Rattle.sg_connection.proofs.VisitLemmas.{door_lost, door_shut, handed_more, handed_none}
use Rattle.sg_connection.proofs.door.serve_door.Goals as goal

pub loop-served-init : goal.loop-served-init
loop-served-init g c = record { handed = handed_none _ _ _ _ _; faults = refl }

pub loop-served-preserved : goal.loop-served-preserved
loop-served-preserved g c =
    let far = c.loop-served.invariant in
    let came = rw c.in-Ok-Some.field-0-is at c.in-Ok-Some.ensures.came in
    let conn = c.in-Ok-Some.conn in
    let gone = subst (λ x. Loses (g.N.Door.coming c.loop-served.door) x (conn ∷ [])) (sym c.in-Ok.ensures.coming) came.0 in
    let back = subst (λ x. Grows x (g.N.Door.back c.done.new.self) (c.serve_connection-end.new.conn ∷ [])) c.in-Ok-Some.ensures.back c.in-Ok.ensures.taken in
    record {
      handed = handed_more _ _ _ _ _ _ _ _ _ _ _ c.loop-served.served
          (record { came = conn; left = c.serve_connection-end.new.conn; end = c.serve_connection-end.result })
          far.handed gone back c.serve_connection-end.ensures;
      faults = c.in-Ok.ensures.cause.kept ∙ c.in-Ok-Some.ensures.cause.kept ∙ far.faults;
    }

pub returns-in-Err : goal.returns-in-Err
returns-in-Err g c =
    let far = c.loop-served.invariant in
    door_shut _ _ _ _ _ _ _ _ _ _ c.loop-served.served c.args.limit (g.N.Door.ended c.next.new.self) (g.N.Door.faults c.args.door.now)
    (g.N.Door.faults c.next.new.self) far.handed c.in-Err.ensures.kept c.in-Err.ensures.back (omega arith)
    (subst (λ n. Rose n (g.N.Door.faults c.next.new.self)) far.faults c.in-Err.ensures.cause.failed)

pub returns-in-Err-done : goal.returns-in-Err-done
returns-in-Err-done g c =
    let far = c.loop-served.invariant in
    let came = rw c.in-Ok-Some.field-0-is at c.in-Ok-Some.ensures.came in
    let conn = c.in-Ok-Some.conn in
    let gone = subst (λ x. Loses (g.N.Door.coming c.loop-served.door) x (conn ∷ [])) (sym c.in-Err-done.ensures.coming) came.0 in
    door_lost _ _ _ _ _ _ _ _ _ _ _ c.loop-served.served c.args.limit (g.N.Door.ended c.done.new.self) (g.N.Door.faults c.args.door.now)
    (g.N.Door.faults c.done.new.self) (record { came = conn; left = c.serve_connection-end.new.conn; end = c.serve_connection-end.result })
    far.handed gone (c.in-Err-done.ensures.kept ∙ c.in-Ok-Some.ensures.back) (omega arith)
    (subst (λ n. Rose n (g.N.Door.faults c.done.new.self)) (c.in-Ok-Some.ensures.cause.kept ∙ far.faults) c.in-Err-done.ensures.cause.failed)
    c.serve_connection-end.ensures
