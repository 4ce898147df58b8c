use Rattle.std.proofs.Common.{ap, arith}
use Rattle.sg_connection.specs.Taking.{Unread}
use Rattle.sg_connection.proofs.TurnLemmas.{far_on, far_start, serves_over}
use Rattle.sg_connection.proofs.serve.serve_by.Goals as goal

pub loop-end-init : goal.loop-end-init
loop-end-init g c = record {
  far = far_start _ _ c.new-inbox.result c.new-inbox.ensures;
  limit = omega (arith, ap (λ (u : Unread). u.total) c.new-inbox.ensures);
  room = c.requires;
}

pub loop-end-preserved : goal.loop-end-preserved
loop-end-preserved g c = record {
  far = far_on _ _ _ _ _ c.loop-end.inbox c.take_turn.new.inbox c.loop-end.invariant.far c.in-GoesOn.ensures.turns;
  limit = c.in-GoesOn.ensures.limit;
  room = omega (arith, c.loop-end.invariant.room, c.take_turn.auto.piece);
}

pub returns-in-Over : goal.returns-in-Over
returns-in-Over g c =
    serves_over _ _ _ _ c.loop-end.inbox c.take_turn.new.inbox c.in-Over.end c.loop-end.invariant.far c.in-Over.ensures.turns
