use Rattle.sg_http.proofs.JudgeLemmas.{known_none, opens_short}
use Rattle.sg_http.proofs.next.next_message.Goals as goal

pub returns-in-InHead-clause-opens : goal.returns-in-InHead-clause-opens
returns-in-InHead-clause-opens c = opens_short c.args.stream.now c.in-InHead.ensures.0 c.in-InHead.ensures.2

pub look_at-requires : goal.look_at-requires
look_at-requires c = known_none c.args.stream.now
