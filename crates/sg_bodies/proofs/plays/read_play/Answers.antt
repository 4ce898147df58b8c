use Rattle.serde_json.specs.View.{view}
use Rattle.sg_bodies.proofs.PlayLemmas.{no_play}
use Rattle.sg_bodies.proofs.plays.read_play.Goals as goal

pub returns-then-items-ne4 : goal.returns-then-items-ne4
returns-then-items-ne4 c =
    record { gives = λ _. no_play (view c.args.value.now) c.in_ok-items.items.now c.in_ok-items.ensures c.if-items-ne4.true }
