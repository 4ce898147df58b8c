use Rattle.std.proofs.Common.{sym, ◌∙◌}
use Rattle.sg_exchange.proofs.HeardLemmas.{at_200}
use Rattle.sg_exchange.proofs.heard.head_refusal.Goals as goal

pub returns-then-status-eq200-clause-outcome : goal.returns-then-status-eq200-clause-outcome
returns-then-status-eq200-clause-outcome c = λ bytes.
    c.length_refusal.ensures.outcome bytes ∙ sym (at_200 c.args.wants c.args.status c.args.length c.if-status-eq200.true)
