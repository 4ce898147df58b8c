use Rattle.std.proofs.Common.{length, take, refl, arith}
use Rattle.std.proofs.lemmas.Grind.{common_steps}
use Rattle.sg_exchange.proofs.HeardLemmas.{heard_in}
use Rattle.sg_exchange.proofs.heard.ask.Goals as goal

pub returns-in-Ok-clause-heard : goal.returns-in-Ok-clause-heard
returns-in-Ok-clause-heard g c =
    heard_in (length c.args.reply.now) (g.L.Link.told c.args.link.now) (g.L.Link.told c.exchange.new.self) c.args.request.now c.args.wants c.exchange.new.reply (take c.in-Ok.count c.exchange.new.reply) c.in-Ok.count c.judge.result
    refl (grind (arith, common_steps, c.in-Ok.ensures.within)) c.exchange.ensures.len c.in-Ok.ensures.told c.judge.ensures.outcome c.judge.ensures.within
