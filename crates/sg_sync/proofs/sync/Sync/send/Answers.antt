use Rattle.std.proofs.Common.{IfOk, subst}
use Rattle.sg_exchange.specs.declared.heard.TheConstants.{REPLY_ROOM}
use Rattle.sg_exchange.specs.declared.heard.Wants.TheVariants.{Anything}
use Rattle.sg_exchange.specs.Asking.{Hears}
use Rattle.sg_exchange.specs.Ends.{BatchEnds}
use Rattle.sg_exchange.specs.Heard.{Outcome}
use Rattle.sg_exchange.specs.Requests.{batch_request}
use Rattle.sg_sync.specs.Steps.{Syncing}
use Rattle.sg_sync.proofs.sync.Sync.send.Goals as goal

pub returns-clause-sent : goal.returns-clause-sent
returns-clause-sent g c =
    subst (λ (v : Syncing). IfOk c.send.result (λ end. (outcome : Outcome)
    × Hears REPLY_ROOM (g.L.Link.told c.args.link.now) (g.L.Link.told c.send.new.link)
    (batch_request v.caller.display v.caller.key c.args.epoch c.args.first c.args.plays.now) Anything outcome
    × BatchEnds c.args.first c.args.next outcome end))
    c.self.view_is c.send.ensures.sent
