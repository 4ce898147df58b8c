use Rattle.std.proofs.Common.{ℕ, List, IfOk, subst}
use Rattle.sg_exchange.specs.declared.heard.TheConstants.{REPLY_ROOM}
use Rattle.sg_exchange.specs.declared.heard.Wants.TheVariants.{Anything}
use Rattle.sg_exchange.specs.Asking.{Hears}
use Rattle.sg_exchange.specs.Ends.{EnrolEnds}
use Rattle.sg_exchange.specs.Heard.{Outcome}
use Rattle.sg_exchange.specs.Requests.{enrol_request}
use Rattle.sg_sync.proofs.sync.enrol.Goals as goal

pub returns-clause-enrolled : goal.returns-clause-enrolled
returns-clause-enrolled g c =
    subst (λ (k : List ℕ). IfOk c.enrol.result (λ end. (outcome : Outcome)
    × Hears REPLY_ROOM (g.L.Link.told c.args.link.now) (g.L.Link.told c.enrol.new.link) (enrol_request c.args.display k) Anything outcome
    × EnrolEnds outcome end))
    c.in_ok-asker.ensures.key
    (subst (λ (d : ℕ). IfOk c.enrol.result (λ end. (outcome : Outcome)
    × Hears REPLY_ROOM (g.L.Link.told c.args.link.now) (g.L.Link.told c.enrol.new.link) (enrol_request d c.in_ok-asker.asker.key) Anything outcome
    × EnrolEnds outcome end))
    c.in_ok-asker.ensures.display c.enrol.ensures.enrolled)
