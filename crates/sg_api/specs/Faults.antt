-- For private clauses: how faults of calls are refused.
use Rattle.sg_answers.specs.declared.outcome.Outcome.{Outcome}
use Rattle.sg_answers.specs.declared.outcome.Outcome.TheVariants.{Said, OtherMethod}
use Rattle.sg_bodies.specs.declared.body.BodyFault.{BodyFault}
use Rattle.sg_bodies.specs.declared.body.BodyFault.TheVariants as body
use Rattle.sg_keeper.specs.declared.keeper.KeeperFail.{KeeperFail}
use Rattle.sg_keeper.specs.declared.keeper.KeeperFail.TheVariants as fail
use Rattle.sg_replies.specs.declared.refusal.Refusal.{Refusal}
use Rattle.sg_replies.specs.declared.refusal.Refusal.TheVariants as refusal
use Rattle.sg_replies.specs.declared.saying.Saying.TheVariants.{Refused}
use Rattle.sg_routes.specs.declared.asked.RouteFault.{RouteFault}
use Rattle.sg_routes.specs.declared.asked.RouteFault.TheVariants.{Path, Method}
use Rattle.sg_steps.specs.declared.fault.CmsFault.{CmsFault}
use Rattle.sg_steps.specs.declared.fault.CmsFault.TheVariants as fault

abbrev pub refusal_of_fault : CmsFault → Refusal
refusal_of_fault fault.Keeper = refusal.Keeper
refusal_of_fault fault.Memory = refusal.Memory

abbrev pub refusal_of_keeper : KeeperFail → Refusal
refusal_of_keeper fail.Failed = refusal.Keeper
refusal_of_keeper fail.Memory = refusal.Memory

abbrev pub refusal_of_body : BodyFault → Refusal
refusal_of_body body.Body = refusal.Body
refusal_of_body body.Memory = refusal.Memory

-- what a message comes to that asks for nothing that there is
abbrev pub misrouted : RouteFault → Outcome
misrouted Path = Said (Refused refusal.Path)
misrouted (Method verb) = OtherMethod verb
