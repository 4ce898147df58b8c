use Rattle.std.proofs.Common.{List, ℕ, length, ◌∙◌, ap, subst}
use Rattle.std.proofs.lemmas.List.{take_at}
use Rattle.sg_exchange.specs.declared.heard.TheConstants.{REPLY_ROOM}
use Rattle.sg_exchange.specs.declared.heard.Wants.TheVariants.{Anything}
use Rattle.sg_exchange.specs.Ends.{EnrolEnds}
use Rattle.sg_exchange.specs.Heard.{outcome_at}
use Rattle.sg_exchange.specs.Requests.{enrol_request}
use Rattle.sg_exchange.proofs.HeardLemmas.{hears_as}
use Rattle.sg_exchange.proofs.asker.Asker.enrol.Goals as goal

pub returns-clause-enrolled : goal.returns-clause-enrolled
returns-clause-enrolled g c = (
  outcome_at c.ask-heard.new.reply c.ask-heard.result,
  hears_as (length c.as_mut_slice.result.now) REPLY_ROOM (g.L.Link.told c.args.link.now) (g.L.Link.told c.ask-heard.new.link) c.as_slice.result.now
      (enrol_request c.args.self.now.display c.args.self.now.key) Anything (outcome_at c.ask-heard.new.reply c.ask-heard.result)
      (ap (λ (l : List ℕ). length l) c.as_mut_slice.ensures.value ∙ c.self.invariant) (c.as_slice.ensures.value ∙ c.in_ok-request.ensures) c.ask-heard.ensures.heard,
  subst (λ (l : List ℕ). EnrolEnds (outcome_at l c.ask-heard.result) c.enrol_end.result) (c.as_slice-2.ensures.value ∙ take_at _ _ _ (c.ask-heard.ensures.len ∙ c.as_mut_slice.ensures.len)) c.enrol_end.ensures.end,
)
