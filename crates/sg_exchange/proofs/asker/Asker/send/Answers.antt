use Rattle.std.proofs.Common.{List, ℕ, length, ◌∙◌, ap, subst}
use Rattle.std.proofs.lemmas.List.{take_at}
use Rattle.sg_exchange.specs.declared.heard.TheConstants.{REPLY_ROOM}
use Rattle.sg_exchange.specs.declared.heard.Wants.TheVariants.{Anything}
use Rattle.sg_exchange.specs.Ends.{BatchEnds}
use Rattle.sg_exchange.specs.Heard.{outcome_at}
use Rattle.sg_exchange.specs.Requests.{batch_request}
use Rattle.sg_exchange.proofs.HeardLemmas.{hears_as}
use Rattle.sg_exchange.proofs.asker.Asker.send.Goals as goal

pub returns-clause-sent : goal.returns-clause-sent
returns-clause-sent g c = (
  outcome_at c.ask-heard.new.reply c.ask-heard.result,
  hears_as (length c.as_mut_slice.result.now) REPLY_ROOM (g.L.Link.told c.args.link.now) (g.L.Link.told c.ask-heard.new.link) c.as_slice.result.now
      (batch_request c.args.self.now.display c.args.self.now.key c.args.epoch c.args.first c.args.plays.now) Anything (outcome_at c.ask-heard.new.reply c.ask-heard.result)
      (ap (λ (l : List ℕ). length l) c.as_mut_slice.ensures.value ∙ c.self.invariant) (c.as_slice.ensures.value ∙ c.in_ok-request.ensures) c.ask-heard.ensures.heard,
  subst (λ (l : List ℕ). BatchEnds c.args.first c.args.next (outcome_at l c.ask-heard.result) c.batch_end.result) (c.as_slice-2.ensures.value ∙ take_at _ _ _ (c.ask-heard.ensures.len ∙ c.as_mut_slice.ensures.len)) c.batch_end.ensures.end,
)
