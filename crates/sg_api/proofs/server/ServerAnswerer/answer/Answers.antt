use Rattle.sg_api.proofs.server.ServerAnswerer.answer.Goals as goal

pub returns-clause-answered : goal.returns-clause-answered
returns-clause-answered g c = λ m used is. record {
  outcome = c.outcome.result;
  tells = c.into_answer.ensures.tells;
  by = c.outcome.ensures.answered m used is;
}
