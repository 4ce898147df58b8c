use Rattle.sg_api.proofs.BodyLemmas.{few_in}
use Rattle.sg_api.proofs.body.read_plays_call.Goals as goal

pub returns-clause-few : goal.returns-clause-few
returns-clause-few c = few_in _ _ c.in_ok-body.ensures.gives
