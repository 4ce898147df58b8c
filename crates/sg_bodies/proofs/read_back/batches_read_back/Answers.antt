use Rattle.sg_bodies.proofs.BatchLemmas.{plays_again, text_again}
use Rattle.sg_bodies.proofs.read_back.batches_read_back.Goals as goal

pub returns-clause-json : goal.returns-clause-json
returns-clause-json c = text_again

pub returns-clause-batch : goal.returns-clause-batch
returns-clause-batch c = plays_again
