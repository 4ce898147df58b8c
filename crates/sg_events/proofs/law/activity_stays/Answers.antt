use Rattle.sg_events.proofs.EdgeLemmas.{activity_same}
use Rattle.sg_events.proofs.law.activity_stays.Goals as goal

pub returns : goal.returns
returns c = activity_same
