use Rattle.sg_resolver.proofs.SteadyLemmas.{hour_shown}
use Rattle.sg_resolver.proofs.law.hour_shows.Goals as goal

pub returns : goal.returns
returns c = hour_shown
