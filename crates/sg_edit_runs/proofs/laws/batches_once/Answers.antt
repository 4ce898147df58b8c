use Rattle.sg_edit_runs.proofs.LawLemmas.{adds_once}
use Rattle.sg_edit_runs.proofs.laws.batches_once.Goals as goal

pub returns : goal.returns
returns c = adds_once
