use Rattle.sg_edit_runs.proofs.LawLemmas.{executed_once}
use Rattle.sg_edit_runs.proofs.laws.numbers_once.Goals as goal

pub returns : goal.returns
returns c = executed_once
