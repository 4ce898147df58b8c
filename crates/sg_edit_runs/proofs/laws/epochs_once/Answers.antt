use Rattle.sg_edit_runs.proofs.LawLemmas.{given_once}
use Rattle.sg_edit_runs.proofs.laws.epochs_once.Goals as goal

pub returns : goal.returns
returns c = given_once
