use Rattle.sg_routes.proofs.PathLemmas.{read_back}
use Rattle.sg_routes.proofs.read_back.paths_read_back.Goals as goal

pub returns : goal.returns
returns c = read_back
