use Rattle.sg_edit_runs.proofs.OneServer.{one_server}
use Rattle.sg_edit_runs.proofs.laws.one_server.Goals as goal

pub returns : goal.returns
returns c = one_server
