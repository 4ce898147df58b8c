use Rattle.sg_connection.proofs.TurnLemmas.{serves_none}
use Rattle.sg_connection.proofs.serve.serve_connection.Goals as goal

pub returns-in-Err : goal.returns-in-Err
returns-in-Err g c = serves_none _ _
