use Rattle.sg_connection.proofs.RefusalLemmas.{bad_status}
use Rattle.sg_connection.proofs.serve.refuse.Goals as goal

pub send-requires-clause-status : goal.send-requires-clause-status
send-requires-clause-status g c = (bad_status c.requires.0 c.args.status c.requires.1).phrase

pub send-requires-clause-allow : goal.send-requires-clause-allow
send-requires-clause-allow g c = (bad_status c.requires.0 c.args.status c.requires.1).allow
