use Rattle.sg_http.proofs.Laws.{one_message}
use Rattle.sg_http.proofs.read_back.one_message.Goals as goal

pub returns : goal.returns
returns c = one_message
