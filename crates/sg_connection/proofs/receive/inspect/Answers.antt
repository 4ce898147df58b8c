use Rattle.sg_http.proofs.JudgeLemmas.{opens_short}
use Rattle.sg_connection.proofs.TakeLemmas.{awaited_head}
use Rattle.sg_connection.proofs.receive.inspect.Goals as goal

pub returns-in-InHead : goal.returns-in-InHead
returns-in-InHead c =
    let found = c.in-InHead.ensures in
    (awaited_head c.args.stream.now c.in-InHead.progress found.0 found.1, opens_short c.args.stream.now found.0 found.2)
