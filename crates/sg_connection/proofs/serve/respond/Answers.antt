use Rattle.std.proofs.Common.{◌∙◌, ap}
use Rattle.sg_http.specs.Messages.{seen}
use Rattle.sg_connection.proofs.TurnLemmas.{responds_by, side_same}
use Rattle.sg_connection.proofs.serve.respond.Goals as goal

pub returns : goal.returns
returns g c m used same =
    let sent = c.send.ensures in
    responds_by _ _ _ m c.args.close c.answer-answer.result c.as_bytes.result.now c.send.result
    (c.answer-answer.ensures.answered m used (ap (λ s. seen s c.args.message.now) c.stream.ensures ∙ same))
    c.as_bytes.ensures sent.ok sent.err sent.cause (side_same _ _ sent.apart.bytes sent.apart.faults)
