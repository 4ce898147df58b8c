use Rattle.sg_exchange.proofs.LawLemmas.{comes_once, batch_once, enrol_once}
use Rattle.sg_exchange.proofs.law.one_end.Goals as goal

pub returns : goal.returns
returns c = record { outcome = comes_once c.replies_read_back.ensures.one; batch = batch_once; enrolment = enrol_once }
