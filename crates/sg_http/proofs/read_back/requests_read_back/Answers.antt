use Rattle.sg_http.proofs.RequestLaws.{request_read}
use Rattle.sg_http.proofs.read_back.requests_read_back.Goals as goal

pub returns : goal.returns
returns c = request_read
