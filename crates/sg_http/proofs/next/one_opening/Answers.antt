use Rattle.sg_http.proofs.Laws.{opens_one, opens_more}
use Rattle.sg_http.proofs.next.one_opening.Goals as goal

pub returns : goal.returns
returns c = record {
  one = opens_one;
  kept = opens_more;
}
