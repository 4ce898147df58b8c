use Rattle.sg_http.proofs.ReplyLaws.{reads_whole, reads_cut, reads_body, reads_front, reads_one}
use Rattle.sg_http.proofs.read_back.replies_read_back.Goals as goal

pub returns : goal.returns
returns c = record {
  whole = reads_whole;
  head = reads_cut;
  body = reads_body;
  front = reads_front;
  one = reads_one;
}
