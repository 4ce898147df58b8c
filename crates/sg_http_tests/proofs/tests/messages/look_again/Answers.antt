use Rattle.std.proofs.Common.{take, drop, sym, arith}
use Rattle.std.proofs.lemmas.List.{take-append-drop}
use Rattle.sg_http_tests.proofs.tests.messages.look_again.Goals as goal

pub look_at-requires-in-InHead : goal.look_at-requires-in-InHead
look_at-requires-in-InHead c =
    let stream = c.args.stream.now in
    let n = c.min.result in
    record {
      front = take n stream;
      rest = drop n stream;
      split = sym (take-append-drop n stream);
      short = omega (arith, c.in-InHead.ensures.0);
      searched = c.in-InHead.ensures.1;
    }
