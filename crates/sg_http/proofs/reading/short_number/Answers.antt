use Rattle.std.proofs.Common.{arith}
use Rattle.sg_http.proofs.DigitLemmas.{short_is}
use Rattle.sg_http.proofs.reading.short_number.Goals as goal

pub returns : goal.returns
returns c = short_is c.args.value.now c.number.result (omega arith) c.number.ensures
