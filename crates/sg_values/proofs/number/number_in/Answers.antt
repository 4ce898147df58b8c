use Rattle.std.proofs.Common.{◌≡◌, ◌∙◌, arith, Some}
use Rattle.sg_values.proofs.NumberLemmas.{number_is}
use Rattle.sg_values.proofs.number.number_in.Goals as goal

pub returns-in-Some-clause-value : goal.returns-in-Some-clause-value
returns-in-Some-clause-value c = c.ranged.ensures.value ∙ number_is (Some c.in-Some.number) c.args.low c.args.high c.args.word.now (omega arith) (rw c.in-Some.is at c.in_ok-number.ensures)
