use Rattle.std.proofs.Common.{◌++◌, codes, decimal, None, Some}
use Rattle.std.proofs.lemmas.Bool.Decides.{Decides-eqb}
use Rattle.std.proofs.lemmas.Slice.Eq.{strip_prefix_is, strip_suffix_is}
use Rattle.sg_exchange.proofs.NamedLemmas.{between_is}
use Rattle.sg_exchange.proofs.named.number_after.Goals as goal

pub returns-in_default : goal.returns-in_default
returns-in_default c = λ n lt is.
    strip_prefix_is Decides-eqb c.args.bytes.now c.args.before.now None c.in_default.ensures.cases (decimal n ++ codes "}") is

pub returns : goal.returns
returns c =
    between_is c.args.bytes.now c.args.before.now c.in-Some.after.now c.in-Some-strip_suffix.digits.now c.number.result
    (strip_prefix_is Decides-eqb c.args.bytes.now c.args.before.now (Some c.in-Some.after) c.in-Some.ensures.cases)
    (strip_suffix_is Decides-eqb c.in-Some.after.now (codes "}") (Some c.in-Some-strip_suffix.digits) c.in-Some-strip_suffix.ensures.cases)
    c.number.ensures
