-- A word is a number exactly where it is the decimal that the number is written as.
use Rattle.std.proofs.Common.{◌≡◌, ap, arith, sym, ◌∙◌}
use Rattle.std.specs.Fmt.{decimal}
use Rattle.std.proofs.lemmas.Fmt.{parse-decimal}
use Rattle.std.proofs.lemmas.Slice.Eq.{bytes_eq-Decides}
use Rattle.sg_values.proofs.number.decimal_in.Goals as goal

pub returns-in_default : goal.returns-in_default
returns-in_default c = λ n fits is. c.in_default.not-Ok n (parse-decimal 64 n c.args.word.now c.parse.result fits fits is c.parse.ensures.value.0)

pub returns-then-eq : goal.returns-then-eq
returns-then-eq c =
    let same : c.as_str.result.now ≡ c.args.word.now = (bytes_eq-Decides c.as_str.result.now c.args.word.now).0 (sym c.if-eq.ensures) in
    (omega arith, sym same ∙ (c.as_str.ensures.value ∙ c.in_ok-written.ensures.ok))

pub returns : goal.returns
returns c = λ n fits is.
    let parsed = parse-decimal 64 n c.args.word.now c.parse.result fits fits is c.parse.ensures.value.0 in
    let number : c.in-Ok.number ≡ n = cc in
    let same : c.as_str.result.now ≡ c.args.word.now = (c.as_str.ensures.value ∙ c.in_ok-written.ensures.ok) ∙ (ap decimal number ∙ sym is) in
    let equal = (bytes_eq-Decides c.as_str.result.now c.args.word.now).1 same in
    let differs = c.if-eq.ensures in
    cc
