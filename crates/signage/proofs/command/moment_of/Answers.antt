-- A word is a moment exactly where it is the decimal that its number is written as.
use Rattle.std.proofs.Common.{◌≡◌, arith, sym, ap, ◌∙◌}
use Rattle.std.specs.Fmt.{decimal}
use Rattle.std.proofs.lemmas.Fmt.{parse-decimal}
use Rattle.std.proofs.lemmas.Slice.Eq.{bytes_eq-Decides}
use Rattle.signage.proofs.WordLemmas.{moment_found}
use Rattle.signage.proofs.command.moment_of.Goals as goal

pub returns-in_default : goal.returns-in_default
returns-in_default c = λ m is. c.in_default.not-Ok m (parse-decimal 32 m c.args.word.now c.parse.result (omega (arith, is.bound)) (omega (arith, is.bound)) is.is c.parse.ensures.value.0)

pub returns-then-eq : goal.returns-then-eq
returns-then-eq c =
    let same : c.as_str.result.now ≡ c.args.word.now = (bytes_eq-Decides c.as_str.result.now c.args.word.now).0 (sym c.if-eq.ensures) in
    let is : c.args.word.now ≡ decimal c.in-Ok.seconds = sym same ∙ (c.as_str.ensures.value ∙ c.in_ok-written.ensures.ok) in
    moment_found c.new.result c.args.word.now c.in-Ok.seconds (omega arith) is c.new.ensures

pub returns : goal.returns
returns c = λ m is.
    let parsed = parse-decimal 32 m c.args.word.now c.parse.result (omega (arith, is.bound)) (omega (arith, is.bound)) is.is c.parse.ensures.value.0 in
    let number : c.in-Ok.seconds ≡ m = cc in
    let same : c.as_str.result.now ≡ c.args.word.now = (c.as_str.ensures.value ∙ c.in_ok-written.ensures.ok) ∙ (ap decimal number ∙ sym is.is) in
    let equal = (bytes_eq-Decides c.as_str.result.now c.args.word.now).1 same in
    let differs = c.if-eq.ensures in
    cc
