use Rattle.std.proofs.Common.{◌≡◌, ◌+◌, ◌*◌, ◌<◌, ◌∙◌, min, true, get_or, length, sym, arith, rules}
use Rattle.std.specs.Char.{is_ascii_digit, digit_value}
use borrow.Author.Tests.{tests}
use Rattle.sg_http.proofs.FieldLemmas.{digit_is, digit_passed, number_passed}
use Rattle.sg_http.proofs.text.number.Goals as goal

pub loop-i-preserved : goal.loop-i-preserved
loop-i-preserved c =
    let value = c.args.value.now in
    let i = c.loop-i.i in
    let inside : i < length value = omega arith in
    let digit : is_ascii_digit (get_or value i 0) ≡ true = search (rules, tests) in
    let next : c.min-n.result ≡ min (c.loop-i.n * 10 + digit_value (get_or value i 0)) c.args.most =
    rw (digit_is (get_or value i 0) digit) (cc) in
    record {
      cut = omega arith;
      digits = sym (digit_passed value i inside digit) ∙ c.loop-i.invariant.digits;
      value = number_passed value i c.loop-i.n c.min-n.result c.args.most inside next ∙ c.loop-i.invariant.value;
    }
