use Rattle.std.proofs.Common.{◌≡◌, ◌≤◌, length, string_bytes, inl, inr, arith}
use Rattle.std.proofs.lemmas.Bool.Decides.{nat_tests}
use Rattle.signage.proofs.WordLemmas.{length-AreMoments}
use Rattle.signage.proofs.command.preview_of.Goals as goal

pub returns-then-is_empty : goal.returns-then-is_empty
returns-then-is_empty c = λ ms are.
    let many : length ms ≡ length c.args.others.now = length-AreMoments (λ w. string_bytes w) c.args.others.now ms are.moments in
    let some : 1 ≤ length ms = are.some in
    let few : length ms ≤ 1000 = are.few in
    elim c.then-is_empty.either [ inl empty ↦ grind (arith, nat_tests, c.is_empty.ensures, empty) | inr long ↦ omega (arith, long.1) ]

pub returns-in-Some : goal.returns-in-Some
returns-in-Some c =
    let are = rw c.in-Some.is at c.in_ok-moments.ensures in
    let many : length c.in-Some.moments.items ≡ length c.args.others.now = length-AreMoments (λ w. string_bytes w) c.args.others.now c.in-Some.moments.items are in
    rw c.from_vec.ensures (record {
      some = grind (arith, nat_tests, c.is_empty.ensures, c.if-is_empty.false);
      few = omega (arith, c.if-others-gt-PREVIEW_MOMENTS.false);
      moments = are;
    })
