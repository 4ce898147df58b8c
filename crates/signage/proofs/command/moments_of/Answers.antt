use Rattle.std.proofs.Common.{string_bytes}
use Rattle.signage.proofs.WordLemmas.{no_moment, are_push}
use Rattle.signage.proofs.command.moments_of.Goals as goal

pub returns-in-None : goal.returns-in-None
returns-in-None c = λ ms are.
    let refused = rw (c.in-None.is, c.as_str.ensures.value) at c.in_ok-moment.ensures in
    no_moment (λ w. string_bytes w) c.args.words.now c.loop-word.word-index c.word-item.result ms c.loop-word-test.true c.word-item.is refused are

pub loop-word-preserved : goal.loop-word-preserved
loop-word-preserved c =
    let moment = rw (c.in-Some.is, c.as_str.ensures.value) at c.in_ok-moment.ensures in
    rw c.in_ok-push-in-Some.ensures.items
    (are_push (λ w. string_bytes w) c.args.words.now c.loop-word.word-index c.word-item.result c.loop-word.moments.items c.in-Some.moment c.loop-word-test.true c.word-item.is c.loop-word.invariant moment)
