use Rattle.std.proofs.Common.{ℕ, ◌+◌, ◌-◌, ◌≤◌, ◌≡◌, length, [], ◌∙◌, ap, arith}
use Rattle.sg_http.specs.Messages.{bytes_at}
use Rattle.sg_http.specs.Replies.{Answer}
use Rattle.sg_exchange.specs.declared.heard.Wants.{Wants}
use Rattle.sg_exchange.specs.Heard.{head_refusal}
use Rattle.sg_exchange.proofs.HeardLemmas.{cut_body, exact_long, whole_is}
use Rattle.sg_exchange.proofs.heard.judge.Goals as goal

pub returns-in-Some-clause-within : goal.returns-in-Some-clause-within
returns-in-Some-clause-within c = (c.in-Some.ensures.apart (length c.args.bytes.now)).0

pub returns-in-Some-clause-came : goal.returns-in-Some-clause-came
returns-in-Some-clause-came c = (c.in-Some.ensures.apart 0).1

pub returns-in-None-clause-outcome : goal.returns-in-None-clause-outcome
returns-in-None-clause-outcome c = (
  Answer c.in-Whole.status (bytes_at c.args.bytes.now c.in-Whole.body),
  c.in-Whole.ensures.reads,
  whole_is c.args.wants c.in-Whole.status c.args.bytes.now c.in-Whole.body c.in-Whole.ensures.within (c.in-None.ensures.outcome []),
)

pub returns-in-Some-clause-piece : goal.returns-in-Some-clause-piece
returns-in-Some-clause-piece c = λ n is some. c.in-Some.ensures.piece n

to_end : (from to n : ℕ) → from ≤ to → to - from ≡ n → to ≡ from + n
to_end from to n le is = omega (arith, le, is)

pub returns-in-None-clause-piece : goal.returns-in-None-clause-piece
returns-in-None-clause-piece c = λ n is some.
    let body = c.in-Whole.body in
    to_end body.from body.to n c.in-Whole.ensures.within.0
    (exact_long c.in-Whole.status n (body.to - body.from) (c.in-None.ensures.outcome [] ∙ ap (λ (w : Wants). head_refusal w c.in-Whole.status (body.to - body.from)) is))

pub returns-in-Cut-clause-piece : goal.returns-in-Cut-clause-piece
returns-in-Cut-clause-piece c = λ n is some.
    c.judge_cut.ensures.piece n is some (cut_body c.args.bytes.now c.in-Cut.status c.in-Cut.got c.in-Cut.length c.in-Cut.body c.in-Cut.ensures.within c.in-Cut.ensures.reads)
