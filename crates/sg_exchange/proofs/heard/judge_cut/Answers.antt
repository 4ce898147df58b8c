use Rattle.std.proofs.Common.{ℕ, ◌+◌, ◌<◌, ◌≤◌, ◌≡◌, ◌==◌, [], inl, inr, ◌∙◌, ap, arith}
use Rattle.sg_http.specs.declared.message.Span.{Span}
use Rattle.sg_exchange.specs.declared.heard.Wants.{Wants}
use Rattle.sg_http.specs.Messages.{bytes_at}
use Rattle.sg_exchange.proofs.HeardLemmas.{exact_long, not_refused}
use Rattle.sg_exchange.specs.Heard.{Cut, IsCutBody, head_refusal}
use Rattle.sg_exchange.proofs.heard.judge_cut.Goals as goal

pub returns-in-Some-clause-within : goal.returns-in-Some-clause-within
returns-in-Some-clause-within c = λ n inside. (c.in-Some.ensures.apart n).0

pub returns-in-Some-clause-came : goal.returns-in-Some-clause-came
returns-in-Some-clause-came c = (c.in-Some.ensures.apart 0).1

pub returns-in-None-clause-outcome : goal.returns-in-None-clause-outcome
returns-in-None-clause-outcome c = λ bytes.
    not_refused (c.args.length == 0) (head_refusal c.args.wants c.args.status c.args.length) (Cut c.args.got c.args.length (bytes_at bytes c.args.body))
    (c.in-None.ensures.outcome bytes)

-- what was cut has fewer bytes than are wanted
fewer : (got size n : ℕ) (body : Span) → IsCutBody got size body → (size ≡ 0 → ⊥) → size ≡ n → body.to < body.from + n
fewer got size n body (inl none) some is = absurd (some none.0)
fewer got size n body (inr part) some is = omega (arith, part.0, part.1, is)

none_there : (got size n : ℕ) (body : Span) → IsCutBody got size body → size ≡ 0 → 1 ≤ n → body.to < body.from + n
none_there got size n body (inl none) is some = omega (arith, none.1, some)
none_there got size n body (inr part) is some = absurd (omega (arith, part.0, is))

pub returns-then-length-eq0-clause-piece : goal.returns-then-length-eq0-clause-piece
returns-then-length-eq0-clause-piece c = λ n is some cut. none_there c.args.got c.args.length n c.args.body cut c.if-length-eq0.true some

pub returns-in-Some-clause-piece : goal.returns-in-Some-clause-piece
returns-in-Some-clause-piece c = λ n is some cut. c.in-Some.ensures.piece n

pub returns-in-None-clause-piece : goal.returns-in-None-clause-piece
returns-in-None-clause-piece c = λ n is some cut.
    fewer c.args.got c.args.length n c.args.body cut c.if-length-eq0.false
    (exact_long c.args.status n c.args.length (c.in-None.ensures.outcome [] ∙ ap (λ (w : Wants). head_refusal w c.args.status c.args.length) is))
