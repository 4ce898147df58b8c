-- Exchanges after others.
use Rattle.std.proofs.Common.{◌≡◌, ℕ, ◌≤◌, List, [], ◌∷◌, ◌++◌, length, drop, refl, sym, ap, ◌∙◌, subst, arith, append_assoc}
use Rattle.std.proofs.lemmas.List.{length-append, drop-append-le}
use Rattle.sg_http.specs.Messages.{Request, Whole}
use Rattle.sg_http.specs.Streams.{Messages}
use Rattle.sg_http.proofs.Laws.{opens_more}
use Rattle.sg_connection.specs.declared.answer.Answer.{Answer}
use Rattle.sg_connection.specs.Exchanges.{Exchange, requests, Answers, left_by, written, Open, answer_text}

pub left_by-append : {S : Type 0} (s : S) (es fs : List (Exchange S)) → left_by s (es ++ fs) ≡ left_by (left_by s es) fs
left_by-append s [] fs = refl
left_by-append s (e ∷ es) fs = left_by-append e.after es fs

pub written-append : {S : Type 0} (es fs : List (Exchange S)) → written (es ++ fs) ≡ written es ++ written fs
written-append [] fs = refl
written-append (e ∷ es) fs =
    ap (λ bytes. answer_text e.answer e.request.close ++ bytes) (written-append es fs)
    ∙ sym (append_assoc (answer_text e.answer e.request.close) (written es) (written fs))

pub Open-append : {S : Type 0} (es fs : List (Exchange S)) → Open es → Open fs → Open (es ++ fs)
Open-append [] fs o p = p
Open-append (e ∷ es) fs o p = (o.0, Open-append es fs o.1 p)

pub Answers-append : {S : Type 0} (rule : S → Request → Answer → S → Type 0) (s : S) (es fs : List (Exchange S))
    → Answers rule s es → Answers rule (left_by s es) fs → Answers rule s (es ++ fs)
Answers-append rule s [] fs p q = q
Answers-append rule s (e ∷ es) fs p q = (p.0, Answers-append rule e.after es fs p.1 q)

-- the messages of a stream whose rest goes on with more bytes
pub messages-append : {S : Type 0} (es fs : List (Exchange S)) (s mid more rest : List ℕ) → Open es
    → Messages s (requests es) mid → Messages (mid ++ more) (requests fs) rest → Messages (s ++ more) (requests (es ++ fs)) rest
messages-append [] fs s mid more rest o p q = subst (λ t. Messages (t ++ more) (requests fs) rest) (sym p) q
messages-append (e ∷ es) fs s mid more rest o p q =
    let used = p.0 in
    let within : used ≤ length (s ++ more) = omega (arith, p.2, length-append s more) in
    let later = messages-append es fs (drop used s) mid more rest o.1 p.4 q in (
      used,
      opens_more s more (Whole e.request used) (λ same. cc) p.1,
      within,
      (λ close. absurd (cc)),
      subst (λ t. Messages t (requests (es ++ fs)) rest) (sym (drop-append-le used s more p.2)) later,
    )
