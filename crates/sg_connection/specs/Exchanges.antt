-- Messages that are answered one after another.
use Rattle.std.specs.Prelude.{◌≡◌, ℕ, ⊤, Bool, false, List, [], ◌∷◌, ◌++◌, codes, None}
use Rattle.sg_http.specs.Messages.{Request}
use Rattle.sg_http.specs.Texts.{reply_text}
use Rattle.sg_http.specs.declared.reply.Form.TheVariants.{Json}
use Rattle.sg_connection.specs.declared.answer.Answer.{Answer}
use Rattle.sg_connection.specs.declared.answer.Body.{Body}
use Rattle.sg_connection.specs.declared.answer.Body.TheVariants.{Short, Long}

abbrev pub body_bytes : Body → List ℕ
body_bytes (Short text) = text
body_bytes (Long rows) = rows

-- the bytes of an answer, after which the connection closes or not
abbrev pub answer_text : Answer → Bool → List ℕ
answer_text a close = reply_text a.status a.form a.allow (body_bytes a.body) close

-- the bytes of a refusal of what is no message
abbrev pub refusal_text : ℕ → Bool → List ℕ
refusal_text status close = reply_text status Json None (codes "{\"refused\":\"Head\"}") close

-- what may be answered to a message in a state, and the state after it
abbrev pub Rule : Type 0 → Type 1
Rule S = S → Request → Answer → S → Type 0

-- a rule for a state of two parts
abbrev pub in_pairs : {A K : Type 0} → (A → K → Request → Answer → A → K → Type 0) → A × K → Request → Answer → A × K → Type 0
in_pairs rule s m answer t = rule s.0 s.1 m answer t.0 t.1

-- a message with its answer, and the state after it
pub record Exchange (S : Type 0) : Type 0 where
  pub request : Request
  pub answer : Answer
  pub after : S

abbrev pub requests : {S : Type 0} → List (Exchange S) → List Request
requests [] = []
requests (e ∷ es) = e.request ∷ requests es

-- from a state on each message was answered by the rule, in the state that the one before it left
abbrev pub Answers : {S : Type 0} → (S → Request → Answer → S → Type 0) → S → List (Exchange S) → Type 0
Answers rule s [] = ⊤
Answers rule s (e ∷ es) = rule s e.request e.answer e.after × Answers rule e.after es

-- the state that they leave
abbrev pub left_by : {S : Type 0} → S → List (Exchange S) → S
left_by s [] = s
left_by s (e ∷ es) = left_by e.after es

-- the bytes of the answers
abbrev pub written : {S : Type 0} → List (Exchange S) → List ℕ
written [] = []
written (e ∷ es) = answer_text e.answer e.request.close ++ written es

-- no message asks to close
abbrev pub Open : {S : Type 0} → List (Exchange S) → Type 0
Open [] = ⊤
Open (e ∷ es) = (e.request.close ≡ false) × Open es
