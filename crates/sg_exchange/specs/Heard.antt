-- What came of an exchange, in the order of its refusals.
use Rattle.std.specs.Prelude.{◌≡◌, ◌⊎◌, ℕ, ◌+◌, ◌<◌, ◌==◌, nat_lt, Bool, true, false, List, length, if◌then◌else◌, unwrap_or}
use Rattle.std.specs.declared.option.Option.{Option}
use Rattle.std.specs.declared.option.Option.TheVariants.{None, Some}
use Rattle.sg_http.specs.declared.message.Span.{Span}
use Rattle.sg_http.specs.Messages.{bytes_at, IsSpanWithin}
use Rattle.sg_http.specs.Replies.{Reading, Answer, Part, NoReply, Reads}
use Rattle.sg_exchange.specs.declared.heard.Wants.{Wants}
use Rattle.sg_exchange.specs.declared.heard.Wants.TheVariants.{Anything, AtMost, Exactly}
use Rattle.sg_exchange.specs.declared.heard.Heard.{Heard}
use Rattle.sg_exchange.specs.declared.heard.Heard.TheVariants as heard

-- a body that is wanted; no reply; a reply that was cut, by how many bytes of its body came, how many were to come, and
-- those that came; one of another status than 200; or one whose body has a length that isn't wanted
pub data Outcome : Type 0 where
  Whole : List ℕ → Outcome
  LinkFault : Outcome
  NotHttp : Outcome
  Cut : ℕ → ℕ → List ℕ → Outcome
  Status : ℕ → Outcome
  Length : ℕ → ℕ → Outcome

-- the length isn't wanted
abbrev pub length_refusal : Wants → ℕ → Option Outcome
length_refusal Anything n = None
length_refusal (AtMost most) n = if nat_lt most n then Some (Length n most) else None
length_refusal (Exactly wanted) n = if n == wanted then None else Some (Length n wanted)

-- Why a reply is refused by its head, which gives its status and the length of its body.
abbrev pub head_refusal : Wants → ℕ → ℕ → Option Outcome
head_refusal wants status n = if status == 200 then length_refusal wants n else Some (Status status)

-- What a reply comes to. One without a whole head has the length 0, and no other that was cut has.
abbrev pub outcome_of : Wants → Reading → Outcome
outcome_of wants NoReply = NotHttp
outcome_of wants (Answer status body) = unwrap_or (head_refusal wants status (length body)) (Whole body)
outcome_of wants (Part status got n body) =
    if n == 0 then Cut got n body else unwrap_or (head_refusal wants status n) (Cut got n body)

-- What the answer of a link comes to, the bytes that came or none where the exchange failed.
abbrev pub ComesTo : Wants → Option (List ℕ) → Outcome → Type 0
ComesTo wants None outcome = outcome ≡ LinkFault
ComesTo wants (Some bytes) outcome = (reading : Reading) × Reads bytes reading × (outcome ≡ outcome_of wants reading)

-- ---- an outcome that says by ranges where the bytes lie

abbrev pub outcome_at : List ℕ → Heard → Outcome
outcome_at bytes (heard.Whole body) = Whole (bytes_at bytes body)
outcome_at bytes heard.LinkFault = LinkFault
outcome_at bytes heard.NotHttp = NotHttp
outcome_at bytes (heard.Cut got n body) = Cut got n (bytes_at bytes body)
outcome_at bytes (heard.Status status) = Status status
outcome_at bytes (heard.Length got expected) = Length got expected

-- the ranges lie in the first n bytes
abbrev pub IsHeardWithin : ℕ → Heard → Type 0
IsHeardWithin n (heard.Whole body) = IsSpanWithin n body
IsHeardWithin n heard.LinkFault = Unit {0}
IsHeardWithin n heard.NotHttp = Unit {0}
IsHeardWithin n (heard.Cut got size body) = IsSpanWithin n body
IsHeardWithin n (heard.Status status) = Unit {0}
IsHeardWithin n (heard.Length got expected) = Unit {0}

abbrev pub is_link_fault : Heard → Bool
is_link_fault (heard.Whole body) = false
is_link_fault heard.LinkFault = true
is_link_fault heard.NotHttp = false
is_link_fault (heard.Cut got n body) = false
is_link_fault (heard.Status status) = false
is_link_fault (heard.Length got expected) = false

-- it isn't refused by its length
abbrev pub HasAnyLength : Heard → Type 0
HasAnyLength (heard.Whole body) = Unit {0}
HasAnyLength heard.LinkFault = Unit {0}
HasAnyLength heard.NotHttp = Unit {0}
HasAnyLength (heard.Cut got n body) = Unit {0}
HasAnyLength (heard.Status status) = Unit {0}
HasAnyLength (heard.Length got expected) = ⊥

-- The range of a body that was cut, of which `got` bytes came where n were to come. One cut in its head has none.
abbrev pub IsCutBody : ℕ → ℕ → Span → Type 0
IsCutBody got n body = ((n ≡ 0) × (body.to ≡ body.from)) ⊎ ((got < n) × (body.to ≡ body.from + got))

-- a body of exactly so many bytes, or one that was cut and has fewer
abbrev pub IsPiece : ℕ → Heard → Type 0
IsPiece n (heard.Whole body) = body.to ≡ body.from + n
IsPiece n heard.LinkFault = Unit {0}
IsPiece n heard.NotHttp = Unit {0}
IsPiece n (heard.Cut got size body) = body.to < body.from + n
IsPiece n (heard.Status status) = Unit {0}
IsPiece n (heard.Length got expected) = Unit {0}
