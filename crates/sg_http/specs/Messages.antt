-- What a stream of bytes begins with.
use Rattle.std.specs.Prelude.{◌≡◌, ℕ, ◌+◌, ◌<◌, ◌≤◌, nat_lt, Bool, List, length, take, drop, map, slice_range, codes, if◌then◌else◌, Option, Some, None, option_map, MatchOption, ◌⊎◌}
use Rattle.httparse.specs.Grammar.{RequestHead, print_request, ReadsRequest}
use Rattle.httparse.specs.Spans.{name_and_value}
use Rattle.sg_base.specs.declared.limits.TheConstants.{MAX_HEAD, MAX_FIELDS}
use Rattle.sg_http.specs.declared.message.Verb.{Verb}
use Rattle.sg_http.specs.declared.message.Span.{Span}
use Rattle.sg_http.specs.declared.message.Next.{Next}
use Rattle.sg_http.specs.declared.message.Next.TheVariants.{Message, NeedMore, Refused}
use Rattle.sg_http.specs.Head.{head_end}
use Rattle.sg_http.specs.Fields.{FieldText, values, first_value, length_of, verb_of, closes, fault_of}

-- a message by what its parts say, wherever they lie
pub record Request : Type 0 where
  pub method : Verb
  pub target : List ℕ
  pub key : Option (List ℕ)
  pub body : List ℕ
  pub close : Bool

-- a whole message with the number of bytes that it takes; less than one; or none, and the status of its refusal
pub data Opening : Type 0 where
  Whole : Request → ℕ → Opening
  Unfinished : Opening
  Bad : ℕ → Opening

-- the parts of a head that say what its message is; `used` is the length of the head
pub record HeadText : Type 0 where
  pub method : List ℕ
  pub target : List ℕ
  pub minor : ℕ
  pub fields : List FieldText
  pub used : ℕ

abbrev pub head_text : RequestHead → HeadText
head_text h = record {
  method = h.method;
  target = h.target;
  minor = h.minor;
  fields = map name_and_value h.fields;
  used = length (print_request h);
}

abbrev pub request_of : HeadText → List ℕ → Request
request_of h body = record {
  method = verb_of h.method;
  target = h.target;
  key = first_value (values (codes "Sign-Key") h.fields);
  body = body;
  close = closes h.method h.minor h.fields;
}

abbrev pub body_length : HeadText → ℕ
body_length h = length_of (values (codes "Content-Length") h.fields)

-- a head without a fault begins a message; the body is what comes after the head, as long as the head says
abbrev pub with_body : HeadText → List ℕ → Opening
with_body h after =
    if nat_lt (length after) (body_length h) then Unfinished
    else Whole (request_of h (take (body_length h) after)) (h.used + body_length h)

abbrev pub or_bad : Option ℕ → Opening → Opening
or_bad None opening = opening
or_bad (Some status) opening = Bad status

-- what a stream begins with whose head is this
abbrev pub judged : HeadText → List ℕ → Opening
judged h stream = or_bad (fault_of (verb_of h.method) h.minor h.fields) (with_body h (drop h.used stream))

-- a front of the bytes is this head, which has no more fields than are allowed
pub record IsHeadOf (bytes : List ℕ) (h : RequestHead) : Type 0 where
  pub rest : List ℕ
  pub reads : ReadsRequest bytes h rest
  pub few : length h.fields ≤ MAX_FIELDS

abbrev pub HasNoHead : List ℕ → Type 0
HasNoHead bytes = (h : RequestHead) → IsHeadOf bytes h → ⊥

-- The bytes up to the end of the head begin with a head of the grammar (RFC 9112, as `httparse` has it), or with none.
abbrev pub Heads : List ℕ → List ℕ → Opening → Type 0
Heads bytes stream opening =
    ((h : RequestHead) × IsHeadOf bytes h × (opening ≡ judged (head_text h) stream))
    ⊎ (HasNoHead bytes × (opening ≡ Bad 400))

-- What a stream begins with. Its head ends in the first MAX_HEAD bytes, or it is refused.
unfoldable pub Opens : List ℕ → Opening → Type 0
Opens stream opening = MatchOption (head_end (take MAX_HEAD stream))
    (opening ≡ (if nat_lt (length stream) MAX_HEAD then Unfinished else Bad 431))
    (λ end. Heads (take end stream) stream opening)

-- ---- an answer, which says by ranges where the parts of a message lie

abbrev pub bytes_at : List ℕ → Span → List ℕ
bytes_at stream span = slice_range stream span.from span.to

-- what an answer says of the stream
abbrev pub seen : List ℕ → Next → Opening
seen stream (Message method target key body close used) = Whole (record {
  method = method;
  target = bytes_at stream target;
  key = option_map (bytes_at stream) key;
  body = bytes_at stream body;
  close = close;
}) used
seen stream NeedMore = Unfinished
seen stream (Refused status) = Bad status

abbrev pub IsSpanWithin : ℕ → Span → Type 0
IsSpanWithin n span = (span.from ≤ span.to) × (span.to ≤ n)

-- the ranges of a message lie in the first n bytes, and so do its own bytes, of which there is one at least
abbrev pub IsNextWithin : ℕ → Next → Type 0
IsNextWithin n (Message method target key body close used) =
    IsSpanWithin n target × MatchOption key (Unit {0}) (IsSpanWithin n) × IsSpanWithin n body
    × (0 < used) × (used ≤ n)
IsNextWithin n NeedMore = Unit {0}
IsNextWithin n (Refused status) = Unit {0}
