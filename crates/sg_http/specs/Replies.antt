-- What a player reads of the bytes of a reply.
use Rattle.std.specs.Prelude.{◌≡◌, ℕ, ◌≤◌, nat_lt, nat_le, Bool, ◌&&◌, ◌||◌, List, [], ◌∷◌, length, take, drop, map, codes, bytes_eq, if◌then◌else◌, Option, Some, None, MatchOption, MatchBool, ◌⊎◌}
use Rattle.std.specs.Str.Parse.{digits_value}
use Rattle.httparse.specs.Grammar.{ResponseHead, print_response, ReadsResponse, status_code}
use Rattle.httparse.specs.Spans.{name_and_value}
use Rattle.sg_base.specs.declared.limits.TheConstants.{MAX_FIELDS}
use Rattle.sg_http.specs.declared.reading.ReplyRead.{ReplyRead}
use Rattle.sg_http.specs.declared.reading.ReplyRead.TheVariants.{Whole, Cut, NotHttp}
use Rattle.sg_http.specs.Head.{empty_end}
use Rattle.sg_http.specs.Fields.{FieldText, values, is_absent, is_number}
use Rattle.sg_http.specs.Messages.{bytes_at, IsSpanWithin}

-- a whole reply, by its status and its body; less than one, by its status, how many bytes of the body came, how many
-- were to come, and those that came; or no reply
pub data Reading : Type 0 where
  Answer : ℕ → List ℕ → Reading
  Part : ℕ → ℕ → ℕ → List ℕ → Reading
  NoReply : Reading

-- the bytes begin with this text, as far as they go
abbrev pub agrees_with : List ℕ → List ℕ → Bool
agrees_with text bytes = bytes_eq (take (length text) bytes) (take (length bytes) text)

abbrev pub may_be_http : List ℕ → Bool
may_be_http bytes = agrees_with (codes "HTTP/1.1 ") bytes || agrees_with (codes "HTTP/1.0 ") bytes

-- the number that one value of at most ten digits gives
abbrev pub short_number : List ℕ → Option ℕ
short_number value = if is_number value && nat_le (length value) 10 then Some (digits_value 10 value) else None

abbrev pub the_length : List (List ℕ) → Option ℕ
the_length [] = None
the_length (v ∷ []) = short_number v
the_length (v ∷ w ∷ vs) = None

-- the length of the body by the fields, where they give one: the body has no coding, and one length
abbrev pub reply_length : List FieldText → Option ℕ
reply_length fields =
    if is_absent (values (codes "Transfer-Encoding") fields) then the_length (values (codes "Content-Length") fields)
    else None

-- the parts of a head that say what its reply is
pub record ReplyHeadText : Type 0 where
  pub status : ℕ
  pub fields : List FieldText
  pub used : ℕ

abbrev pub reply_head_text : ResponseHead → ReplyHeadText
reply_head_text h = record {
  status = status_code h;
  fields = map name_and_value h.fields;
  used = length (print_response h);
}

-- a reply by what comes after its head; more bytes than its body has are ignored
abbrev pub with_length : ℕ → List ℕ → Option ℕ → Reading
with_length status after None = NoReply
with_length status after (Some n) =
    if nat_lt (length after) n then Part status (length after) n after else Answer status (take n after)

abbrev pub reply_judged : ReplyHeadText → List ℕ → Reading
reply_judged h bytes = with_length h.status (drop h.used bytes) (reply_length h.fields)

-- a front of the bytes is this head, which has no more fields than are allowed
pub record IsReplyHeadOf (bytes : List ℕ) (h : ResponseHead) : Type 0 where
  pub rest : List ℕ
  pub reads : ReadsResponse bytes h rest
  pub few : length h.fields ≤ MAX_FIELDS

abbrev pub HasNoReplyHead : List ℕ → Type 0
HasNoReplyHead bytes = (h : ResponseHead) → IsReplyHeadOf bytes h → ⊥

-- the bytes up to the first empty line begin with a head of the grammar (RFC 9112, as `httparse` has it), or with none
abbrev pub ReplyHeads : List ℕ → List ℕ → Reading → Type 0
ReplyHeads front bytes reading =
    ((h : ResponseHead) × IsReplyHeadOf front h × (reading ≡ reply_judged (reply_head_text h) bytes))
    ⊎ (HasNoReplyHead front × (reading ≡ NoReply))

-- What the bytes of a reply say. Without an empty line they are a part, with status 0.
unfoldable pub Reads : List ℕ → Reading → Type 0
Reads bytes reading = MatchBool (may_be_http bytes)
    (MatchOption (empty_end bytes) (reading ≡ Part 0 (length bytes) 0 []) (λ n. ReplyHeads (take n bytes) bytes reading))
    (reading ≡ NoReply)

-- what an answer with a range says
abbrev pub read_at : List ℕ → ReplyRead → Reading
read_at bytes (Whole status body) = Answer status (bytes_at bytes body)
read_at bytes (Cut status got n body) = Part status got n (bytes_at bytes body)
read_at bytes NotHttp = NoReply

abbrev pub IsReadWithin : ℕ → ReplyRead → Type 0
IsReadWithin n (Whole status body) = IsSpanWithin n body
IsReadWithin n (Cut status got size body) = IsSpanWithin n body
IsReadWithin n NotHttp = Unit {0}
