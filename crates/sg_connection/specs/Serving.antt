-- What one connection was.
use Rattle.std.specs.Prelude.{◌≡◌, ℕ, ◌+◌, ◌<◌, true, List, [], ◌∷◌, ◌++◌, length, ◌⊎◌}
use Rattle.std.specs.declared.option.Option.{Option}
use Rattle.std.specs.Io.KnownBytes.{Appends, Consumes, IsAtEnd}
use Rattle.sg_base.specs.Causes.{Rose}
use Rattle.sg_base.specs.declared.limits.TheConstants.{MAX_TAKEN}
use Rattle.sg_http.specs.Messages.{Request, Unfinished, Bad, Opens}
use Rattle.sg_http.specs.Streams.{Messages}
use Rattle.sg_outside.specs.Streams.{AppendsPart}
use Rattle.sg_connection.specs.declared.answer.Answer.{Answer}
use Rattle.sg_connection.specs.declared.serve.ConnEnd.{ConnEnd}
use Rattle.sg_connection.specs.declared.serve.ConnEnd.TheVariants.{Closed, Rest, Refused, ReadFault, WriteFault, Spent, Memory}
use Rattle.sg_connection.specs.Exchanges.{Exchange, requests, Answers, left_by, written, Open, refusal_text}
use Rattle.sg_connection.specs.Taking.{Unread}

-- one end of a connection: its bytes, where it tells them, and its count of faults
pub record Side : Type 0 where
  pub bytes : Option (List ℕ)
  pub faults : ℕ

-- both ends of a connection, and the state of what answers
pub record Scene (S : Type 0) : Type 0 where
  pub source : Side
  pub sink : Side
  pub state : S

abbrev pub scene_at : {S : Type 0} → Option (List ℕ) → ℕ → Option (List ℕ) → ℕ → S → Scene S
scene_at left taking written putting state = record {
  source = record { bytes = left; faults = taking };
  sink = record { bytes = written; faults = putting };
  state = state;
}

-- From a scene to a later one these bytes were taken, and what stood before them and they are the messages of these
-- exchanges, in a row, and then what no message has yet.
pub record Course {S : Type 0} (rule : S → Request → Answer → S → Type 0) (a b : Scene S) (u v : Unread) (taken : List ℕ) (es : List (Exchange S)) : Type 0 where
  pub took : Consumes a.source.bytes b.source.bytes taken
  pub messages : Messages (u.stream ++ taken) (requests es) v.stream
  pub answers : Answers rule a.state es
  pub state : b.state ≡ left_by a.state es
  pub total : v.total ≡ u.total + length taken

-- the answers were written whole, and then these bytes
abbrev pub Wrote : {S : Type 0} → Scene S → Scene S → List (Exchange S) → List ℕ → Type 0
Wrote a b es more = Appends a.sink.bytes b.sink.bytes (written es ++ more)

-- the last message asks to close, and no other
abbrev pub Closes : {S : Type 0} → List (Exchange S) → Type 0
Closes {S} es = (front : List (Exchange S)) × (e : Exchange S) × (es ≡ front ++ e ∷ []) × Open front × (e.request.close ≡ true)

-- a front of the answers was written, or all of them and a front of a refusal
abbrev pub BreaksOff : {S : Type 0} → Scene S → Scene S → List (Exchange S) → List ℕ → Type 0
BreaksOff a b es rest =
    AppendsPart a.sink.bytes b.sink.bytes (written es)
    ⊎ ((status : ℕ) × Open es × Opens rest (Bad status) × AppendsPart a.sink.bytes b.sink.bytes (written es ++ refusal_text status true))

-- how a connection ended
abbrev pub EndsBy : {S : Type 0} → Scene S → Scene S → List (Exchange S) → Unread → ConnEnd → Type 0
EndsBy a b es v Closed = Wrote a b es [] × (((v.stream ≡ []) × IsAtEnd b.source.bytes × Open es) ⊎ Closes es)
EndsBy a b es v (Rest n) =
    Wrote a b es [] × Open es × Opens v.stream Unfinished × IsAtEnd b.source.bytes × (n ≡ length v.stream) × (0 < n)
EndsBy a b es v (Refused status) = Wrote a b es (refusal_text status true) × Open es × Opens v.stream (Bad status)
EndsBy a b es v ReadFault = Wrote a b es [] × Open es × Opens v.stream Unfinished × Rose a.source.faults b.source.faults
EndsBy a b es v WriteFault = Rose a.sink.faults b.sink.faults × BreaksOff a b es v.stream
EndsBy a b es v Spent = Wrote a b es [] × Open es × Opens v.stream Unfinished × (v.total ≡ MAX_TAKEN)
EndsBy a b es v Memory = Wrote a b es [] × Open es

-- A connection from its beginning to its end: what was taken, the messages with their answers, and what is left.
pub record Serves {S : Type 0} (rule : S → Request → Answer → S → Type 0) (a b : Scene S) (end : ConnEnd) : Type 0 where
  pub taken : List ℕ
  pub exchanges : List (Exchange S)
  pub left : Unread
  pub course : Course rule a b (record { stream = []; total = 0 }) left taken exchanges
  pub ends : EndsBy a b exchanges left end
