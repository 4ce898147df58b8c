-- One message of a connection. For private clauses.
use Rattle.std.specs.Prelude.{◌≡◌, ℕ, ◌-◌, ◌+◌, ◌<◌, Bool, true, false, List, [], length, Result, Ok, Err, MatchResult}
use Rattle.std.specs.Io.KnownBytes.{Appends}
use Rattle.sg_base.specs.Causes.{Rose}
use Rattle.sg_base.specs.declared.limits.TheConstants.{MAX_TAKEN}
use Rattle.sg_http.specs.Messages.{Request}
use Rattle.sg_outside.specs.Streams.{AppendsPart}
use Rattle.sg_connection.specs.declared.answer.Answer.{Answer}
use Rattle.sg_connection.specs.declared.serve.ConnEnd.TheVariants.{Closed, WriteFault}
use Rattle.sg_connection.specs.declared.serve.Turn.{Turn}
use Rattle.sg_connection.specs.declared.serve.Turn.TheVariants.{GoesOn, Over}
use Rattle.sg_connection.specs.Exchanges.{Exchange, answer_text, Open}
use Rattle.sg_connection.specs.Serving.{Course, EndsBy, Scene, Wrote}
use Rattle.sg_connection.specs.Taking.{Unread}

-- A message was answered, and the answer was sent, or a front of it.
pub record Responds {S T E : Type 0} (rule : S → Request → Answer → S → Type 0) (a b : Scene S) (m : Request) (close : Bool) (result : Result T E) : Type 0 where
  pub answer : Answer
  pub answered : rule a.state m answer b.state
  pub sent : MatchResult result
      (λ _. Appends a.sink.bytes b.sink.bytes (answer_text answer close) × (b.sink.faults ≡ a.sink.faults))
      (λ _. AppendsPart a.sink.bytes b.sink.bytes (answer_text answer close) × Rose a.sink.faults b.sink.faults)
  pub source : b.source ≡ a.source

-- the turn after a message that asks to close or doesn't, by what became of its answer
abbrev pub turn_after : {T E : Type 0} → Result T E → Bool → Turn
turn_after (Err e) close = Over WriteFault
turn_after (Ok x) true = Over Closed
turn_after (Ok x) false = GoesOn

-- what is left to take or to pass
abbrev pub left_to_do : Unread → ℕ
left_to_do u = (MAX_TAKEN - u.total) + length u.stream

-- what a turn says besides its course
abbrev pub Outcome : {S : Type 0} → Scene S → Scene S → List (Exchange S) → Unread → Unread → Turn → Type 0
Outcome a b es u v GoesOn = Wrote a b es [] × Open es × (b.source.faults ≡ a.source.faults) × (b.sink.faults ≡ a.sink.faults)
    × (left_to_do v < left_to_do u)
Outcome a b es u v (Over end) = EndsBy a b es v end

-- from a scene and what was unread to those after one message or the end
pub record Turns {S : Type 0} (rule : S → Request → Answer → S → Type 0) (a b : Scene S) (u v : Unread) (turn : Turn) : Type 0 where
  pub taken : List ℕ
  pub exchanges : List (Exchange S)
  pub course : Course rule a b u v taken exchanges
  pub outcome : Outcome a b exchanges u v turn
