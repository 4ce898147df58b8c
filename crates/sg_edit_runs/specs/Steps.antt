-- What calls make of a server and of what its keeper has.
use Rattle.std.specs.Prelude.{◌≡◌, ◌⊎◌, ℕ, ◌≤◌, IsTrue, List, [], ◌∷◌, Option, None, length}
use Rattle.sg_base.specs.declared.limits.TheConstants.{BATCH_PLAYS}
use Rattle.sg_edit_runs.specs.declared.call.Call.{Call}
use Rattle.sg_edit_runs.specs.declared.call.Call.TheVariants as call
use Rattle.sg_edit_runs.specs.declared.call.Answer.{Answer}
use Rattle.sg_edit_runs.specs.declared.call.Answer.TheVariants as answer
use Rattle.sg_edits.specs.Media.{asked}
use Rattle.sg_edits.specs.Pieces.{Put, piece_put, with_bytes}
use Rattle.sg_records.specs.Clients.{is_id}
use Rattle.sg_steps.specs.Edits.{IsEdit}
use Rattle.sg_steps.specs.Epochs.{Added, Enrolled, enrolled, played, with_plays}
use Rattle.sg_steps.specs.State.{Content, Core}
use Rattle.sg_steps.specs.Step.{Stepped, content_in, step}

-- a server, and the bytes and plays that its keeper has
pub record State : Type 0 where
  pub core : Core
  pub content : Content

abbrev pub state : Core → Content → State
state core content = record { core = core; content = content }

-- what is asked of a call: a client has an id, its edit is as one is read, and a batch has no more plays than it may
abbrev pub IsLawful : Call → Type 0
IsLawful (call.Edit client seq edit) = IsTrue (is_id client) × IsEdit edit
IsLawful (call.Piece media offset bytes) = Unit {0}
IsLawful (call.Enrol display) = Unit {0}
IsLawful (call.Plays display epoch first list) = length list ≤ BATCH_PLAYS
IsLawful call.Load = Unit {0}

-- what a call leaves, and its answer
pub record Made : Type 0 where
  pub state : State
  pub answer : Answer

abbrev pub made_edit : Content → Stepped → Made
made_edit content s = record { state = state s.core (content_in s.core.rows content); answer = answer.Edited s.reply }

abbrev pub made_put : State → ℕ → Put → Made
made_put old media put = record {
  state = state (record old.core { rows = put.rows }) (with_bytes media put.stored old.content);
  answer = answer.Put put.reply;
}

abbrev pub made_enrolled : Content → Enrolled → Made
made_enrolled content e = record { state = state e.core content; answer = answer.Enrolled e.reply }

abbrev pub made_played : State → ℕ → ℕ → Added → Made
made_played old display epoch a = record {
  state = state (record old.core { epochs = a.epochs }) (with_plays display epoch a.added old.content);
  answer = answer.Played a.reply;
}

-- what a piece leaves of the keeper's rows is no part of a state
abbrev pub no_rows : ℕ → Option (List ℕ)
no_rows n = None

-- A call in which nothing fails: an edit, a piece, an enrolment and a batch by their definitions. A server that is loaded
-- again is the same
abbrev pub made : State → Call → Made
made old (call.Edit client seq edit) = made_edit old.content (step old.core client seq edit)
made old (call.Piece media offset bytes) =
    made_put old media.0 (piece_put (asked old.core.rows media offset bytes (old.content.bytes media.0) no_rows))
made old (call.Enrol display) = made_enrolled old.content (enrolled old.core display.0)
made old (call.Plays display epoch first list) =
    made_played old display.0 epoch (played old.core display.0 epoch first list)
made old call.Load = record { state = old; answer = answer.Loaded }

-- an answer that says why there is no other; a bad row is one of a server that is loaded
abbrev pub IsFault : Call → Answer → Type 0
IsFault c (answer.Edited reply) = ⊥
IsFault c (answer.Put reply) = ⊥
IsFault c (answer.Enrolled reply) = ⊥
IsFault c (answer.Played reply) = ⊥
IsFault c answer.Loaded = ⊥
IsFault c (answer.Failed fault) = Unit {0}
IsFault c (answer.BadRow key) = c ≡ call.Load

-- a call is made, and answered so; or a fault stands in place of its answer, and leaves all as it was
abbrev pub Step : State → Call → Answer → State → Type 0
Step old c a new = (record { state = new; answer = a } ≡ made old c) ⊎ (IsFault c a × (new ≡ old))

-- the calls lead from one state to another, each by a step with its answer
abbrev pub Runs : State → List Call → List Answer → State → Type 0
Runs start [] [] end = end ≡ start
Runs start (c ∷ cs) (a ∷ os) end = (mid : State) × Step start c a mid × Runs mid cs os end
Runs start [] (a ∷ os) end = ⊥
Runs start (c ∷ cs) [] end = ⊥
