-- What messages leave that were answered one after another.
use Rattle.std.specs.Prelude.{◌≡◌, ℕ, ◌+◌, ◌-◌, ◌^◌, ◌<◌, ◌≤◌, ◌==◌, ◌||◌, Bool, if◌then◌else◌, List, [], ◌∷◌, ◌++◌}
use Rattle.sg_answers.specs.Answers.{content_after, core_after, put_to}
use Rattle.sg_answers.specs.Calls.{Call, PutPiece, call_of}
use Rattle.sg_api.specs.declared.server.Server.{Server}
use Rattle.sg_api.specs.Rule.{Answered}
use Rattle.sg_connection.specs.declared.answer.Answer.{Answer}
use Rattle.sg_connection.specs.Exchanges.{Answers, Exchange, in_pairs, left_by}
use Rattle.sg_connection.specs.Serving.{Scene}
use Rattle.sg_connection.specs.Visits.{Visit, Visits}
use Rattle.sg_http.specs.Messages.{Request}
use Rattle.sg_keeper.specs.View.{View}
use Rattle.sg_steps.specs.State.{Content, Core, Stands}
use Rattle.sg_tables.specs.Entries.{Kept}

-- ---- the fold of steps

-- a server's records, and the bytes and plays that it counts
pub record World : Type 0 where
  pub core : Core
  pub content : Content

-- the rows that a piece leaves
abbrev pub rows_after : Call → World → List Kept
rows_after (PutPiece media offset bytes) w = (put_to w.core w.content media offset bytes).rows
rows_after call w = w.core.rows

abbrev pub world_after : Call → World → World
world_after call w = record {
  core = core_after call (rows_after call w) w.core;
  content = content_after call w.core w.content;
}

-- 503 and 507 stand for a step that wasn't made
abbrev pub is_fault : ℕ → Bool
is_fault status = (status == 503) || (status == 507)

-- after one message, by its answer
abbrev pub told_after : List ℕ → Request → Answer → World → World
told_after operator m a w = if is_fault a.status then w else world_after (call_of operator w.core.rows m) w

-- after messages with these answers: the steps that were made, one after another
abbrev pub folded : {S : Type 0} → List ℕ → List (Exchange S) → World → World
folded operator [] w = w
folded operator (e ∷ es) w = folded operator es (told_after operator e.request e.answer w)

-- If the keeper tells its rows and they stand for the server, they do so after the messages, and it is the fold.
abbrev pub StandsAfter : {K : Type 0} → (K → View) → Server × K → List (Exchange (Server × K)) → Type 0
StandsAfter view s es = (content : Content) → (view s.1).told → Stands s.0.cms content (view s.1).rows
    → let w = folded s.0.gate.operator es (record { core = s.0.cms; content = content }) in
    ((left_by s es).0.cms ≡ w.core) × Stands (left_by s es).0.cms w.content (view (left_by s es).1).rows

-- ---- 503

abbrev pub failed : Answer → ℕ
failed a = if a.status == 503 then 1 else 0

-- how many answers are 503
abbrev pub failures : {S : Type 0} → List (Exchange S) → ℕ
failures [] = 0
failures (e ∷ es) = failed e.answer + failures es

-- a count rose by so many at least, unless it stands at its last value
abbrev pub Counted : ℕ → ℕ → ℕ → Type 0
Counted before now n = now < 2 ^ 64 - 1 → n + before ≤ now

-- ---- connections

-- the messages of connections that were served one after another, with their answers
abbrev pub exchanges_of : {S C : Type 0} (rule : S → Request → Answer → S → Type 0) (scene : C → S → Scene S)
    (s : S) (vs : List (Visit C)) (t : S) → Visits rule scene s vs t → List (Exchange S)
exchanges_of rule scene s [] t visits = []
exchanges_of rule scene s (v ∷ vs) t visits = visits.1.exchanges ++ exchanges_of rule scene visits.0 vs t visits.2

-- from a server and its keeper to those after some messages, each answered in the state that the one before it left
pub record History {K : Type 0} (view : K → View) (s : Server) (k : K) (t : Server) (l : K) : Type 0 where
  pub exchanges : List (Exchange (Server × K))
  pub answers : Answers (in_pairs (Answered view)) (s, k) exchanges
  pub left : (t, l) ≡ left_by (s, k) exchanges
  pub gate : t.gate ≡ s.gate
  pub stands : StandsAfter view (s, k) exchanges
  pub counted : Counted (view k).faults (view l).faults (failures exchanges)
