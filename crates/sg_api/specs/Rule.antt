-- The rule by which the server answers.
use Rattle.std.specs.Prelude.{◌≡◌}
use Rattle.sg_answers.specs.declared.outcome.Outcome.{Outcome}
use Rattle.sg_answers.specs.Answers.{Answers}
use Rattle.sg_answers.specs.Calls.{call_of}
use Rattle.sg_answers.specs.Outcomes.{Tells}
use Rattle.sg_api.specs.declared.server.Server.{Server}
use Rattle.sg_connection.specs.declared.answer.Answer.{Answer}
use Rattle.sg_http.specs.Messages.{Request}
use Rattle.sg_keeper.specs.View.{View}

-- What a message comes to, and the server and its keeper after it. Who may ask what stays as it is.
pub record AnsweredBy {K : Type 0} (view : K → View) (s : Server) (k : K) (m : Request) (o : Outcome)
    (t : Server) (l : K) : Type 0 where
  pub gate : t.gate ≡ s.gate
  pub answers : Answers (call_of s.gate.operator s.cms.rows m) s.cms (view k) o t.cms (view l)

-- an answer tells what the message comes to
pub record Answered {K : Type 0} (view : K → View) (s : Server) (k : K) (m : Request) (a : Answer)
    (t : Server) (l : K) : Type 0 where
  pub outcome : Outcome
  pub tells : Tells a outcome
  pub by : AnsweredBy view s k m outcome t l
