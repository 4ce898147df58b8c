-- From the parts of a message to what becomes of it.
use Rattle.std.proofs.Common.{◌≡◌, ℕ, List, Option, refl, sym, ap, subst, arith}
use Rattle.std.specs.Prelude.{Result, Err}
use Rattle.sg_answers.specs.declared.outcome.Outcome.{Outcome}
use Rattle.sg_answers.specs.Answers.{Answers}
use Rattle.sg_answers.specs.Answers.Answers.{made}
use Rattle.sg_answers.specs.Calls.{call_by}
use Rattle.sg_answers.specs.Outcomes.{IsTellable}
use Rattle.sg_api.specs.declared.server.Server.{Server}
use Rattle.sg_api.specs.Faults.{misrouted}
use Rattle.sg_api.specs.Rule.{AnsweredBy}
use Rattle.sg_api.proofs.CallLemmas.{other_known}
use Rattle.sg_http.specs.declared.message.Verb.{Verb}
use Rattle.sg_http.specs.Messages.{Opening, Request, Whole, Unfinished, Bad}
use Rattle.sg_keeper.specs.View.{View}
use Rattle.sg_loading.proofs.RunLemmas.{ran_none}
use Rattle.sg_routes.specs.declared.asked.Asked.{Asked}
use Rattle.sg_routes.specs.declared.asked.RouteFault.{RouteFault}
use Rattle.sg_routes.specs.declared.asked.RouteFault.TheVariants.{Path, Method}
use Rattle.sg_routes.specs.Asked.{ask}
use Rattle.sg_steps.specs.State.{Core}
use Rattle.sg_tables.specs.Entries.{Kept}

unmade : (operator : List ℕ) (rows : List Kept) (key : Option (List ℕ)) (body : List ℕ) (core : Core) (v : View) (f : RouteFault)
    → Answers (call_by operator rows (Err f) key body) core v (misrouted f) core v
unmade operator rows key body core v Path = made (record {
  does = refl;
  left = refl;
  rows = λ content told stands. (tt, stands);
  ran = ran_none v;
  spared = refl;
})
unmade operator rows key body core v (Method verb) = made (record {
  does = refl;
  left = refl;
  rows = λ content told stands. (tt, stands);
  ran = ran_none v;
  spared = refl;
})

pub misrouted_call : (operator : List ℕ) (rows : List Kept) (key : Option (List ℕ)) (body : List ℕ) (core : Core) (v : View) (r : Result Asked RouteFault)
    (f : RouteFault) (o : Outcome) → r ≡ Err f → o ≡ misrouted f → Answers (call_by operator rows r key body) core v o core v
misrouted_call operator rows key body core v r f o is told =
    subst (λ (x : Result Asked RouteFault). Answers (call_by operator rows x key body) core v o core v) (sym is)
    (subst (λ (x : Outcome). Answers (call_by operator rows (Err f) key body) core v x core v) (sym told) (unmade operator rows key body core v f))

tellable_by : (verb : Verb) (target : List ℕ) (f : RouteFault) → ask verb target ≡ Err f → IsTellable (misrouted f)
tellable_by verb target Path is = λ e. absurd (omega (arith, e))
tellable_by verb target (Method other) is = other_known verb other target is

pub misrouted_tellable : (verb : Verb) (target : List ℕ) (f : RouteFault) (o : Outcome) → ask verb target ≡ Err f → o ≡ misrouted f → IsTellable o
misrouted_tellable verb target f o is told = subst IsTellable (sym told) (tellable_by verb target f is)

-- ---- a message by its parts

abbrev request_in : Opening → Request → Request
request_in (Whole m used) other = m
request_in Unfinished other = other
request_in (Bad status) other = other

pub one_request : (m n : Request) (used more : ℕ) → Whole m used ≡ Whole n more → m ≡ n
one_request m n used more is = ap (λ (o : Opening). request_in o m) is

pub answered_parts : {K : Type 0} (view : K → View) (s t : Server) (k l : K) (o : Outcome) (m : Request) (operator target body : List ℕ) (key : Option (List ℕ))
    → t.gate ≡ s.gate → operator ≡ s.gate.operator → target ≡ m.target → key ≡ m.key → body ≡ m.body
    → Answers (call_by operator s.cms.rows (ask m.method target) key body) s.cms (view k) o t.cms (view l) → AnsweredBy view s k m o t l
answered_parts view s t k l o m operator target body key gate p q r w h = record {
  gate = gate;
  answers =
      subst (λ (x : List ℕ). Answers (call_by x s.cms.rows (ask m.method m.target) m.key m.body) s.cms (view k) o t.cms (view l)) p
      (subst (λ (x : List ℕ). Answers (call_by operator s.cms.rows (ask m.method x) m.key m.body) s.cms (view k) o t.cms (view l)) q
      (subst (λ (x : Option (List ℕ)). Answers (call_by operator s.cms.rows (ask m.method target) x m.body) s.cms (view k) o t.cms (view l)) r
      (subst (λ (x : List ℕ). Answers (call_by operator s.cms.rows (ask m.method target) key x) s.cms (view k) o t.cms (view l)) w h)));
}
