-- Connections that were served one after another, as one list of messages.
use Rattle.std.proofs.Common.{◌≡◌, ◌∙◌, ℕ, List, [], ◌∷◌, ◌++◌, inl, inr, refl, sym, ap, subst}
use Rattle.std.specs.declared.option.Option.{Option}
use Rattle.std.specs.Prelude.{Bool}
use Rattle.sg_api.specs.declared.server.Server.{Server}
use Rattle.sg_api.specs.Rule.{Answered}
use Rattle.sg_api.specs.Folds.{History, exchanges_of}
use Rattle.sg_api.proofs.FoldLemmas.{counted_after, gate_after, stands_after}
use Rattle.sg_connection.specs.declared.answer.Answer.{Answer}
use Rattle.sg_connection.specs.declared.door.Served.{Served}
use Rattle.sg_connection.specs.declared.door.Served.TheVariants.{Done, DoorFault}
use Rattle.sg_connection.specs.Exchanges.{Answers, Exchange, in_pairs, left_by}
use Rattle.sg_connection.specs.Serving.{Scene, Serves}
use Rattle.sg_connection.specs.Visits.{ServesDoor, Visit, Visits}
use Rattle.sg_connection.proofs.ExchangeLemmas.{Answers-append, left_by-append}
use Rattle.sg_http.specs.Messages.{Request}
use Rattle.sg_keeper.specs.View.{View}

-- messages from a state to another, each answered in the state that the one before it left
record Path {S : Type 0} (rule : S → Request → Answer → S → Type 0) (s t : S) (es : List (Exchange S)) : Type 0 where
  answers : Answers rule s es
  left : t ≡ left_by s es

path_then : {S : Type 0} (rule : S → Request → Answer → S → Type 0) (s t u : S) (es fs : List (Exchange S)) → Path rule s t es → Path rule t u fs → Path rule s u (es ++ fs)
path_then rule s t u es fs p q = record {
  answers = Answers-append rule s es fs p.answers (subst (λ x. Answers rule x fs) p.left q.answers);
  left = q.left ∙ (ap (λ x. left_by x fs) p.left ∙ sym (left_by-append s es fs));
}

-- the messages of one connection
one_path : {S C : Type 0} (rule : S → Request → Answer → S → Type 0) (scene : C → S → Scene S) → ((conn : C) (state : S) → (scene conn state).state ≡ state)
    → (s t : S) (v : Visit C) → (served : Serves rule (scene v.came s) (scene v.left t) v.end) → Path rule s t served.exchanges
one_path rule scene state s t v served = record {
  answers = subst (λ x. Answers rule x served.exchanges) (state v.came s) served.course.answers;
  left = sym (state v.left t) ∙ (served.course.state ∙ ap (λ x. left_by x served.exchanges) (state v.came s));
}

path_of : {S C : Type 0} (rule : S → Request → Answer → S → Type 0) (scene : C → S → Scene S) → ((conn : C) (state : S) → (scene conn state).state ≡ state)
    → (s t : S) (vs : List (Visit C)) → (visits : Visits rule scene s vs t) → Path rule s t (exchanges_of rule scene s vs t visits)
path_of rule scene state s t [] visits = record { answers = tt; left = visits }
path_of rule scene state s t (v ∷ vs) visits =
    path_then rule s visits.0 t visits.1.exchanges (exchanges_of rule scene visits.0 vs t visits.2) (one_path rule scene state s visits.0 v visits.1)
    (path_of rule scene state visits.0 t vs visits.2)

pub in_turn : {S C : Type 0} (rule : S → Request → Answer → S → Type 0) (scene : C → S → Scene S) → ((conn : C) (state : S) → (scene conn state).state ≡ state)
    → (s t : S) (vs : List (Visit C)) → (visits : Visits rule scene s vs t)
    → Answers rule s (exchanges_of rule scene s vs t visits) × (t ≡ left_by s (exchanges_of rule scene s vs t visits))
in_turn rule scene state s t vs visits = let p = path_of rule scene state s t vs visits in (p.answers, p.left)

-- ---- of the server

history_of : {K : Type 0} (view : K → View) (s t : Server × K) (es : List (Exchange (Server × K))) → Path (in_pairs (Answered view)) s t es → History view s.0 s.1 t.0 t.1
history_of {K = K} view s t es p =
    let h : (u : Server × K) → u ≡ left_by s es → History view s.0 s.1 u.0 u.1 = λ u is. subst (λ x. History view s.0 s.1 x.0 x.1) (sym is) (record {
      exchanges = es;
      answers = p.answers;
      left = refl;
      gate = gate_after view s es p.answers;
      stands = stands_after view s es p.answers;
      counted = counted_after view s es p.answers;
    }) in
    h t p.left

abbrev OverDoor : {K C : Type 0} → (K → View) → (C → Server × K → Scene (Server × K)) → Server × K → Server × K → Option (List C) → Option (List C)
    → Option (List C) → Option (List C) → ℕ → Bool → ℕ → ℕ → Served → Type 0
OverDoor view scene s t coming coming' back back' limit ended before now end =
    ServesDoor (in_pairs (Answered view)) scene s t coming coming' back back' limit ended before now end

pub door_history : {K C : Type 0} (view : K → View) (scene : C → Server × K → Scene (Server × K)) → ((conn : C) (state : Server × K) → (scene conn state).state ≡ state)
    → (s t : Server × K) (coming coming' back back' : Option (List C)) (limit : ℕ) (ended : Bool) (before now : ℕ) (end : Served)
    → OverDoor view scene s t coming coming' back back' limit ended before now end → History view s.0 s.1 t.0 t.1
door_history view scene state s t coming coming' back back' limit ended before now (Done n) (handed, few, over) =
    history_of view s t _ (path_of (in_pairs (Answered view)) scene state s t handed.visits handed.served)
door_history view scene state s t coming coming' back back' limit ended before now (DoorFault n) (mid, rest, handed, few, rose, inl same) =
    history_of view s t _ (subst (λ x. Path (in_pairs (Answered view)) s x (exchanges_of (in_pairs (Answered view)) scene s handed.visits mid handed.served)) (sym same.0)
    (path_of (in_pairs (Answered view)) scene state s mid handed.visits handed.served))
door_history view scene state s t coming coming' back back' limit ended before now (DoorFault n) (mid, rest, handed, few, rose, inr more) =
    history_of view s t _ (path_then (in_pairs (Answered view)) s mid t _ _ (path_of (in_pairs (Answered view)) scene state s mid handed.visits handed.served)
    (one_path (in_pairs (Answered view)) scene state mid t more.visit more.served))
