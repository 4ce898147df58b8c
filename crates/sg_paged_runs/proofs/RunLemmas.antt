-- How far a list of calls has come.
use Rattle.std.proofs.Common.{◌≡◌, ℕ, zero, suc, ◌+◌, ◌<◌, ◌≤◌, List, [], ◌∷◌, ◌++◌, length, take, get_or, refl, sym, ◌∙◌, ap, subst, arith}
use Rattle.std.proofs.lemmas.List.{take_more, take_all}
use Rattle.sg_disk.specs.View.{View}
use Rattle.sg_disk.specs.Runs.{LeavesOnly}
use Rattle.sg_disk.proofs.Moments.{started, joined, weaker}
use Rattle.sg_store_state.specs.State.{State}
use Rattle.sg_paged_runs.specs.Stage.{Stage, IsAt}
use Rattle.sg_paged_runs.specs.Steps.{Step, Runs, StandsForSome}
use Rattle.sg_paged_runs.specs.declared.call.Call.{Call}

-- the first i calls were made
pub record HasCome (start : Stage) (calls : List Call) (i : ℕ) (old new : View) (s : State) : Type 0 where
  pub stage : Stage
  pub runs : Runs start (take i calls) stage
  pub at : IsAt new s stage
  pub moments : LeavesOnly (StandsForSome start calls) old new

pub come_none : (start : Stage) (calls : List Call) (v : View) (s : State) → IsAt v s start → HasCome start calls 0 v v s
come_none start calls v s at = record {
  stage = start;
  runs = refl;
  at = at;
  moments = started v (StandsForSome start calls) (λ c now. record { n = 0; stage = start; within = omega arith; runs = refl; stands = at.ready.settled.each c now });
}

-- calls behind others
runs_joined : (a b c : Stage) (xs ys : List Call) → Runs a xs b → Runs b ys c → Runs a (xs ++ ys) c
runs_joined a b c [] ys same rest = subst (λ (s : Stage). Runs s ys c) same rest
runs_joined a b c (x ∷ xs) ys (mid, step, runs) rest = (mid, step, runs_joined mid b c xs ys runs rest)

-- one call more
runs_more : (start mid end : Stage) (calls : List Call) (i : ℕ) (call : Call) → i < length calls → call ≡ get_or calls i call → Runs start (take i calls) mid → Runs mid (call ∷ []) end → Runs start (take (i + 1) calls) end
runs_more start mid end calls i call lt is runs more =
    subst (λ (l : List Call). Runs start l end) (ap (λ (x : Call). take i calls ++ x ∷ []) is ∙ sym (take_more calls i call lt)) (runs_joined start mid end (take i calls) (call ∷ []) runs more)

some_more : (start : Stage) (calls : List Call) (i : ℕ) (call : Call) (old new : View) (s : State) (c : List ℕ) → i < length calls → call ≡ get_or calls i call → (come : HasCome start calls i old new s) → StandsForSome come.stage (call ∷ []) c → StandsForSome start calls c
some_more start calls i call old new s c lt is come some = made some.n some.within some.runs
  where
    made : (n : ℕ) → n ≤ 1 → Runs come.stage (take n (call ∷ [])) some.stage → StandsForSome start calls c
    made zero le runs = record { n = i; stage = some.stage; within = omega (arith, lt); runs = subst (λ (t : Stage). Runs start (take i calls) t) (sym runs) come.runs; stands = some.stands }
    made (suc zero) le runs = record { n = i + 1; stage = some.stage; within = omega (arith, lt); runs = runs_more start come.stage some.stage calls i call lt is come.runs runs; stands = some.stands }
    made (suc (suc n)) le runs = absurd (omega (arith, le))

pub moments_more : (start : Stage) (calls : List Call) (i : ℕ) (call : Call) (old mid new : View) (s : State) → i < length calls → call ≡ get_or calls i call → HasCome start calls i old mid s → ((stage : Stage) → IsAt mid s stage → LeavesOnly (StandsForSome stage (call ∷ [])) mid new) → LeavesOnly (StandsForSome start calls) old new
moments_more start calls i call old mid new s lt is come step =
    joined old mid new (StandsForSome start calls) come.moments
    (weaker mid new (StandsForSome come.stage (call ∷ [])) (StandsForSome start calls) (λ c some. some_more start calls i call old mid s c lt is come some) (step come.stage come.at))

pub come_more : (start : Stage) (calls : List Call) (i : ℕ) (call : Call) (old mid new : View) (s t : State) → i < length calls → call ≡ get_or calls i call → HasCome start calls i old mid s → ((stage : Stage) → IsAt mid s stage → LeavesOnly (StandsForSome stage (call ∷ [])) mid new) → ((stage : Stage) → IsAt mid s stage → (next : Stage) × Step stage call next × IsAt new t next) → HasCome start calls (i + 1) old new t
come_more start calls i call old mid new s t lt is come moments stepped =
    let next = stepped come.stage come.at in
    record {
      stage = next.0;
      runs = runs_more start come.stage next.0 calls i call lt is come.runs (next.0, next.1, refl);
      at = next.2;
      moments = moments_more start calls i call old mid new s lt is come moments;
    }

pub come_all : (start : Stage) (calls : List Call) (old new : View) (s : State) → HasCome start calls (length calls) old new s → (end : Stage) × Runs start calls end × IsAt new s end
come_all start calls old new s come =
    (come.stage, subst (λ (l : List Call). Runs start l come.stage) (take_all (length calls) calls (omega arith)) come.runs, come.at)
