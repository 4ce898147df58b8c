-- How far a list of calls has come.
use Rattle.std.proofs.Common.{◌≡◌, ◌∙◌, ℕ, ◌+◌, ◌<◌, true, false, cond, List, [], ◌∷◌, ◌++◌, length, take, get_or, refl, ap, sym, subst, arith}
use Rattle.std.specs.Prelude.{count_by}
use Rattle.std.proofs.lemmas.List.{take_all, take_more}
use Rattle.std.proofs.lemmas.List.Sums.{sum_by-append, sum_by-cons}
use Rattle.sg_edit_runs.specs.declared.call.Answer.{Answer}
use Rattle.sg_edit_runs.specs.declared.call.Answer.TheVariants as answer
use Rattle.sg_edit_runs.specs.declared.call.Call.{Call}
use Rattle.sg_edit_runs.specs.At.{Counts, IsAt, Leads, Tells, is_failure}
use Rattle.sg_edit_runs.specs.Steps.{Runs, State, state}
use Rattle.sg_edits.proofs.KeeperLemmas.{ran_joined, ran_none}
use Rattle.sg_keeper.specs.View.{Broke, Ran, View}
use Rattle.sg_steps.specs.declared.fault.CmsFault.TheVariants as fault
use Rattle.sg_steps.specs.State.{Content, Core}

-- ---- counts

failures_more : (answers : List Answer) (a : Answer) → count_by is_failure (answers ++ a ∷ []) ≡ count_by is_failure answers + cond (is_failure a) 1 0
failures_more answers a =
    let joined = sum_by-append (λ (x : Answer). cond (is_failure x) 1 0) answers (a ∷ []) in
    let one = sum_by-cons (λ (x : Answer). cond (is_failure x) 1 0) a [] in
    omega (arith, joined, one)

count_ran : (answers : List Answer) (a : Answer) (u v w : View) → is_failure a ≡ false → Counts answers u v → Ran 0 v w → Counts (answers ++ a ∷ []) u w
count_ran answers a u v w none c h =
    let more : count_by is_failure (answers ++ a ∷ []) ≡ count_by is_failure answers = failures_more answers a ∙ rw none (omega arith) in
    let rose = c.rose in
    let same = h.faults in
    record {
      rose = omega (arith, rose, same, more);
      ran = λ zero. ran_joined 0 0 u v w (c.ran (sym more ∙ zero)) h;
    }

count_broke : (answers : List Answer) (a : Answer) (u v w : View) → is_failure a ≡ true → Counts answers u v → Broke v w → Counts (answers ++ a ∷ []) u w
count_broke answers a u v w one c h =
    let more : count_by is_failure (answers ++ a ∷ []) ≡ count_by is_failure answers + 1 = failures_more answers a ∙ rw one refl in
    let rose = c.rose in
    let again = h.faults in
    record {
      rose = omega (arith, rose, again, more);
      ran = λ zero. absurd (omega (arith, more, zero));
    }

pub counts_more : (answers : List Answer) (a : Answer) (u v w : View) → Counts answers u v → Tells a v w → Counts (answers ++ a ∷ []) u w
counts_more answers (answer.Edited r) u v w c h = count_ran answers (answer.Edited r) u v w refl c h
counts_more answers (answer.Put r) u v w c h = count_ran answers (answer.Put r) u v w refl c h
counts_more answers (answer.Enrolled r) u v w c h = count_ran answers (answer.Enrolled r) u v w refl c h
counts_more answers (answer.Played r) u v w c h = count_ran answers (answer.Played r) u v w refl c h
counts_more answers answer.Loaded u v w c h = count_ran answers answer.Loaded u v w refl c h
counts_more answers (answer.Failed fault.Keeper) u v w c h = count_broke answers (answer.Failed fault.Keeper) u v w refl c h
counts_more answers (answer.Failed fault.Memory) u v w c h = count_ran answers (answer.Failed fault.Memory) u v w refl c h
counts_more answers (answer.BadRow key) u v w c h = count_ran answers (answer.BadRow key) u v w refl c h

-- ---- calls

-- the first i calls were made
pub record HasCome (calls : List Call) (i : ℕ) (answers : List Answer) (v w : View) (old new : Core) : Type 0 where
  pub runs : (content : Content) → IsAt v old content → (end : Content) × Runs (state old content) (take i calls) answers (state new end) × IsAt w new end
  pub counts : Counts answers v w
  pub limit : new.limit ≡ old.limit

pub come_none : (calls : List Call) (v : View) (core : Core) → HasCome calls 0 [] v v core core
come_none calls v core = record {
  runs = λ content at. (content, refl, at);
  counts = record { rose = omega arith; ran = λ _. ran_none v };
  limit = refl;
}

-- calls after others
runs_joined : (a b c : State) (xs ys : List Call) (os ps : List Answer) → Runs a xs os b → Runs b ys ps c → Runs a (xs ++ ys) (os ++ ps) c
runs_joined a b c [] ys [] ps same rest = subst (λ (s : State). Runs s ys ps c) same rest
runs_joined a b c (x ∷ xs) ys (o ∷ os) ps r rest = (r.0, r.1, runs_joined r.0 b c xs ys os ps r.2 rest)
runs_joined a b c [] ys (o ∷ os) ps r rest = absurd r
runs_joined a b c (x ∷ xs) ys [] ps r rest = absurd r

-- one call more
pub come_more : (calls : List Call) (i : ℕ) (call : Call) (answers : List Answer) (a : Answer) (u v w : View) (old mid new : Core) → i < length calls → call ≡ get_or calls i call → HasCome calls i answers u v old mid → Leads v mid call a w new → Tells a v w → new.limit ≡ mid.limit
    → HasCome calls (i + 1) (answers ++ a ∷ []) u w old new
come_more calls i call answers a u v w old mid new lt is come leads tells limit = record {
  runs = λ content at.
      let p = come.runs content at in
      let q = leads p.0 p.2 in
      let more : take i calls ++ call ∷ [] ≡ take (i + 1) calls = ap (λ (x : Call). take i calls ++ x ∷ []) is ∙ sym (take_more calls i call lt) in (
        q.0,
        subst (λ (l : List Call). Runs (state old content) l (answers ++ a ∷ []) (state new q.0)) more
            (runs_joined (state old content) (state mid p.0) (state new q.0) (take i calls) (call ∷ []) answers (a ∷ []) p.1 (state new q.0, q.1, refl)),
        q.2,
      );
  counts = counts_more answers a u v w come.counts tells;
  limit = limit ∙ come.limit;
}

pub come_all : (calls : List Call) (answers : List Answer) (v w : View) (old new : Core) → HasCome calls (length calls) answers v w old new → (content : Content) → IsAt v old content → (end : Content) × Runs (state old content) calls answers (state new end) × IsAt w new end
come_all calls answers v w old new come content at =
    let p = come.runs content at in
    (p.0, subst (λ (l : List Call). Runs (state old content) l answers (state new p.0)) (take_all (length calls) calls (omega arith)) p.1, p.2)
