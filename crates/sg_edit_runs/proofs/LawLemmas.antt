-- Laws of all runs: a number is executed once, a batch adds once, and an epoch is given once.
use Rattle.std.proofs.Common.{◌≡◌, ◌∙◌, ◌⊎◌, ⊎_elim, ℕ, ◌+◌, ◌-◌, ◌^◌, ◌<◌, ◌≤◌, nat_lt, true, false, cond, List, [], ◌∷◌, length, drop, Option, Some, None, Result, Ok, Err, refl, ap, sym, subst, arith, inl, inr}
use Rattle.std.specs.List.{AllByRecursion}
use Rattle.std.proofs.lemmas.Bool.{cases_order, eq-eqb, le-ltb, ltb-false, ltb-true, ne_eqb}
use Rattle.std.proofs.lemmas.List.{drop_all, length-drop}
use Rattle.sg_base.specs.declared.ids.DisplayId.{DisplayId}
use Rattle.sg_base.specs.declared.kind.Kind.TheVariants as kind
use Rattle.sg_base.specs.declared.limits.TheConstants.{MAX_EPOCH}
use Rattle.sg_base.specs.declared.play.PlayBody.{PlayBody}
use Rattle.sg_base.specs.Keys.{number}
use Rattle.sg_base.specs.Rising.{found, put}
use Rattle.sg_base.proofs.RisingLemmas.{found-put}
use Rattle.sg_edit_runs.specs.declared.call.Answer.{Answer}
use Rattle.sg_edit_runs.specs.declared.call.Answer.TheVariants as answer
use Rattle.sg_edit_runs.specs.declared.call.Call.{Call}
use Rattle.sg_edit_runs.specs.declared.call.Call.TheVariants as call
use Rattle.sg_edit_runs.specs.Laws.{AddsOnce, IsExecutedOnce, IsGivenOnce, IsShort}
use Rattle.sg_edit_runs.specs.Steps.{Made, Runs, State, Step, made}
use Rattle.sg_records.specs.declared.client.Client.{Client}
use Rattle.sg_records.specs.declared.epoch.Epoch.{Epoch}
use Rattle.sg_records.specs.declared.reply.Reply.{Reply}
use Rattle.sg_records.specs.declared.reply.Reply.TheVariants as reply
use Rattle.sg_records.specs.Clients.{client_number}
use Rattle.sg_records.specs.Numbers.{epoch_number}
use Rattle.sg_steps.specs.declared.edit.Edit.{Edit}
use Rattle.sg_steps.specs.declared.replies.EnrolReply.{EnrolReply}
use Rattle.sg_steps.specs.declared.replies.EnrolReply.TheVariants as enrol
use Rattle.sg_steps.specs.declared.replies.PlaysReply.{PlaysReply}
use Rattle.sg_steps.specs.declared.replies.PlaysReply.TheVariants as plays
use Rattle.sg_steps.specs.Epochs.{Added, Given, added_to, batch_for, enrolled_of, epoch_with, given as given_epoch, last_epoch, new_plays, nothing_added, played}
use Rattle.sg_steps.specs.State.{Core, IsNumbered}
use Rattle.sg_steps.specs.Step.{Stepped, answered, asked, executed, given, given_in, step, stepped, tried}
use Rattle.sg_steps.proofs.EpochLemmas.{all_put, none_above}
use Rattle.sg_tables.specs.declared.change.TableChange.{TableChange}
use Rattle.sg_tables.specs.Entries.{Kept, after}
use Rattle.sg_tables.specs.Refusals.{row_at}
use Rattle.sg_tables.specs.Rows.{at}

-- ---- numbers

abbrev client_of : ℕ → ℕ → Reply → Client
client_of client seq answer = record { client = client; last = seq; reply = answer }

found_client : (client seq : ℕ) (answer : Reply) (clients : List Client) → found client_number (number 8 client 0) (put client_number (client_of client seq answer) clients) ≡ Some (client_of client seq answer)
found_client client seq answer clients =
    found-put client_number (number 8 client 0) (client_of client seq answer) clients
    ∙ rw (eq-eqb (number 8 client 0) (number 8 client 0) refl) refl

given_again : (client seq n : ℕ) (answer : Reply) (o : Option Client) → o ≡ Some (client_of client seq answer) → given o n seq ≡ Some answer
given_again client seq n answer o is = ap (λ x. given x n seq) is ∙ rw (eq-eqb seq seq refl) refl

answered_again : (core : Core) (rows : List Kept) (client seq : ℕ) (answer : Reply) (other : Edit) → step (answered core rows client seq answer).core client seq other ≡ answered core rows client seq answer
answered_again core rows client seq answer other =
    ap (stepped (answered core rows client seq answer).core client seq other)
    (given_again client seq _ answer _ (found_client client seq answer core.clients))

executed_again : (core : Core) (client seq : ℕ) (r : Result TableChange Reply) (other : Edit) → step (executed core client seq r).core client seq other ≡ executed core client seq r
executed_again core client seq (Ok c) other = answered_again core (after core.rows c) client seq (reply.Done seq) other
executed_again core client seq (Err answer) other = answered_again core core.rows client seq answer other

pub executed_once : IsExecutedOnce
executed_once core client seq edit other none =
    let is : step core client seq edit ≡ executed core client seq (tried core.rows (asked edit)) = ap (stepped core client seq edit) none in
    subst (λ (s : Stepped). step s.core client seq other ≡ s) (sym is) (executed_again core client seq (tried core.rows (asked edit)) other)

-- ---- an epoch stays, and its plays are no fewer

record Holds (display epoch least : ℕ) (epochs : List Epoch) : Type 0 where
  pub numbered : AllByRecursion IsNumbered epochs
  pub known : Epoch
  pub there : found epoch_number (number 9 display epoch) epochs ≡ Some known
  pub enough : least ≤ known.plays

holds_put : (display epoch least : ℕ) (epochs : List Epoch) (x : Epoch) → IsNumbered x → (epoch_number x ≡ number 9 display epoch → least ≤ x.plays) → Holds display epoch least epochs → Holds display epoch least (put epoch_number x epochs)
holds_put display epoch least epochs x h enough s = elim (cases_order (epoch_number x) (number 9 display epoch)) [
  | inl same ↦ record {
    numbered = all_put IsNumbered x epochs h s.numbered;
    known = x;
    there = found-put epoch_number (number 9 display epoch) x epochs ∙ rw (eq-eqb (epoch_number x) (number 9 display epoch) same) refl;
    enough = enough same;
  }
  | inr other ↦ record {
    numbered = all_put IsNumbered x epochs h s.numbered;
    known = s.known;
    there = found-put epoch_number (number 9 display epoch) x epochs ∙ (rw (ne_eqb (epoch_number x) (number 9 display epoch) (λ e. apart (epoch_number x) (number 9 display epoch) e other)) refl ∙ s.there);
    enough = s.enough;
  }
]
  where
    apart : (m n : ℕ) → m ≡ n → (m < n) ⊎ (n < m) → ⊥
    apart m n e or = ⊎_elim (λ l. omega (arith, e, l)) (λ g. omega (arith, e, g)) or

next_epoch : (n : ℕ) → n < 65535 → n + 1 < 2 ^ 32
next_epoch n h = omega arith

more_by_one : (n : ℕ) → n < n + 1
more_by_one n = omega arith

-- a new epoch is another one
holds_given : (display epoch least other : ℕ) (epochs : List Epoch) → other < 2 ^ 32 → Holds display epoch least epochs → Holds display epoch least (given_epoch other epochs).epochs
holds_given display epoch least other epochs short s = elim (nat_lt (last_epoch other epochs) MAX_EPOCH) as
    (λ b. nat_lt (last_epoch other epochs) MAX_EPOCH ≡ b → Holds display epoch least (cond {A = Given} b (record { epochs = put epoch_number (epoch_with other (last_epoch other epochs + 1) 0) epochs; reply = enrol.Epoch (last_epoch other epochs + 1) }) (record { epochs = epochs; reply = enrol.EpochsSpent })).epochs) [
      | true ↦ (λ less.
          let fits = next_epoch (last_epoch other epochs) (ltb-true (last_epoch other epochs) MAX_EPOCH less) in
          let none = none_above other (last_epoch other epochs + 1) epochs fits short s.numbered (more_by_one (last_epoch other epochs)) in
          holds_put display epoch least epochs (epoch_with other (last_epoch other epochs + 1) 0) (record { display = short; epoch = fits })
          (λ same. let gone : found epoch_number (number 9 display epoch) epochs ≡ None = ap (λ n. found epoch_number n epochs) (sym same) ∙ none in let there = s.there in absurd (cc)) s)
      | false ↦ (λ _. s)
    ] refl

holds_enrolled : (display epoch least other : ℕ) (core : Core) (o : Option Kept) → other < 2 ^ 32 → Holds display epoch least core.epochs → Holds display epoch least (enrolled_of core other o).core.epochs
holds_enrolled display epoch least other core None short s = s
holds_enrolled display epoch least other core (Some e) short s = holds_given display epoch least other core.epochs short s

holds_added : (display epoch least limit d e have : ℕ) (epochs : List Epoch) (new : List PlayBody) → d < 2 ^ 32 → e < 2 ^ 32 → (number 9 d e ≡ number 9 display epoch → least ≤ have) → Holds display epoch least epochs → Holds display epoch least (added_to limit d e epochs have new).epochs
holds_added display epoch least limit d e have epochs [] low small enough s = s
holds_added display epoch least limit d e have epochs (p ∷ ps) low small enough s = elim (nat_lt limit (have + length (p ∷ ps))) as
    (λ b. Holds display epoch least (cond {A = Added} b (nothing_added epochs (plays.PlaysFull limit)) (record { epochs = put epoch_number (epoch_with d e (have + length (p ∷ ps))) epochs; reply = plays.Next (have + length (p ∷ ps) + 1); added = p ∷ ps })).epochs) [
      | true ↦ s
      | false ↦ holds_put display epoch least epochs (epoch_with d e (have + length (p ∷ ps))) (record { display = low; epoch = small }) (λ same. let h = enough same in omega (arith, h)) s
    ]

same_known : (a b : Epoch) → ◌≡◌ {A = Option Epoch} (Some a) (Some b) → a ≡ b
same_known a b e = cc

holds_batch : (display epoch least limit d e first : ℕ) (epochs : List Epoch) (list : List PlayBody) (o : Option Epoch) → d < 2 ^ 32 → e < 2 ^ 32 → found epoch_number (number 9 d e) epochs ≡ o → Holds display epoch least epochs → Holds display epoch least (batch_for limit d e epochs first list o).epochs
holds_batch display epoch least limit d e first epochs list None low small is s = s
holds_batch display epoch least limit d e first epochs list (Some x) low small is s = elim (nat_lt (x.plays + 1) first) as
    (λ b. Holds display epoch least (cond {A = Added} b (nothing_added epochs (plays.Gap (x.plays + 1))) (added_to limit d e epochs x.plays (new_plays x.plays first list))).epochs) [
      | true ↦ s
      | false ↦ holds_added display epoch least limit d e x.plays epochs (new_plays x.plays first list) low small
          (λ same.
          let one : s.known ≡ x = same_known s.known x (sym s.there ∙ (ap (λ n. found epoch_number n epochs) (sym same) ∙ is)) in
          subst (λ (k : Epoch). least ≤ k.plays) one s.enough) s
    ]

tried_epochs : (core : Core) (client seq : ℕ) (r : Result TableChange Reply) → (executed core client seq r).core.epochs ≡ core.epochs
tried_epochs core client seq (Ok c) = refl
tried_epochs core client seq (Err answer) = refl

stepped_epochs : (core : Core) (client seq : ℕ) (edit : Edit) (o : Option Reply) → (stepped core client seq edit o).core.epochs ≡ core.epochs
stepped_epochs core client seq edit (Some answer) = refl
stepped_epochs core client seq edit None = tried_epochs core client seq (tried core.rows (asked edit))

holds_made : (display epoch least : ℕ) (old : State) (c : Call) → IsShort c → Holds display epoch least old.core.epochs → Holds display epoch least (made old c).state.core.epochs
holds_made display epoch least old (call.Edit client seq edit) short s =
    subst (Holds display epoch least) (sym (stepped_epochs old.core client seq edit (given_in old.core.clients client seq))) s
holds_made display epoch least old (call.Piece media offset bytes) short s = s
holds_made display epoch least old (call.Enrol d) short s =
    holds_enrolled display epoch least d.0 old.core (row_at (at kind.Display d.0) old.core.rows) short s
holds_made display epoch least old (call.Plays d e first list) short s =
    holds_batch display epoch least old.core.limit d.0 e first old.core.epochs list (found epoch_number (number 9 d.0 e) old.core.epochs) short.0 short.1 refl s
holds_made display epoch least old call.Load short s = s

holds_step : (display epoch least : ℕ) (old new : State) (c : Call) (a : Answer) → IsShort c → Step old c a new → Holds display epoch least old.core.epochs → Holds display epoch least new.core.epochs
holds_step display epoch least old new c a short step s = ⊎_elim
    (λ is. subst (λ (m : Made). Holds display epoch least m.state.core.epochs) (sym is) (holds_made display epoch least old c short s))
    (λ same. subst (λ (t : State). Holds display epoch least t.core.epochs) (sym same.1) s)
    step

holds_runs : (display epoch least : ℕ) (start end : State) (calls : List Call) (answers : List Answer) → AllByRecursion IsShort calls → Runs start calls answers end → Holds display epoch least start.core.epochs → Holds display epoch least end.core.epochs
holds_runs display epoch least start end [] [] short runs s = subst (λ (t : State). Holds display epoch least t.core.epochs) (sym runs) s
holds_runs display epoch least start end (c ∷ cs) (a ∷ os) short runs s =
    holds_runs display epoch least runs.0 end cs os short.1 runs.2 (holds_step display epoch least start runs.0 c a short.0 runs.1 s)
holds_runs display epoch least start end [] (a ∷ os) short runs s = absurd runs
holds_runs display epoch least start end (c ∷ cs) [] short runs s = absurd runs

-- ---- epochs are given once

-- what is found was given
last_least : (display n : ℕ) (epochs : List Epoch) → n < 2 ^ 32 → display < 2 ^ 32 → Holds display n 0 epochs → n ≤ last_epoch display epochs
last_least display n epochs fits short s = elim (cases_order (last_epoch display epochs) n) [
  | inl same ↦ omega (arith, same)
  | inr (inl less) ↦ (let gone = none_above display n epochs fits short s.numbered less in let there = s.there in absurd (cc))
  | inr (inr more) ↦ omega (arith, more)
]

-- the epoch that a display is given
record IsNext (display n : ℕ) (epochs new : List Epoch) : Type 0 where
  pub next : n ≡ last_epoch display epochs + 1
  pub fits : n < 2 ^ 32
  pub put : new ≡ put epoch_number (epoch_with display n 0) epochs

same_given : (a b : ℕ) → ◌≡◌ {A = EnrolReply} (enrol.Epoch a) (enrol.Epoch b) → a ≡ b
same_given a b e = cc

is_next : (display n : ℕ) (epochs : List Epoch) → (given_epoch display epochs).reply ≡ enrol.Epoch n → IsNext display n epochs (given_epoch display epochs).epochs
is_next display n epochs is = elim (nat_lt (last_epoch display epochs) MAX_EPOCH) as
    (λ b. nat_lt (last_epoch display epochs) MAX_EPOCH ≡ b → (cond {A = Given} b (record { epochs = put epoch_number (epoch_with display (last_epoch display epochs + 1) 0) epochs; reply = enrol.Epoch (last_epoch display epochs + 1) }) (record { epochs = epochs; reply = enrol.EpochsSpent })).reply ≡ enrol.Epoch n
    → IsNext display n epochs (cond {A = Given} b (record { epochs = put epoch_number (epoch_with display (last_epoch display epochs + 1) 0) epochs; reply = enrol.Epoch (last_epoch display epochs + 1) }) (record { epochs = epochs; reply = enrol.EpochsSpent })).epochs) [
      | true ↦ (λ less q.
          let same : last_epoch display epochs + 1 ≡ n = same_given (last_epoch display epochs + 1) n q in
          record {
            next = sym same;
            fits = subst (λ k. k < 2 ^ 32) same (next_epoch (last_epoch display epochs) (ltb-true (last_epoch display epochs) MAX_EPOCH less));
            put = ap (λ k. put epoch_number (epoch_with display k 0) epochs) same;
          })
      | false ↦ (λ _ q. absurd (cc))
    ] refl is

next_of_enrolled : (display n : ℕ) (core : Core) (o : Option Kept) → (enrolled_of core display o).reply ≡ enrol.Epoch n → IsNext display n core.epochs (enrolled_of core display o).core.epochs
next_of_enrolled display n core None is = absurd (cc)
next_of_enrolled display n core (Some e) is = is_next display n core.epochs is

same_enrolled : (a b : EnrolReply) → ◌≡◌ {A = Answer} (answer.Enrolled a) (answer.Enrolled b) → a ≡ b
same_enrolled a b e = cc

next_made : (old new : State) (display : DisplayId) (n : ℕ) → record { state = new; answer = answer.Enrolled (enrol.Epoch n) } ≡ made old (call.Enrol display) → IsNext display.0 n old.core.epochs new.core.epochs
next_made old new display n is =
    let answers = same_enrolled (enrol.Epoch n) (enrolled_of old.core display.0 (row_at (at kind.Display display.0) old.core.rows)).reply (ap (λ (m : Made). m.answer) is) in
    let next = next_of_enrolled display.0 n old.core (row_at (at kind.Display display.0) old.core.rows) (sym answers) in
    subst (IsNext display.0 n old.core.epochs) (sym (ap (λ (m : Made). m.state.core.epochs) is)) next

holds_next : (display n : ℕ) (epochs new : List Epoch) → display < 2 ^ 32 → AllByRecursion IsNumbered epochs → IsNext display n epochs new → Holds display n 0 new
holds_next display n epochs new short numbered next =
    subst (Holds display n 0) (sym next.put) (record {
      numbered = all_put IsNumbered (epoch_with display n 0) epochs (record { display = short; epoch = next.fits }) numbered;
      known = epoch_with display n 0;
      there = found-put epoch_number (number 9 display n) (epoch_with display n 0) epochs ∙ rw (eq-eqb (number 9 display n) (number 9 display n) refl) refl;
      enough = omega arith;
    })

pub given_once : IsGivenOnce
given_once start mid end last display n m calls answers short shorts numbered first runs second =
    let next = next_made start mid display n first in
    let later = next_made end last display m second in
    let holds = holds_runs display.0 n 0 mid end calls answers shorts runs (holds_next display.0 n start.core.epochs mid.core.epochs short numbered next) in
    let least = last_least display.0 n end.core.epochs next.fits short holds in
    let more = later.next in
    omega (arith, least, more)

-- ---- batches add once

-- a batch was taken: the epoch has its plays, up to the next one
record Taken (display epoch first next : ℕ) (list : List PlayBody) (epochs : List Epoch) : Type 0 where
  pub holds : Holds display epoch (next - 1) epochs
  pub some : 0 < next
  pub begun : first ≤ next
  pub whole : length list ≤ next - first

same_next : (a b : ℕ) → ◌≡◌ {A = PlaysReply} (plays.Next a) (plays.Next b) → a ≡ b
same_next a b e = cc

taken_none : (limit d e have first next : ℕ) (epochs : List Epoch) (x : Epoch) (list : List PlayBody) → AllByRecursion IsNumbered epochs → found epoch_number (number 9 d e) epochs ≡ Some x → have ≡ x.plays → first ≤ have + 1 → [] ≡ drop (have + 1 - first) list → plays.Next (have + 1) ≡ plays.Next next → Taken d e first next list epochs
taken_none limit d e have first next epochs x list numbered there has low is q =
    let same = same_next (have + 1) next q in
    let long = length-drop (have + 1 - first) list in
    let none : 0 ≡ length (drop (have + 1 - first) list) = ap length is in
    record {
      holds = record { numbered = numbered; known = x; there = there; enough = omega (arith, has, same) };
      some = omega (arith, same);
      begun = omega (arith, same, low);
      whole = omega (arith, same, low, long, none);
    }

taken_some : (d e have first next : ℕ) (epochs : List Epoch) (p : PlayBody) (ps list : List PlayBody) → d < 2 ^ 32 → e < 2 ^ 32 → AllByRecursion IsNumbered epochs → first ≤ have + 1 → (p ∷ ps) ≡ drop (have + 1 - first) list → plays.Next (have + length (p ∷ ps) + 1) ≡ plays.Next next → Taken d e first next list (put epoch_number (epoch_with d e (have + length (p ∷ ps))) epochs)
taken_some d e have first next epochs p ps list short small numbered low is q =
    let same = same_next (have + length (p ∷ ps) + 1) next q in
    let long = length-drop (have + 1 - first) list in
    let many : length (p ∷ ps) ≡ length (drop (have + 1 - first) list) = ap length is in
    record {
      holds = record {
        numbered = all_put IsNumbered (epoch_with d e (have + length (p ∷ ps))) epochs (record { display = short; epoch = small }) numbered;
        known = epoch_with d e (have + length (p ∷ ps));
        there = found-put epoch_number (number 9 d e) (epoch_with d e (have + length (p ∷ ps))) epochs ∙ rw (eq-eqb (number 9 d e) (number 9 d e) refl) refl;
        enough = omega (arith, same);
      };
      some = omega (arith, same);
      begun = omega (arith, same, low);
      whole = omega (arith, same, low, long, many);
    }

taken_added : (limit d e first next : ℕ) (epochs : List Epoch) (x : Epoch) (list new : List PlayBody) → d < 2 ^ 32 → e < 2 ^ 32 → AllByRecursion IsNumbered epochs → found epoch_number (number 9 d e) epochs ≡ Some x → first ≤ x.plays + 1 → new ≡ drop (x.plays + 1 - first) list → (added_to limit d e epochs x.plays new).reply ≡ plays.Next next → Taken d e first next list (added_to limit d e epochs x.plays new).epochs
taken_added limit d e first next epochs x list [] short small numbered there low is q = taken_none limit d e x.plays first next epochs x list numbered there refl low is q
taken_added limit d e first next epochs x list (p ∷ ps) short small numbered there low is q = elim (nat_lt limit (x.plays + length (p ∷ ps))) as
    (λ b. (cond {A = Added} b (nothing_added epochs (plays.PlaysFull limit)) (record { epochs = put epoch_number (epoch_with d e (x.plays + length (p ∷ ps))) epochs; reply = plays.Next (x.plays + length (p ∷ ps) + 1); added = p ∷ ps })).reply ≡ plays.Next next
    → Taken d e first next list (cond {A = Added} b (nothing_added epochs (plays.PlaysFull limit)) (record { epochs = put epoch_number (epoch_with d e (x.plays + length (p ∷ ps))) epochs; reply = plays.Next (x.plays + length (p ∷ ps) + 1); added = p ∷ ps })).epochs) [
      | true ↦ (λ h. absurd (cc))
      | false ↦ (λ h. taken_some d e x.plays first next epochs p ps list short small numbered low is h)
    ] q

taken_batch : (limit d e first next : ℕ) (epochs : List Epoch) (list : List PlayBody) (o : Option Epoch) → d < 2 ^ 32 → e < 2 ^ 32 → AllByRecursion IsNumbered epochs → found epoch_number (number 9 d e) epochs ≡ o → (batch_for limit d e epochs first list o).reply ≡ plays.Next next → Taken d e first next list (batch_for limit d e epochs first list o).epochs
taken_batch limit d e first next epochs list None short small numbered is q = absurd (cc)
taken_batch limit d e first next epochs list (Some x) short small numbered is q = elim (nat_lt (x.plays + 1) first) as
    (λ b. nat_lt (x.plays + 1) first ≡ b → (cond {A = Added} b (nothing_added epochs (plays.Gap (x.plays + 1))) (added_to limit d e epochs x.plays (new_plays x.plays first list))).reply ≡ plays.Next next
    → Taken d e first next list (cond {A = Added} b (nothing_added epochs (plays.Gap (x.plays + 1))) (added_to limit d e epochs x.plays (new_plays x.plays first list))).epochs) [
      | true ↦ (λ _ h. absurd (cc))
      | false ↦ (λ no h. taken_added limit d e first next epochs x list (new_plays x.plays first list) short small numbered is (ltb-false (x.plays + 1) first no) refl h)
    ] refl q

same_played : (a b : PlaysReply) → ◌≡◌ {A = Answer} (answer.Played a) (answer.Played b) → a ≡ b
same_played a b e = cc

taken_made : (old new : State) (display : DisplayId) (epoch first next : ℕ) (list : List PlayBody) → display.0 < 2 ^ 32 → epoch < 2 ^ 32 → AllByRecursion IsNumbered old.core.epochs → record { state = new; answer = answer.Played (plays.Next next) } ≡ made old (call.Plays display epoch first list) → Taken display.0 epoch first next list new.core.epochs
taken_made old new display epoch first next list short small numbered is =
    let answers = same_played (plays.Next next) (played old.core display.0 epoch first list).reply (ap (λ (m : Made). m.answer) is) in
    let taken = taken_batch old.core.limit display.0 epoch first next old.core.epochs list (found epoch_number (number 9 display.0 epoch) old.core.epochs) short small numbered refl (sym answers) in
    subst (Taken display.0 epoch first next list) (sym (ap (λ (m : Made). m.state.core.epochs) is)) taken

-- a batch whose plays an epoch has adds nothing
nothing_new : (limit d e first : ℕ) (epochs : List Epoch) (x : Epoch) (list : List PlayBody) (o : Option Epoch) → o ≡ Some x → first ≤ x.plays + 1 → length list ≤ x.plays + 1 - first → batch_for limit d e epochs first list o ≡ nothing_added epochs (plays.Next (x.plays + 1))
nothing_new limit d e first epochs x list o is low all =
    ap (batch_for limit d e epochs first list) is
    ∙ rw (le-ltb (x.plays + 1) first low, drop_all (x.plays + 1 - first) list all) refl

pub adds_once : AddsOnce
adds_once start mid end display epoch first next list calls answers short shorts numbered is runs =
    let taken = taken_made start mid display epoch first next list short.0 short.1 numbered is in
    let holds = holds_runs display.0 epoch (next - 1) mid end calls answers shorts runs taken.holds in
    let enough = holds.enough in
    let some = taken.some in
    let begun = taken.begun in
    let whole = taken.whole in (
      holds.known.plays + 1,
      omega (arith, enough, some),
      nothing_new end.core.limit display.0 epoch first end.core.epochs holds.known list (found epoch_number (number 9 display.0 epoch) end.core.epochs) holds.there (omega (arith, enough, some, begun)) (omega (arith, enough, some, begun, whole)),
    )
