-- A server after a call is as it may be kept.
use Rattle.std.proofs.Common.{◌≡◌, ◌∙◌, ℕ, ◌+◌, ◌^◌, ◌<◌, nat_lt, true, false, cond, eqb, List, [], ◌∷◌, length, Option, Some, None, Result, Ok, Err, refl, ap, sym, subst, arith}
use Rattle.std.specs.List.{AllByRecursion}
use Rattle.std.proofs.lemmas.Bool.{eq-eqb, eqb-true}
use Rattle.sg_base.specs.declared.kind.Kind.TheVariants as kind
use Rattle.sg_base.specs.declared.limits.TheConstants.{MAX_CLIENTS}
use Rattle.sg_base.specs.Rising.{IsRising, put}
use Rattle.sg_base.proofs.RisingLemmas.{by_put, rising-put}
use Rattle.sg_edit_runs.specs.At.{IsKept}
use Rattle.sg_edit_runs.proofs.KeptReplies.{refused_fits}
use Rattle.sg_edits.specs.Edited.{IsOrdered}
use Rattle.sg_loading.specs.Loading.{IsLawful}
use Rattle.sg_records.specs.declared.client.Client.{Client}
use Rattle.sg_records.specs.declared.reply.Reply.{Reply}
use Rattle.sg_records.specs.declared.reply.Reply.TheVariants as reply
use Rattle.sg_records.specs.Clients.{IsClient, client_number, is_id, is_kept}
use Rattle.sg_steps.specs.declared.edit.Edit.{Edit}
use Rattle.sg_steps.specs.declared.replies.EnrolReply.{EnrolReply}
use Rattle.sg_steps.specs.Edits.{IsEdit}
use Rattle.sg_steps.specs.Epochs.{Enrolled, enrolled, enrolled_of}
use Rattle.sg_steps.specs.State.{Core}
use Rattle.sg_steps.specs.Step.{Stepped, asked, executed, given, given_in, next_of, step, stepped, tried}
use Rattle.sg_tables.specs.declared.change.TableChange.{TableChange}
use Rattle.sg_tables.specs.Entries.{Kept}
use Rattle.sg_tables.specs.Refusals.{row_at}
use Rattle.sg_tables.specs.Rows.{at}
use Rattle.std.proofs.lemmas.Bool.{lt-ltb}

-- ---- clients

abbrev AreClients : List Client → Type 0
AreClients clients = AllByRecursion IsClient clients × IsRising client_number clients

all_put : (x : Client) (xs : List Client) → IsClient x → AllByRecursion IsClient xs → AllByRecursion IsClient (put client_number x xs)
all_put x [] p a = (p, tt)
all_put x (y ∷ ys) p a = by_put client_number x y ys (AllByRecursion IsClient) (λ _. (p, a)) (λ _. (p, a.1)) (λ _. (a.0, all_put x ys p a.1))

clients_put : (x : Client) (xs : List Client) → IsClient x → AreClients xs → AreClients (put client_number x xs)
clients_put x xs p a = (all_put x xs p a.0, rising-put client_number x xs a.1)

-- a number that is executed is above 0
executed_some : (o : Option Client) (n seq : ℕ) → given o n seq ≡ None → 0 < seq
executed_some None n seq e = elim (eqb seq 1) as (λ b. eqb seq 1 ≡ b → cond b (cond (nat_lt n MAX_CLIENTS) None (Some (reply.Full kind.Client MAX_CLIENTS))) (Some (reply.Sequence 1)) ≡ None → 0 < seq) [
  | true ↦ (λ is _. let same = eqb-true seq 1 is in omega (arith, same))
  | false ↦ (λ _ h. absurd (cc))
] refl e
executed_some (Some c) n seq e = elim (eqb c.last seq) as (λ b. cond b (Some c.reply) (cond (eqb (c.last + 1) seq) None (Some (reply.Sequence (next_of c.last)))) ≡ None → 0 < seq) [
  | true ↦ (λ h. absurd (cc))
  | false ↦ (λ h. elim (eqb (c.last + 1) seq) as (λ b. eqb (c.last + 1) seq ≡ b → cond b None (Some (reply.Sequence (next_of c.last))) ≡ None → 0 < seq) [
    | true ↦ (λ is _. let same = eqb-true (c.last + 1) seq is in omega (arith, same))
    | false ↦ (λ _ q. absurd (cc))
  ] refl h)
] e

numbered : (seq : ℕ) → 0 < seq → seq < 2 ^ 32 → is_id seq ≡ true
numbered seq some fits = rw (lt-ltb 0 seq some, lt-ltb seq (2 ^ 32) fits) refl

client_valid : (client seq : ℕ) (answer : Reply) → is_id client ≡ true → is_id seq ≡ true → is_kept seq answer ≡ true → IsClient (record { client = client; last = seq; reply = answer })
client_valid client seq answer a b c = rw (a, b, c) refl

clients_tried : (core : Core) (client seq : ℕ) (e : Edit) (r : Result TableChange Reply) → is_id client ≡ true → is_id seq ≡ true → IsEdit e → IsKept core → tried core.rows (asked e) ≡ r → AreClients (executed core client seq r).core.clients
clients_tried core client seq e (Ok c) a b h s is =
    clients_put (record { client = client; last = seq; reply = reply.Done seq }) core.clients (client_valid client seq (reply.Done seq) a b (eq-eqb seq seq refl)) (s.clients, s.by_client)
clients_tried core client seq e (Err answer) a b h s is =
    clients_put (record { client = client; last = seq; reply = answer }) core.clients (client_valid client seq answer a b (refused_fits seq core.rows e answer h s.ordered.server.rows is)) (s.clients, s.by_client)

clients_stepped : (core : Core) (client seq : ℕ) (e : Edit) (o : Option Reply) → is_id client ≡ true → seq < 2 ^ 32 → IsEdit e → IsKept core → given_in core.clients client seq ≡ o → AreClients (stepped core client seq e o).core.clients
clients_stepped core client seq e (Some answer) a fits h s is = (s.clients, s.by_client)
clients_stepped core client seq e None a fits h s is =
    clients_tried core client seq e (tried core.rows (asked e)) a (numbered seq (executed_some _ (length core.clients) seq is) fits) h s refl

-- ---- servers

-- the same clients
pub kept_same : (old new : Core) → new.clients ≡ old.clients → IsOrdered new → IsKept old → IsKept new
kept_same old new same ordered s = record {
  ordered = ordered;
  clients = subst (AllByRecursion IsClient) (sym same) s.clients;
  by_client = subst (IsRising client_number) (sym same) s.by_client;
}

pub kept_edit : (old new : Core) (client seq : ℕ) (e : Edit) (answer : Reply) → is_id client ≡ true → seq < 2 ^ 32 → IsEdit e → record { core = new; reply = answer } ≡ step old client seq e → IsOrdered new → IsKept old → IsKept new
kept_edit old new client seq e answer a fits h is ordered s =
    let after = clients_stepped old client seq e (given_in old.clients client seq) a fits h s refl in
    let same : new.clients ≡ (step old client seq e).core.clients = ap (λ (x : Stepped). x.core.clients) is in
    record {
      ordered = ordered;
      clients = subst (AllByRecursion IsClient) (sym same) after.0;
      by_client = subst (IsRising client_number) (sym same) after.1;
    }

enrolled_clients : (core : Core) (display : ℕ) (o : Option Kept) → (enrolled_of core display o).core.clients ≡ core.clients
enrolled_clients core display None = refl
enrolled_clients core display (Some e) = refl

pub same_enrolled : (core : Core) (display : ℕ) → (enrolled core display).core.clients ≡ core.clients
same_enrolled core display = enrolled_clients core display (row_at (at kind.Display display) core.rows)

-- ---- the limit of plays

tried_limit : (core : Core) (client seq : ℕ) (r : Result TableChange Reply) → (executed core client seq r).core.limit ≡ core.limit
tried_limit core client seq (Ok c) = refl
tried_limit core client seq (Err answer) = refl

stepped_limit : (core : Core) (client seq : ℕ) (e : Edit) (o : Option Reply) → (stepped core client seq e o).core.limit ≡ core.limit
stepped_limit core client seq e (Some answer) = refl
stepped_limit core client seq e None = tried_limit core client seq (tried core.rows (asked e))

pub limit_edit : (old new : Core) (client seq : ℕ) (e : Edit) (answer : Reply) → record { core = new; reply = answer } ≡ step old client seq e → new.limit ≡ old.limit
limit_edit old new client seq e answer is = ap (λ (x : Stepped). x.core.limit) is ∙ stepped_limit old client seq e (given_in old.clients client seq)

enrolled_limit : (core : Core) (display : ℕ) (o : Option Kept) → (enrolled_of core display o).core.limit ≡ core.limit
enrolled_limit core display None = refl
enrolled_limit core display (Some e) = refl

pub limit_enrol : (old new : Core) (display : ℕ) (answer : EnrolReply) → record { core = new; reply = answer } ≡ enrolled old display → new.limit ≡ old.limit
limit_enrol old new display answer is = ap (λ (x : Enrolled). x.core.limit) is ∙ enrolled_limit old display (row_at (at kind.Display display) old.rows)

-- ---- a server that was loaded

pub kept_loaded : (core : Core) → IsLawful core → IsRising client_number core.clients → IsKept core
kept_loaded core h up = record {
  ordered = record { server = h.server; rising = h.rising };
  clients = h.clients;
  by_client = up;
}
