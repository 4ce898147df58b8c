-- An edit, whatever it is: what holds of the server after it, and which rows stand for it.
use Rattle.std.proofs.Common.{◌≡◌, ◌≢◌, ℕ, ◌^◌, ◌<◌, nat_lt, Bool, true, false, cond, List, Option, Some, None, Result, Ok, Err, IsTrue, refl, ap, subst}
use Rattle.std.proofs.lemmas.Bool.{and_parts, ltb-true}
use Rattle.sg_base.specs.declared.kind.Kind.{Kind}
use Rattle.sg_base.specs.declared.kind.Kind.TheVariants as kind
use Rattle.sg_base.specs.Rising.{IsRising}
use Rattle.sg_base.proofs.RisingLemmas.{rising-put, rising-without}
use Rattle.sg_edits.specs.Edited.{IsOrdered, client_of, kept_tried}
use Rattle.sg_edits.proofs.EditStands.{stands_executed, stands_refused}
use Rattle.sg_edits.proofs.ServerLemmas.{server_changed}
use Rattle.sg_records.specs.declared.reply.FaultName.{FaultName}
use Rattle.sg_records.specs.declared.reply.FaultName.TheVariants as fault
use Rattle.sg_records.specs.declared.reply.Reply.{Reply}
use Rattle.sg_records.specs.declared.reply.Reply.TheVariants as reply
use Rattle.sg_records.specs.Clients.{is_id, is_row}
use Rattle.sg_steps.specs.declared.edit.Edit.{Edit}
use Rattle.sg_steps.specs.declared.edit.Edit.TheVariants as edit
use Rattle.sg_steps.specs.Calls.{AsksValid}
use Rattle.sg_steps.specs.Edits.{IsEdit}
use Rattle.sg_steps.specs.State.{Content, Core, Stands}
use Rattle.sg_steps.specs.Step.{allowed, asked, content_in, executed, tried}
use Rattle.sg_tables.specs.declared.change.TableChange.{TableChange}
use Rattle.sg_tables.specs.declared.change.TableChange.TheVariants as change
use Rattle.sg_tables.specs.Entries.{Kept, after, fresh, is_media, number_of_kept}
use Rattle.sg_tables.specs.Refusals.{refusal}
use Rattle.sg_tables.specs.Rows.{at, number_at}

-- ---- what an edit asks

-- a change that nothing refuses is the one that was asked
pub tried_ok : (rows : List Kept) (a : Result TableChange FaultName) (c : TableChange) → tried rows a ≡ Ok c → (a ≡ Ok c) × (refusal rows c ≡ None)
tried_ok rows (Err f) c e = absurd (cc)
tried_ok rows (Ok x) c e = elim (refusal rows x) as (λ r. refusal rows x ≡ r → allowed x r ≡ Ok c → ◌≡◌ {A = Result TableChange FaultName} (Ok x) (Ok c) × (refusal rows c ≡ None)) [
  | None ↦ (λ is q. let same : x ≡ c = cc in (ap (λ y. Ok y) same, subst (λ y. refusal rows y ≡ None) same is))
  | Some f ↦ (λ _ q. absurd (cc))
] refl e

small_id : (id : ℕ) → is_id id ≡ true → id < 2 ^ 32
small_id id h = let parts = and_parts (nat_lt 0 id) (nat_lt id (2 ^ 32)) h in ltb-true id (2 ^ 32) parts.1

row_kept : (k : Kind) (id : ℕ) → IsTrue (is_row k id) → (id < 2 ^ 32) × (k ≢ kind.Client)
row_kept kind.Media id h = (small_id id h, λ e. cc)
row_kept kind.Layout id h = (small_id id h, λ e. cc)
row_kept kind.Campaign id h = (small_id id h, λ e. cc)
row_kept kind.Daypart id h = (small_id id h, λ e. cc)
row_kept kind.Group id h = (small_id id h, λ e. cc)
row_kept kind.Display id h = (small_id id h, λ e. cc)
row_kept kind.Event id h = (small_id id h, λ e. cc)
row_kept kind.Client id h = absurd (cc)

pub asks_valid : (e : Edit) (c : TableChange) → IsEdit e → asked e ≡ Ok c → AsksValid c
asks_valid (edit.Insert row) c h e = let same : change.Insert row ≡ c = cc in subst AsksValid same h
asks_valid (edit.Replace row) c h e = elim (is_media row) as (λ b. is_media row ≡ b → cond b (Err fault.NoReplace) (Ok (change.Replace row)) ≡ Ok c → AsksValid c) [
  | true ↦ (λ _ q. absurd (cc))
  | false ↦ (λ is q. let same : change.Replace row ≡ c = cc in subst AsksValid same (h, is))
] refl e
asks_valid (edit.Remove kind id) c h e = let same : change.Remove kind id ≡ c = cc in subst AsksValid same (row_kept kind id h)
asks_valid (edit.Faulty fault) c h e = absurd (cc)

-- ---- what holds of the server

ordered_change : (rows : List Kept) (c : TableChange) → IsRising number_of_kept rows → IsRising number_of_kept (after rows c)
ordered_change rows (change.Insert r) up = rising-put number_of_kept (fresh r) rows up
ordered_change rows (change.Replace r) up = rising-put number_of_kept (fresh r) rows up
ordered_change rows (change.Remove k id) up = rising-without number_of_kept (number_at (at k id)) rows up

ordered_tried : (core : Core) (client seq : ℕ) (e : Edit) (r : Result TableChange Reply) → IsEdit e → tried core.rows (asked e) ≡ r → IsOrdered core → IsOrdered (executed core client seq r).core
ordered_tried core client seq e (Ok change) h is s =
    let ok = tried_ok core.rows (asked e) change is in
    let server = server_changed core change (asks_valid e change h ok.0) s.server in
    record {
      server = record { limit = server.limit; rows = server.rows; rising = server.rising; numbered = server.numbered; few = server.few };
      rising = ordered_change core.rows change s.rising;
    }
ordered_tried core client seq e (Err r) h is s = record {
  server = record { limit = s.server.limit; rows = s.server.rows; rising = s.server.rising; numbered = s.server.numbered; few = s.server.few };
  rising = s.rising;
}

pub ordered_executed : (core : Core) (client seq : ℕ) (e : Edit) → IsEdit e → IsOrdered core → IsOrdered (executed core client seq (tried core.rows (asked e))).core
ordered_executed core client seq e h s = ordered_tried core client seq e (tried core.rows (asked e)) h refl s

-- ---- which rows stand for it

tried_stands : (core : Core) (content : Content) (rows : ℕ → Option (List ℕ)) (client seq : ℕ) (e : Edit) (r : Result TableChange Reply) → client < 2 ^ 32 → IsEdit e → IsOrdered core → tried core.rows (asked e) ≡ r → Stands core content rows
    → Stands (executed core client seq r).core (content_in (executed core client seq r).core.rows content) (kept_tried core.rows client seq r rows)
tried_stands core content rows client seq e (Ok change) small h server is s =
    let ok = tried_ok core.rows (asked e) change is in
    stands_executed core content rows change (client_of client seq (reply.Done seq)) small (asks_valid e change h ok.0) server.server ok.1 s
tried_stands core content rows client seq e (Err r) small h server is s =
    stands_refused core content rows (client_of client seq r) small s

pub executed_stands : (core : Core) (content : Content) (rows : ℕ → Option (List ℕ)) (client seq : ℕ) (e : Edit) → client < 2 ^ 32 → IsEdit e → IsOrdered core → Stands core content rows
    → Stands (executed core client seq (tried core.rows (asked e))).core (content_in (executed core client seq (tried core.rows (asked e))).core.rows content) (kept_tried core.rows client seq (tried core.rows (asked e)) rows)
executed_stands core content rows client seq e small h server s =
    tried_stands core content rows client seq e (tried core.rows (asked e)) small h server refl s
