-- The rows that stand for a server and its content, after an edit.
use Rattle.std.proofs.Common.{◌≡◌, ◌∙◌, ℕ, ◌^◌, ◌<◌, List, Option, Some, None, refl, sym, subst}
use Rattle.sg_base.specs.Rising.{put}
use Rattle.sg_steps.specs.Calls.{AsksValid, changed_by}
use Rattle.sg_steps.specs.State.{Content, Core, IsServer, Stands}
use Rattle.sg_steps.specs.Step.{content_in}
use Rattle.sg_edits.proofs.ServerLemmas.{server_received}
use Rattle.sg_edits.proofs.StandLemmas.{content_kept, stands_changed, stands_client}
use Rattle.sg_keeper.specs.Changes.{with_row}
use Rattle.sg_records.specs.declared.client.Client.{Client}
use Rattle.sg_records.specs.Clients.{client_number, client_text}
use Rattle.sg_tables.specs.declared.change.TableChange.{TableChange}
use Rattle.sg_tables.specs.Entries.{after}
use Rattle.sg_tables.specs.Refusals.{refusal}

pub stands_same : (core : Core) (content : Content) (rows : ℕ → Option (List ℕ)) → Stands core content rows → Stands core (content_in core.rows content) rows
stands_same core content rows s = record {
  rows = s.rows;
  content = content_kept core content core.rows rows rows (λ m low. refl) (λ n ge. refl) s.content;
}

-- an edit that is refused, with its reply kept
pub stands_refused : (core : Core) (content : Content) (rows : ℕ → Option (List ℕ)) (k : Client) → k.client < 2 ^ 32 → Stands core content rows
    → Stands (record core { clients = put client_number k core.clients }) (content_in core.rows content) (with_row (client_number k) (Some (client_text k)) rows)
stands_refused core content rows k small s =
    stands_same (record core { clients = put client_number k core.clients }) content (with_row (client_number k) (Some (client_text k)) rows) (stands_client core content rows k small s)

-- an edit that is made
pub stands_executed : (core : Core) (content : Content) (rows : ℕ → Option (List ℕ)) (c : TableChange) (k : Client) → k.client < 2 ^ 32 → AsksValid c → IsServer core → refusal core.rows c ≡ None → Stands core content rows
    → Stands (record core { rows = after core.rows c; clients = put client_number k core.clients }) (content_in (after core.rows c) content) (with_row (client_number k) (Some (client_text k)) (changed_by c core.rows rows))
stands_executed core content rows c k small asks server allowed s =
    stands_client (record core { rows = after core.rows c }) (content_in (after core.rows c) content) (changed_by c core.rows rows) k small
    (stands_changed core content rows c asks (λ id. server_received core id server) allowed s)
