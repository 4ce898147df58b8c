-- A server of parts, what holds of every one, and the rows of its keeper after an edit.
use Rattle.std.specs.Prelude.{ℕ, List, Option, Some, None, Result, Ok, Err}
use Rattle.sg_base.specs.Rising.{IsRising}
use Rattle.sg_steps.specs.Calls.{changed_by}
use Rattle.sg_steps.specs.State.{Core, IsServer}
use Rattle.sg_keeper.specs.Changes.{with_row}
use Rattle.sg_records.specs.declared.client.Client.{Client}
use Rattle.sg_records.specs.declared.epoch.Epoch.{Epoch}
use Rattle.sg_records.specs.declared.reply.Reply.{Reply}
use Rattle.sg_records.specs.declared.reply.Reply.TheVariants.{Done}
use Rattle.sg_records.specs.Clients.{client_number, client_text}
use Rattle.sg_tables.specs.declared.change.TableChange.{TableChange}
use Rattle.sg_tables.specs.Entries.{Kept, number_of_kept}

-- a server of these parts
abbrev pub core_of : List Kept → List Client → List Epoch → ℕ → Core
core_of rows clients epochs limit = record { rows = rows; clients = clients; epochs = epochs; limit = limit }

-- what holds of every server, and that its rows stand by key
pub record IsOrdered (core : Core) : Type 0 where
  pub server : IsServer core
  pub rising : IsRising number_of_kept core.rows

-- a client with its last number and the reply to it
abbrev pub client_of : ℕ → ℕ → Reply → Client
client_of client seq reply = record { client = client; last = seq; reply = reply }

-- the keeper's rows with that of a client
abbrev pub with_client : Client → (ℕ → Option (List ℕ)) → ℕ → Option (List ℕ)
with_client known kept = with_row (client_number known) (Some (client_text known)) kept

-- the keeper's rows after an edit that is made or refused: in either case the reply is kept
abbrev pub kept_tried : List Kept → ℕ → ℕ → Result TableChange Reply → (ℕ → Option (List ℕ)) → ℕ → Option (List ℕ)
kept_tried rows client seq (Ok change) kept = with_client (client_of client seq (Done seq)) (changed_by change rows kept)
kept_tried rows client seq (Err reply) kept = with_client (client_of client seq reply) kept
