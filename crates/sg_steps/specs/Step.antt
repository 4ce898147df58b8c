-- One edit: what it is answered, and the server after it.
use Rattle.std.specs.Prelude.{ℕ, ◌+◌, ◌-◌, ◌^◌, ◌==◌, nat_lt, true, false, Bool, if◌then◌else◌, List, [], Option, None, Some, is_some, length, Result, Ok, Err}
use Rattle.sg_base.specs.declared.kind.Kind.TheVariants as kind
use Rattle.sg_base.specs.declared.limits.TheConstants.{MAX_CLIENTS}
use Rattle.sg_base.specs.declared.row.Row.{Row}
use Rattle.sg_base.specs.Keys.{number}
use Rattle.sg_base.specs.Rising.{found, put}
use Rattle.sg_steps.specs.declared.edit.Edit.{Edit}
use Rattle.sg_steps.specs.declared.edit.Edit.TheVariants as edit
use Rattle.sg_steps.specs.State.{Content, Core}
use Rattle.sg_records.specs.declared.client.Client.{Client}
use Rattle.sg_records.specs.declared.reply.FaultName.{FaultName}
use Rattle.sg_records.specs.declared.reply.FaultName.TheVariants as fault
use Rattle.sg_records.specs.declared.reply.Reply.{Reply}
use Rattle.sg_records.specs.declared.reply.Reply.TheVariants as reply
use Rattle.sg_records.specs.Clients.{client_number}
use Rattle.sg_records.specs.Replies.{name_of, refused_by}
use Rattle.sg_tables.specs.declared.change.TableChange.{TableChange}
use Rattle.sg_tables.specs.declared.change.TableChange.TheVariants as change
use Rattle.sg_tables.specs.declared.change.TableRefusal.{TableRefusal}
use Rattle.sg_tables.specs.Entries.{Kept, after, is_media}
use Rattle.sg_tables.specs.Refusals.{refusal, row_at}
use Rattle.sg_tables.specs.Rows.{at}

-- ---- numbers of a client

-- the number that is expected after the last one; 0 after the greatest
abbrev pub next_of : ℕ → ℕ
next_of last = if last == 2 ^ 32 - 1 then 0 else last + 1

abbrev pub expected_of : Option Client → ℕ
expected_of None = 1
expected_of (Some c) = next_of c.last

-- the number that is expected of a client
abbrev pub expected_in : List Client → ℕ → ℕ
expected_in clients client = expected_of (found client_number (number 8 client 0) clients)

-- The answer to a number that isn't executed: that of the last edit again, or which number is expected. A new client
-- begins with 1, as long as there are not too many
abbrev pub given : Option Client → ℕ → ℕ → Option Reply
given None clients seq =
    if seq == 1 then (if nat_lt clients MAX_CLIENTS then None else Some (reply.Full kind.Client MAX_CLIENTS)) else Some (reply.Sequence 1)
given (Some c) clients seq =
    if c.last == seq then Some c.reply else (if c.last + 1 == seq then None else Some (reply.Sequence (next_of c.last)))

abbrev pub given_in : List Client → ℕ → ℕ → Option Reply
given_in clients client seq = given (found client_number (number 8 client 0) clients) (length clients) seq

-- ---- what an edit asks

-- the change that it asks for, or its own fault: no medium takes the place of another
abbrev pub asked : Edit → Result TableChange FaultName
asked (edit.Insert row) = Ok (change.Insert row)
asked (edit.Replace row) = if is_media row then Err fault.NoReplace else Ok (change.Replace row)
asked (edit.Remove kind id) = Ok (change.Remove kind id)
asked (edit.Faulty fault) = Err (name_of fault)

-- the change that nothing refuses, or the answer
abbrev pub allowed : TableChange → Option TableRefusal → Result TableChange Reply
allowed change None = Ok change
allowed change (Some fault) = Err (refused_by fault)

abbrev pub tried : List Kept → Result TableChange FaultName → Result TableChange Reply
tried rows (Err fault) = Err (reply.Invalid fault)
tried rows (Ok change) = allowed change (refusal rows change)

-- ---- the step

-- the server after a call, and its answer
pub record Stepped : Type 0 where
  pub core : Core
  pub reply : Reply

-- with an edit as a client's last one
abbrev pub answered : Core → List Kept → ℕ → ℕ → Reply → Stepped
answered core rows client seq reply = record {
  core = record core { rows = rows; clients = put client_number (record { client = client; last = seq; reply = reply }) core.clients };
  reply = reply;
}

abbrev pub executed : Core → ℕ → ℕ → Result TableChange Reply → Stepped
executed core client seq (Ok change) = answered core (after core.rows change) client seq (reply.Done seq)
executed core client seq (Err reply) = answered core core.rows client seq reply

abbrev pub stepped : Core → ℕ → ℕ → Edit → Option Reply → Stepped
stepped core client seq edit (Some reply) = record { core = core; reply = reply }
stepped core client seq edit None = executed core client seq (tried core.rows (asked edit))

abbrev pub step : Core → ℕ → ℕ → Edit → Stepped
step core client seq edit = stepped core client seq edit (given_in core.clients client seq)

-- ---- the content after an edit

-- of a medium that isn't there there are no bytes
abbrev pub if_there : Option Kept → List ℕ → List ℕ
if_there None bytes = []
if_there (Some e) bytes = bytes

abbrev pub content_in : List Kept → Content → Content
content_in rows content = record content { bytes = λ m. if_there (row_at (at kind.Media m) rows) (content.bytes m) }
