-- Clients of edits, each with its last number and the reply to it, and the row in which one is kept.
use Rattle.std.specs.Prelude.{ℕ, ◌^◌, ◌==◌, ◌&&◌, ◌||◌, nat_lt, not, Bool, true, false, IsTrue, List, codes}
use Rattle.serde_json.specs.Data.{Data, object, member, no_members}
use Rattle.serde_json.specs.Written.{compact_text}
use Rattle.sg_base.specs.declared.kind.Kind.{Kind}
use Rattle.sg_base.specs.declared.kind.Kind.TheVariants as kind
use Rattle.sg_base.specs.declared.limits.TheConstants.{MAX_MEDIA, MAX_MEDIA_BYTES, MAX_LAYOUTS, MAX_CAMPAIGNS, MAX_DAYPARTS, MAX_GROUPS, MAX_DISPLAYS, MAX_EVENTS}
use Rattle.sg_base.specs.Keys.{number}
use Rattle.sg_rows.specs.Text.{whole}
use Rattle.sg_records.specs.declared.client.Client.{Client}
use Rattle.sg_records.specs.declared.reply.Reply.{Reply}
use Rattle.sg_records.specs.declared.reply.Reply.TheVariants.{Done, Unknown, InUse, Exists, Full, Sequence, Invalid}
use Rattle.sg_records.specs.Replies.{reply_json, status_of}
use Rattle.sg_tables.specs.Rows.{code_of}

-- the number of the key under which a client is kept
abbrev pub client_number : Client → ℕ
client_number c = number 8 c.client 0

abbrev pub client_json : Client → Data
client_json c = object
    (member (codes "last") (whole c.last)
    (member (codes "reply") (reply_json c.reply)
    (member (codes "status") (whole (status_of c.reply)) no_members)))

-- the text of a client's row
unfoldable pub client_text : Client → List ℕ
client_text c = compact_text (client_json c)

-- ---- what is kept

abbrev pub is_id : ℕ → Bool
is_id n = nat_lt 0 n && nat_lt n (2 ^ 32)

-- a row may have this kind and this id
abbrev pub is_row : Kind → ℕ → Bool
is_row kind id = not (code_of kind == 8) && is_id id

-- a limit of this kind of rows
abbrev pub is_limit : Kind → ℕ → Bool
is_limit kind.Media limit = (limit == MAX_MEDIA) || (limit == MAX_MEDIA_BYTES)
is_limit kind.Layout limit = limit == MAX_LAYOUTS
is_limit kind.Campaign limit = limit == MAX_CAMPAIGNS
is_limit kind.Daypart limit = limit == MAX_DAYPARTS
is_limit kind.Group limit = limit == MAX_GROUPS
is_limit kind.Display limit = limit == MAX_DISPLAYS
is_limit kind.Event limit = limit == MAX_EVENTS
is_limit kind.Client limit = false

-- a reply that is kept with a client's last number: to an edit that was executed, with values that such a reply may have
abbrev pub is_kept : ℕ → Reply → Bool
is_kept last (Done seq) = seq == last
is_kept last (Unknown kind id) = is_row kind id
is_kept last (InUse kind id by_kind by_id) = is_row kind id && is_row by_kind by_id
is_kept last (Exists kind id) = is_row kind id
is_kept last (Full kind limit) = is_limit kind limit
is_kept last (Sequence expected) = false
is_kept last (Invalid fault) = true

abbrev pub is_client : Client → Bool
is_client c = is_id c.client && (is_id c.last && is_kept c.last c.reply)

-- a client as it may be kept
abbrev pub IsClient : Client → Type 0
IsClient c = IsTrue (is_client c)
