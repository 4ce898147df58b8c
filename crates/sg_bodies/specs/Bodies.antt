-- What the JSON of a body says.
use Rattle.std.specs.Prelude.{ℕ, ◌^◌, ◌<◌, ◌≤◌, ◌&&◌, nat_le, nat_lt, List, [], ◌∷◌, length, codes, if◌then◌else◌, Option, None, Result, Ok, Err}
use Rattle.std.specs.List.{AllByRecursion}
use Rattle.std.specs.Str.{is_utf8}
use Rattle.serde_json.specs.Data.{Data, Items, no_items, item, object, member, no_members}
use Rattle.serde_json.specs.Find.{get}
use Rattle.serde_json.specs.Read.{read}
use Rattle.sg_base.specs.declared.limits.TheConstants.{BATCH_PLAYS, LAST_MOMENT}
use Rattle.sg_base.specs.declared.play.PlayBody.{PlayBody}
use Rattle.sg_bodies.specs.declared.body.BodyFault.{BodyFault}
use Rattle.sg_bodies.specs.declared.body.BodyFault.TheVariants.{Body, Memory}
use Rattle.sg_rows.specs.declared.fault.RowFault.{RowFault}
use Rattle.sg_rows.specs.declared.fault.RowFault.TheVariants as row
use Rattle.sg_rows.specs.Faults.{◌>>=◌, needs, wants}
use Rattle.sg_rows.specs.Parts.{count_of_items, each_at, exactly, id_at, items_at, member_at, number_at}
use Rattle.sg_rows.specs.Rows.{IsId}
use Rattle.sg_rows.specs.Text.{list_of, whole}

-- the JSON of bytes in UTF-8
abbrev pub json_at : List ℕ → Option Data
json_at bytes = if is_utf8 bytes then read bytes else None

-- a fault of the form, or want of memory
abbrev pub fault_of : RowFault → BodyFault
fault_of row.Memory = Memory
fault_of _ = Body

-- ---- edits

pub record EditParts : Type 0 where
  pub client : ℕ
  pub seq : ℕ
  pub edit : Data

abbrev pub edit_parts : ℕ → ℕ → Data → EditParts
edit_parts client seq edit = record { client = client; seq = seq; edit = edit }

-- an object of three members: a client and a number, each at least 1, and any edit
unfoldable pub edit_body_in : Data → Result EditParts RowFault
edit_body_in d = do
  form ← exactly 3 d
  client ← member_at id_at (codes "client") d
  seq ← member_at id_at (codes "seq") d
  edit ← wants (get (codes "edit") d) row.Shape
  Ok (edit_parts client seq edit)

-- ---- plays

unfoldable pub moment_at : Data → Result ℕ RowFault
moment_at d = do
  seconds ← number_at d
  early ← needs (nat_le seconds LAST_MOMENT) row.Shape
  Ok seconds

-- a play by its four numbers: it ends behind its begin
unfoldable pub play_of : Data → Data → Data → Data → Result PlayBody RowFault
play_of event layout from to = do
  e ← number_at event
  l ← id_at layout
  f ← moment_at from
  t ← moment_at to
  later ← needs (nat_lt f t) row.Shape
  Ok (record { event = e; layout = l; from = f; to = t })

-- a list of four numbers
abbrev pub play_in : Items → Result PlayBody RowFault
play_in (item event (item layout (item from (item to no_items)))) = play_of event layout from to
play_in _ = Err row.Shape

unfoldable pub play_at : Data → Result PlayBody RowFault
play_at d = items_at d >>= play_in

-- 1 to 64 plays
unfoldable pub batch_at : Data → Result (List PlayBody) RowFault
batch_at d = do
  items ← items_at d
  some ← needs (nat_lt 0 (count_of_items items) && nat_le (count_of_items items) BATCH_PLAYS) row.Shape
  each_at play_at items

pub record PlaysParts : Type 0 where
  pub epoch : ℕ
  pub first : ℕ
  pub plays : List PlayBody

abbrev pub plays_parts : ℕ → ℕ → List PlayBody → PlaysParts
plays_parts epoch first plays = record { epoch = epoch; first = first; plays = plays }

-- an object of three members: an epoch and the number of the first play, each at least 1, and the plays
unfoldable pub plays_body_in : Data → Result PlaysParts RowFault
plays_body_in d = do
  form ← exactly 3 d
  epoch ← member_at id_at (codes "epoch") d
  first ← member_at id_at (codes "first") d
  plays ← member_at batch_at (codes "plays") d
  Ok (plays_parts epoch first plays)

-- ---- the body that is written of a batch

abbrev pub play_json : PlayBody → Data
play_json p = list_of whole (p.event ∷ p.layout ∷ p.from ∷ p.to ∷ [])

abbrev pub plays_json : PlaysParts → Data
plays_json p = object
    (member (codes "epoch") (whole p.epoch)
    (member (codes "first") (whole p.first)
    (member (codes "plays") (list_of play_json p.plays) no_members)))

-- a play as a body may have it
pub record IsPlay (p : PlayBody) : Type 0 where
  pub event : p.event < 2 ^ 32
  pub layout : IsId p.layout
  pub later : p.from < p.to
  pub early : p.to ≤ LAST_MOMENT

pub record IsPlays (p : PlaysParts) : Type 0 where
  pub epoch : IsId p.epoch
  pub first : IsId p.first
  pub some : 0 < length p.plays
  pub few : length p.plays ≤ BATCH_PLAYS
  pub plays : AllByRecursion IsPlay p.plays
