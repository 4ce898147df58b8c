-- Ids of groups and displays, which stand in lists of a row of an edit: when they are valid, their JSON, and which id
-- JSON says.
use Rattle.std.specs.Prelude.{Result, Ok}
use Rattle.serde_json.specs.Data.{Data}
use Rattle.sg_base.specs.declared.ids.GroupId.{GroupId}
use Rattle.sg_base.specs.declared.ids.DisplayId.{DisplayId}
use Rattle.sg_rows.specs.declared.fault.RowFault.{RowFault}
use Rattle.sg_rows.specs.Faults.{◌>>=◌}
use Rattle.sg_rows.specs.Parts.{id_at}
use Rattle.sg_rows.specs.Rows.{IsId}
use Rattle.sg_rows.specs.Text.{whole}

-- an id is that of a row
abbrev pub IsGroup : GroupId → Type 0
IsGroup g = IsId g.0

abbrev pub IsDisplayId : DisplayId → Type 0
IsDisplayId d = IsId d.0

-- an id in a list is a number
abbrev pub group_id_json : GroupId → Data
group_id_json g = whole g.0

abbrev pub display_id_json : DisplayId → Data
display_id_json d = whole d.0

-- the id that a number says
unfoldable pub group_id_at : Data → Result GroupId RowFault
group_id_at d = do
  id ← id_at d
  Ok (record { 0 = id })

unfoldable pub display_id_at : Data → Result DisplayId RowFault
display_id_at d = do
  id ← id_at d
  Ok (record { 0 = id })
