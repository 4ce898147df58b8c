-- Which edit JSON says.
use Rattle.std.specs.Prelude.{◌≡◌, ◌≢◌, ℕ, List, codes, IsTrue, if◌then◌else◌, Option, Some, None, Result, Ok, Err}
use Rattle.std.specs.Str.{bytes_eq}
use Rattle.serde_json.specs.Data.{Data}
use Rattle.serde_json.specs.Find.{get}
use Rattle.sg_base.specs.declared.kind.Kind.{Kind}
use Rattle.sg_base.specs.declared.kind.Kind.TheVariants as kind
use Rattle.sg_edit_rows.specs.EditRows.{IsRow, row_at}
use Rattle.sg_steps.specs.declared.edit.Edit.{Edit}
use Rattle.sg_steps.specs.declared.edit.Edit.TheVariants.{Insert, Replace, Remove, Faulty}
use Rattle.sg_records.specs.Clients.{is_row}
use Rattle.sg_records.specs.Reading.{kind_named}
use Rattle.sg_rows.specs.declared.fault.RowFault.{RowFault}
use Rattle.sg_rows.specs.declared.fault.RowFault.TheVariants.{Shape, Memory}
use Rattle.sg_rows.specs.declared.form.RowForm.TheVariants.{Edit as Edited}
use Rattle.sg_rows.specs.Faults.{◌>>=◌, wants}
use Rattle.sg_rows.specs.Parts.{exactly, id_at, member_at, text_at}

-- the kind of rows that is named: not that of clients
abbrev pub kind_of_rows : Option Kind → Option Kind
kind_of_rows None = None
kind_of_rows (Some kind.Media) = Some kind.Media
kind_of_rows (Some kind.Layout) = Some kind.Layout
kind_of_rows (Some kind.Campaign) = Some kind.Campaign
kind_of_rows (Some kind.Daypart) = Some kind.Daypart
kind_of_rows (Some kind.Group) = Some kind.Group
kind_of_rows (Some kind.Display) = Some kind.Display
kind_of_rows (Some kind.Event) = Some kind.Event
kind_of_rows (Some kind.Client) = None

abbrev pub kind_at : Data → Result Kind RowFault
kind_at d = text_at d >>= (λ name. wants (kind_of_rows (kind_named name)) Shape)

-- an edit by the name of what it does
abbrev pub edit_of : Data → Kind → List ℕ → Result Edit RowFault
edit_of d kind op =
    if bytes_eq op (codes "insert") then wants (get (codes "row") d) Shape >>= (λ r. row_at kind Edited r >>= (λ row. Ok (Insert row)))
    else (if bytes_eq op (codes "replace") then wants (get (codes "row") d) Shape >>= (λ r. row_at kind Edited r >>= (λ row. Ok (Replace row)))
    else (if bytes_eq op (codes "remove") then member_at id_at (codes "id") d >>= (λ id. Ok (Remove kind id)) else Err Shape))

unfoldable pub edit_in : Data → Result Edit RowFault
edit_in d = do
  form ← exactly 3 d
  kind ← member_at kind_at (codes "kind") d
  op ← member_at text_at (codes "op") d
  edit_of d kind op

abbrev pub or_faulty : Result Edit RowFault → Edit
or_faulty (Ok edit) = edit
or_faulty (Err fault) = Faulty fault

-- the edit that JSON says, or one that is refused by its fault
abbrev pub edit_at : Data → Edit
edit_at d = or_faulty (edit_in d)

-- an edit as it is read: its row is valid, its kind isn't that of clients, and its fault is no want of memory
abbrev pub IsEdit : Edit → Type 0
IsEdit (Insert row) = IsRow Edited row
IsEdit (Replace row) = IsRow Edited row
IsEdit (Remove kind id) = IsTrue (is_row kind id)
IsEdit (Faulty fault) = fault ≢ Memory
