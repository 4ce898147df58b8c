-- The rows of the server as lists by key, and what a change makes of them.
use Rattle.std.specs.Prelude.{◌≡◌, ℕ, Bool, true, false, not, List, Option, None, Some}
use Rattle.sg_base.specs.declared.row.Row.{Row}
use Rattle.sg_base.specs.declared.row.Row.TheVariants as row
use Rattle.sg_base.specs.Rising.{put, without}
use Rattle.sg_tables.specs.declared.change.TableChange.{TableChange}
use Rattle.sg_tables.specs.declared.change.TableChange.TheVariants.{Insert, Replace, Remove}
use Rattle.sg_tables.specs.Rows.{at, id_of, number_at}

-- A row as it is kept: of a medium, how many of its bytes have come, and whether it is complete
pub record Kept : Type 0 where
  pub row : Row
  pub received : ℕ
  pub complete : Bool

abbrev pub is_media : Row → Bool
is_media (row.Media file) = true
is_media (row.Layout layout) = false
is_media (row.Campaign campaign) = false
is_media (row.Daypart daypart) = false
is_media (row.Group group) = false
is_media (row.Display display) = false
is_media (row.Event event) = false

-- a row that has just come in: every row but a medium is complete
abbrev pub fresh : Row → Kept
fresh row = record { row = row; received = 0; complete = not (is_media row) }

-- the number of the key under which it is kept
abbrev pub number_of_kept : Kept → ℕ
number_of_kept e = number_at (id_of e.row)

-- the rows after a change
abbrev pub after : List Kept → TableChange → List Kept
after rows (Insert row) = put number_of_kept (fresh row) rows
after rows (Replace row) = put number_of_kept (fresh row) rows
after rows (Remove kind id) = without number_of_kept (number_at (at kind id)) rows

-- a change that the tables are asked for: no medium takes the place of another
abbrev pub IsAsked : TableChange → Type 0
IsAsked (Insert row) = Unit {0}
IsAsked (Replace row) = is_media row ≡ false
IsAsked (Remove kind id) = Unit {0}

-- there is such a row, and it is complete
abbrev pub is_complete : Option Kept → Bool
is_complete None = false
is_complete (Some e) = e.complete
