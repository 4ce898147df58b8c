-- The tables, as contracts see them.
use Rattle.std.specs.Prelude.{◌≡◌, ℕ, ◌<◌, ◌≤◌, ◌==◌, ◌&&◌, nat_lt, Bool, true, false, if◌then◌else◌, List, Option, None, Some, length, map}
use Rattle.sg_base.specs.declared.file.Listed.{Listed}
use Rattle.sg_base.specs.declared.ids.MediaId.{MediaId}
use Rattle.sg_base.specs.declared.kind.Kind.{Kind}
use Rattle.sg_base.specs.declared.kind.Kind.TheVariants as kind
use Rattle.sg_base.specs.declared.row.Row.{Row}
use Rattle.sg_base.specs.declared.row.Row.TheVariants as row
use Rattle.sg_tables.specs.declared.change.TableChange.{TableChange}
use Rattle.sg_tables.specs.declared.change.TableChange.TheVariants.{Insert, Replace, Remove}
use Rattle.sg_tables.specs.declared.prepared.Prepared.{Prepared}
use Rattle.sg_tables.specs.declared.prepared.Prepared.TheVariants as prepared
use Rattle.sg_tables.specs.Entries.{Kept, IsAsked, fresh, number_of_kept}
use Rattle.sg_tables.specs.Refusals.{bytes_of, is_of, refusal}
use Rattle.sg_tables.specs.Rows.{at, id_in, number_at, references}

-- the rows by key, and for how many more rows and counts there is room
pub record Filled : Type 0 where
  pub rows : List Kept
  pub room : ℕ
  pub counts_room : ℕ

-- the row is of a kind, with an id above one
abbrev pub is_above : Kind → ℕ → Kept → Bool
is_above kind id e = is_of kind e && nat_lt id (id_in e.row)

-- the file of a medium
abbrev pub file_of : Row → Option Listed
file_of (row.Media file) = Some file
file_of (row.Layout layout) = None
file_of (row.Campaign campaign) = None
file_of (row.Daypart daypart) = None
file_of (row.Group group) = None
file_of (row.Display display) = None
file_of (row.Event event) = None

abbrev pub file_in : Option Kept → Option Listed
file_in None = None
file_in (Some e) = file_of e.row

-- the rows with a medium changed
abbrev pub with_medium : (Kept → Kept) → MediaId → List Kept → List Kept
with_medium change media rows = map (λ e. if number_of_kept e == number_at (at kind.Media media.0) then change e else e) rows

-- so many of its bytes have come
abbrev pub holding : ℕ → Kept → Kept
holding received e = record e { received = received; complete = false }

-- all of its bytes have come
abbrev pub whole : Kept → Kept
whole e = record e { received = bytes_of e.row; complete = true }

-- the change that is ready to be made
abbrev pub change_of : Prepared → TableChange
change_of (prepared.Insert e) = Insert e.row
change_of (prepared.Replace e) = Replace e.row
change_of (prepared.Remove kind id) = Remove kind id

-- its row has just come in
abbrev pub IsFresh : Prepared → Type 0
IsFresh (prepared.Insert e) = e ≡ fresh e.row
IsFresh (prepared.Replace e) = e ≡ fresh e.row
IsFresh (prepared.Remove kind id) = Unit {0}

abbrev pub HasRoom : Filled → TableChange → Type 0
HasRoom t (Insert row) = (0 < t.room) × (length (references row) ≤ t.counts_room)
HasRoom t (Replace row) = length (references row) ≤ t.counts_room
HasRoom t (Remove kind id) = Unit {0}

-- the rows allow the change and there is room for it, as long as nothing else changes them
pub record IsPrepared (t : Filled) (p : Prepared) : Type 0 where
  pub fresh : IsFresh p
  pub asked : IsAsked (change_of p)
  pub allowed : refusal t.rows (change_of p) ≡ None
  pub room : HasRoom t (change_of p)
