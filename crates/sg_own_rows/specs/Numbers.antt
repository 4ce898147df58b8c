-- For private clauses: rows by one number each, as the code looks them up.
use Rattle.std.specs.Prelude.{◌≡◌, ℕ, ◌+◌, ◌*◌, ◌^◌, ◌==◌, Bool, List, map, filter}
use Rattle.std.specs.List.{list_any}
use Rattle.std.specs.List.Sorted.{IsNonDecreasing}
use Rattle.sg_base.specs.declared.row.DisplayRow.{DisplayRow}
use Rattle.sg_own_rows.specs.Own.{addresses, named_by, own_events, own_layouts, shown}
use Rattle.sg_tables.specs.declared.row_id.RowId.{RowId}
use Rattle.sg_tables.specs.Counts.{IsShort}
use Rattle.sg_tables.specs.Entries.{Kept}
use Rattle.sg_tables.specs.Rows.{code_of, id_of, is_same, references}

-- the kind above the bits of an id
abbrev pub number_of_row : RowId → ℕ
number_of_row id = code_of id.kind * 2 ^ 32 + id.id

-- the row's number is one of these
abbrev pub has_number : List ℕ → RowId → Bool
has_number numbers id = list_any (λ n. n == number_of_row id) numbers

-- ascending numbers, among which a row is looked up as it is among these ids
pub record IsListOf (ids : List RowId) (numbers : List ℕ) : Type 0 where
  pub sorted : IsNonDecreasing numbers
  pub same : (id : RowId) → IsShort id → has_number numbers id ≡ list_any (is_same id) ids

-- the rows among some, by their numbers
abbrev pub picked : List ℕ → List Kept → List Kept
picked numbers rows = filter (λ e. has_number numbers (id_of e.row)) rows

-- the rows that name one of some, by their numbers
abbrev pub naming : List ℕ → List Kept → List Kept
naming numbers rows = filter (λ e. list_any (has_number numbers) (references e.row)) rows

-- what own rows name, from step to step, as lists of numbers
pub record AreNames (d : DisplayRow) (rows : List Kept) (display by_events shown_numbers by_layouts : List ℕ) : Type 0 where
  pub of_display : IsListOf (addresses d) display
  pub of_events : IsListOf (named_by (own_events d rows)) by_events
  pub of_shown : IsListOf (shown d rows) shown_numbers
  pub of_layouts : IsListOf (named_by (own_layouts d rows)) by_layouts
