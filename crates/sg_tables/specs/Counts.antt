-- How often rows are named by others.
use Rattle.std.specs.Prelude.{◌≡◌, ℕ, ◌^◌, ◌<◌, ◌≤◌, ◌==◌, List, Option, None, Some, length, count_by, All}
use Rattle.std.specs.List.{AllByRecursion, sum_by}
use Rattle.sg_base.specs.declared.kind.Kind.{Kind}
use Rattle.sg_base.specs.declared.limits.TheConstants.{MAX_MEDIA_BYTES}
use Rattle.sg_base.specs.Rising.{IsRising, found}
use Rattle.sg_tables.specs.declared.counts.Count.{Count}
use Rattle.sg_tables.specs.declared.row_id.RowId.{RowId}
use Rattle.sg_tables.specs.Entries.{Kept, number_of_kept}
use Rattle.sg_tables.specs.Refusals.{AreClosed, declared, is_of, most_of}
use Rattle.sg_tables.specs.Rows.{number_at, id_in, id_of, references}

-- how often a row stands among ids, by the number of its key
abbrev pub times : ℕ → List RowId → ℕ
times n ids = count_by (λ id. number_at id == n) ids

-- how often all rows together name one
abbrev pub times_in : ℕ → List Kept → ℕ
times_in n rows = sum_by (λ e. times n (references e.row)) rows

abbrev pub count_number : Count → ℕ
count_number c = number_at c.row

abbrev pub count_in : Option Count → ℕ
count_in None = 0
count_in (Some c) = c.count

-- the count that is kept for a row
abbrev pub counted : ℕ → List Count → ℕ
counted n counts = count_in (found count_number n counts)

-- the id fits its type
abbrev pub IsShort : RowId → Type 0
IsShort id = id.id < 2 ^ 32

-- a row in memory has an id of its type and a list of references, which have such ids too
pub record IsBounded (e : Kept) : Type 0 where
  pub id : id_in e.row < 2 ^ 32
  pub named : All IsShort (references e.row)
  pub references : length (references e.row) < 2 ^ 64

-- what an entry has gathered of its row
pub record IsGathered (e : Kept) (own : RowId) (named : List RowId) : Type 0 where
  pub id : own ≡ id_of e.row
  pub references : named ≡ references e.row
  pub bounded : IsBounded e

-- the rows stand by key, what they name is there, what is kept beside them is right, and no limit is exceeded
pub record AreCounted (rows : List Kept) (counts : List Count) (total : ℕ) : Type 0 where
  pub rising : IsRising number_of_kept rows
  pub closed : AreClosed rows
  pub each : (n : ℕ) → counted n counts ≡ times_in n rows
  pub bytes : total ≡ declared rows
  pub few : (kind : Kind) → count_by (is_of kind) rows ≤ most_of kind
  pub light : declared rows ≤ MAX_MEDIA_BYTES
  pub bounded : AllByRecursion IsBounded rows
