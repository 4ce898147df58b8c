-- Why a change of the rows is refused: the first of several reasons, each over all rows.
use Rattle.std.specs.Prelude.{◌≢◌, ℕ, ◌+◌, ◌==◌, ◌&&◌, nat_lt, Bool, if◌then◌else◌, List, Option, None, Some, count_by}
use Rattle.std.specs.List.{AllByRecursion, sum_by}
use Rattle.sg_base.specs.declared.kind.Kind.{Kind}
use Rattle.sg_base.specs.declared.kind.Kind.TheVariants as kind
use Rattle.sg_base.specs.declared.limits.TheConstants.{MAX_MEDIA, MAX_MEDIA_BYTES, MAX_LAYOUTS, MAX_CAMPAIGNS, MAX_DAYPARTS, MAX_GROUPS, MAX_DISPLAYS, MAX_EVENTS, MAX_CLIENTS}
use Rattle.sg_base.specs.declared.row.Row.{Row}
use Rattle.sg_base.specs.declared.row.Row.TheVariants as row
use Rattle.sg_base.specs.Faults.{first_of, first_in}
use Rattle.sg_base.specs.Rising.{found}
use Rattle.sg_base.specs.Rows.{kind_of}
use Rattle.sg_tables.specs.declared.change.TableChange.{TableChange}
use Rattle.sg_tables.specs.declared.change.TableChange.TheVariants.{Insert, Replace, Remove}
use Rattle.sg_tables.specs.declared.change.TableRefusal.{TableRefusal}
use Rattle.sg_tables.specs.declared.change.TableRefusal.TheVariants.{Unknown, InUse, Exists, Full, Incomplete}
use Rattle.sg_tables.specs.declared.row_id.RowId.{RowId}
use Rattle.sg_tables.specs.Entries.{Kept, is_media, number_of_kept}
use Rattle.sg_tables.specs.Rows.{at, code_of, number_at, id_in, id_of, references, uses}

-- the row of an id
abbrev pub row_at : RowId → List Kept → Option Kept
row_at id rows = found number_of_kept (number_at id) rows

-- there is such a row
abbrev pub IsThere : List Kept → RowId → Type 0
IsThere rows id = row_at id rows ≢ None

-- each row that a row names is there
abbrev pub AreClosed : List Kept → Type 0
AreClosed rows = AllByRecursion (λ e. AllByRecursion (IsThere rows) (references e.row)) rows

-- ---- of one row

-- there is such a row
abbrev pub exists_fault : RowId → Option Kept → Option TableRefusal
exists_fault id None = None
exists_fault id (Some e) = Some (Exists id.kind id.id)

-- there is no such row
abbrev pub unknown_fault : RowId → Option Kept → Option TableRefusal
unknown_fault id None = Some (Unknown id.kind id.id)
unknown_fault id (Some e) = None

-- ---- of the rows that a row names

-- the row isn't there, or isn't complete, as a medium may be
abbrev pub reference_fault : RowId → Option Kept → Option TableRefusal
reference_fault id None = Some (Unknown id.kind id.id)
reference_fault id (Some e) = if e.complete then None else Some (Incomplete (record { 0 = id.id }))

abbrev pub references_fault : List Kept → List RowId → Option TableRefusal
references_fault rows ids = first_in (λ id. reference_fault id (row_at id rows)) ids

-- ---- of the limits

abbrev pub is_of : Kind → Kept → Bool
is_of kind e = code_of (kind_of e.row) == code_of kind

-- the most rows of a kind
abbrev pub most_of : Kind → ℕ
most_of kind.Media = MAX_MEDIA
most_of kind.Layout = MAX_LAYOUTS
most_of kind.Campaign = MAX_CAMPAIGNS
most_of kind.Daypart = MAX_DAYPARTS
most_of kind.Group = MAX_GROUPS
most_of kind.Display = MAX_DISPLAYS
most_of kind.Event = MAX_EVENTS
most_of kind.Client = MAX_CLIENTS

-- there are as many rows of the kind as there may be
abbrev pub count_fault : Kind → List Kept → Option TableRefusal
count_fault kind rows = if nat_lt (count_by (is_of kind) rows) (most_of kind) then None else Some (Full kind (most_of kind))

-- the bytes that a row declares: those of a medium
abbrev pub bytes_of : Row → ℕ
bytes_of (row.Media file) = file.length
bytes_of (row.Layout layout) = 0
bytes_of (row.Campaign campaign) = 0
bytes_of (row.Daypart daypart) = 0
bytes_of (row.Group group) = 0
bytes_of (row.Display display) = 0
bytes_of (row.Event event) = 0

-- the bytes that all media together declare
abbrev pub declared : List Kept → ℕ
declared rows = sum_by (λ e. bytes_of e.row) rows

-- with this row the media would declare too many bytes
abbrev pub bytes_fault : Row → ℕ → Option TableRefusal
bytes_fault row bytes =
    if is_media row && nat_lt MAX_MEDIA_BYTES (bytes + bytes_of row) then Some (Full kind.Media MAX_MEDIA_BYTES) else None

-- ---- of the rows that name a row

-- the row is of a kind, and names that one
abbrev pub use_fault : RowId → Kind → Kept → Option TableRefusal
use_fault id kind e =
    if is_of kind e && uses id e.row then Some (InUse id.kind id.id kind (id_in e.row)) else None

-- the first campaign that names the row, or else the first layout, event or display, each by id
abbrev pub user_fault : RowId → List Kept → Option TableRefusal
user_fault id rows =
    first_of (first_in (use_fault id kind.Campaign) rows)
    (first_of (first_in (use_fault id kind.Layout) rows)
    (first_of (first_in (use_fault id kind.Event) rows) (first_in (use_fault id kind.Display) rows)))

-- ---- of a change

abbrev pub refusal : List Kept → TableChange → Option TableRefusal
refusal rows (Insert row) =
    first_of (exists_fault (id_of row) (row_at (id_of row) rows))
    (first_of (references_fault rows (references row)) (first_of (count_fault (kind_of row) rows) (bytes_fault row (declared rows))))
refusal rows (Replace row) =
    first_of (unknown_fault (id_of row) (row_at (id_of row) rows)) (references_fault rows (references row))
refusal rows (Remove kind id) =
    first_of (unknown_fault (at kind id) (row_at (at kind id) rows)) (user_fault (at kind id) rows)
