-- Rows: under which key each is kept, and to which rows it refers.
use Rattle.std.specs.Prelude.{ℕ, ◌==◌, ◌&&◌, Bool, List, [], ◌∷◌, ◌++◌, map}
use Rattle.std.specs.List.{flat_map, list_any}
use Rattle.sg_base.specs.declared.event.Target.{Target}
use Rattle.sg_base.specs.declared.event.Target.TheVariants as target
use Rattle.sg_base.specs.declared.event.When.{When}
use Rattle.sg_base.specs.declared.event.When.TheVariants.{Always, Custom, Named}
use Rattle.sg_base.specs.declared.kind.Kind.{Kind}
use Rattle.sg_base.specs.declared.kind.Kind.TheVariants as kind
use Rattle.sg_base.specs.declared.row.Row.{Row}
use Rattle.sg_base.specs.declared.row.Row.TheVariants as row
use Rattle.sg_base.specs.Keys.{number}
use Rattle.sg_base.specs.Rows.{kind_of}
use Rattle.sg_tables.specs.declared.row_id.RowId.{RowId}

-- the number of a kind among the keys of kept rows
abbrev pub code_of : Kind → ℕ
code_of kind.Media = 1
code_of kind.Layout = 2
code_of kind.Campaign = 3
code_of kind.Daypart = 4
code_of kind.Group = 5
code_of kind.Display = 6
code_of kind.Event = 7
code_of kind.Client = 8

-- the number of the key under which a row is kept
abbrev pub number_at : RowId → ℕ
number_at at = number (code_of at.kind) at.id 0

abbrev pub at : Kind → ℕ → RowId
at kind id = record { kind = kind; id = id }

abbrev pub id_in : Row → ℕ
id_in (row.Media file) = file.media.0
id_in (row.Layout layout) = layout.id.0
id_in (row.Campaign campaign) = campaign.id.0
id_in (row.Daypart daypart) = daypart.id.0
id_in (row.Group group) = group.0
id_in (row.Display display) = display.id.0
id_in (row.Event event) = event.event.id.0

abbrev pub id_of : Row → RowId
id_of row = at (kind_of row) (id_in row)

-- two ids are of one row
abbrev pub is_same : RowId → RowId → Bool
is_same x y = (code_of x.kind == code_of y.kind) && (x.id == y.id)

-- ---- references

abbrev pub target_in : Target → RowId
target_in (target.Layout layout) = at kind.Layout layout.0
target_in (target.Campaign campaign) = at kind.Campaign campaign.0

-- the daypart of a time
abbrev pub daypart_in : When → List RowId
daypart_in Always = []
daypart_in (Custom from to) = []
daypart_in (Named daypart date) = at kind.Daypart daypart.0 ∷ []

-- the rows that a row names, in its order, each as often as it names it
abbrev pub references : Row → List RowId
references (row.Media file) = []
references (row.Layout layout) = flat_map (λ region. map (λ item. at kind.Media item.media.0) region.items) layout.regions
references (row.Campaign campaign) = map (λ layout. at kind.Layout layout.0) campaign.layouts
references (row.Daypart daypart) = []
references (row.Group group) = []
references (row.Display display) =
    at kind.Layout display.default.0 ∷ map (λ group. at kind.Group group.0) display.groups
references (row.Event event) =
    target_in event.event.target ∷ (daypart_in event.event.when ++
    (map (λ display. at kind.Display display.0) event.displays ++ map (λ group. at kind.Group group.0) event.groups))

-- the row names that one
abbrev pub uses : RowId → Row → Bool
uses id row = list_any (is_same id) (references row)
