-- The rows that are a display's own: of these its manifest is made.
use Rattle.std.specs.Prelude.{ℕ, nat_lt, Bool, if◌then◌else◌, List, [], ◌∷◌, ◌++◌, length, map, filter, Option, None, Some}
use Rattle.std.specs.List.{flat_map, list_any}
use Rattle.sg_base.specs.declared.campaign.Campaign.{Campaign as CampaignRow}
use Rattle.sg_base.specs.declared.file.Listed.{Listed}
use Rattle.sg_base.specs.declared.ids.DisplayId.{DisplayId}
use Rattle.sg_base.specs.declared.kind.Kind.TheVariants as kind
use Rattle.sg_base.specs.declared.kind.LimitName.{LimitName}
use Rattle.sg_base.specs.declared.kind.LimitName.TheVariants as limit
use Rattle.sg_base.specs.declared.limits.TheConstants.{MANIFEST_FILES, MANIFEST_LAYOUTS, MANIFEST_CAMPAIGNS, MANIFEST_DAYPARTS, MANIFEST_EVENTS}
use Rattle.sg_base.specs.declared.row.DisplayRow.{DisplayRow}
use Rattle.sg_base.specs.declared.row.Row.{Row}
use Rattle.sg_base.specs.declared.row.Row.TheVariants as row
use Rattle.sg_base.specs.Daypart.{DaypartRow}
use Rattle.sg_base.specs.Event.{EventValue}
use Rattle.sg_base.specs.Faults.{first_of}
use Rattle.sg_base.specs.Layout.{LayoutRow}
use Rattle.sg_manifest.specs.Snapshot.{SnapshotRow, IsSnapshot}
use Rattle.sg_own_rows.specs.declared.own.Own.{Own}
use Rattle.sg_own_rows.specs.declared.own.Own.TheVariants.{Unknown, TooLarge, Rows}
use Rattle.sg_tables.specs.declared.row_id.RowId.{RowId}
use Rattle.sg_tables.specs.Entries.{Kept}
use Rattle.sg_tables.specs.Refusals.{is_of, row_at}
use Rattle.sg_tables.specs.Rows.{at, id_of, is_same, references}

-- ---- what names what

-- the row is one of these
abbrev pub is_among : List RowId → Kept → Bool
is_among ids e = list_any (is_same (id_of e.row)) ids

-- the row names one of these
abbrev pub names_one : List RowId → Kept → Bool
names_one ids e = list_any (λ id. list_any (is_same id) ids) (references e.row)

-- all that rows name
abbrev pub named_by : List Kept → List RowId
named_by rows = flat_map (λ e. references e.row) rows

-- ---- own rows, by kind

-- the display and its groups: what names one of them is for the display
abbrev pub addresses : DisplayRow → List RowId
addresses d = at kind.Display d.id.0 ∷ map (λ group. at kind.Group group.0) d.groups

-- the events that are for the display
abbrev pub own_events : DisplayRow → List Kept → List Kept
own_events d rows = filter (names_one (addresses d)) (filter (is_of kind.Event) rows)

-- the campaigns that own events name
abbrev pub own_campaigns : DisplayRow → List Kept → List Kept
own_campaigns d rows = filter (is_among (named_by (own_events d rows))) (filter (is_of kind.Campaign) rows)

-- the dayparts that own events name
abbrev pub own_dayparts : DisplayRow → List Kept → List Kept
own_dayparts d rows = filter (is_among (named_by (own_events d rows))) (filter (is_of kind.Daypart) rows)

-- what the display itself, its own events and its own campaigns name
abbrev pub shown : DisplayRow → List Kept → List RowId
shown d rows = references (row.Display d) ++ (named_by (own_events d rows) ++ named_by (own_campaigns d rows))

-- the layouts among these
abbrev pub own_layouts : DisplayRow → List Kept → List Kept
own_layouts d rows = filter (is_among (shown d rows)) (filter (is_of kind.Layout) rows)

-- the media that own layouts name
abbrev pub own_media : DisplayRow → List Kept → List Kept
own_media d rows = filter (is_among (named_by (own_layouts d rows))) (filter (is_of kind.Media) rows)

-- ---- the rows of a kind as a manifest has them

abbrev pub layout_in : Row → List LayoutRow
layout_in (row.Media f) = []
layout_in (row.Layout l) = l ∷ []
layout_in (row.Campaign c) = []
layout_in (row.Daypart d) = []
layout_in (row.Group g) = []
layout_in (row.Display d) = []
layout_in (row.Event e) = []

abbrev pub campaign_in : Row → List CampaignRow
campaign_in (row.Media f) = []
campaign_in (row.Layout l) = []
campaign_in (row.Campaign c) = c ∷ []
campaign_in (row.Daypart d) = []
campaign_in (row.Group g) = []
campaign_in (row.Display d) = []
campaign_in (row.Event e) = []

abbrev pub daypart_in : Row → List DaypartRow
daypart_in (row.Media f) = []
daypart_in (row.Layout l) = []
daypart_in (row.Campaign c) = []
daypart_in (row.Daypart d) = d ∷ []
daypart_in (row.Group g) = []
daypart_in (row.Display d) = []
daypart_in (row.Event e) = []

-- whom an event is for isn't told
abbrev pub event_in : Row → List EventValue
event_in (row.Media f) = []
event_in (row.Layout l) = []
event_in (row.Campaign c) = []
event_in (row.Daypart d) = []
event_in (row.Group g) = []
event_in (row.Display d) = []
event_in (row.Event e) = e.event ∷ []

abbrev pub file_in : Row → List Listed
file_in (row.Media f) = f ∷ []
file_in (row.Layout l) = []
file_in (row.Campaign c) = []
file_in (row.Daypart d) = []
file_in (row.Group g) = []
file_in (row.Display d) = []
file_in (row.Event e) = []

abbrev pub all_in : {A : Type 0} → (Row → List A) → List Kept → List A
all_in f rows = flat_map (λ e. f e.row) rows

-- the files of a display, also where its manifest has too many rows
abbrev pub own_files : DisplayRow → List Kept → List Listed
own_files d rows = all_in file_in (own_media d rows)

-- ---- the snapshot

-- the rows of a display's manifest, in its newer version
abbrev pub own_snapshot : DisplayRow → List Kept → SnapshotRow
own_snapshot d rows = record {
  version = 2;
  zone = d.zone;
  default = d.default;
  layouts = all_in layout_in (own_layouts d rows);
  campaigns = all_in campaign_in (own_campaigns d rows);
  dayparts = all_in daypart_in (own_dayparts d rows);
  events = all_in event_in (own_events d rows);
  files = own_files d rows;
}

-- there are more than a manifest may have
abbrev pub over : LimitName → ℕ → ℕ → Option Own
over name most count = if nat_lt most count then Some (TooLarge name count) else None

-- the first limit that is exceeded
abbrev pub too_large : SnapshotRow → Option Own
too_large s =
    first_of (over limit.Files MANIFEST_FILES (length s.files))
    (first_of (over limit.Layouts MANIFEST_LAYOUTS (length s.layouts))
    (first_of (over limit.Campaigns MANIFEST_CAMPAIGNS (length s.campaigns))
    (first_of (over limit.Dayparts MANIFEST_DAYPARTS (length s.dayparts)) (over limit.Events MANIFEST_EVENTS (length s.events)))))

abbrev pub unless_large : SnapshotRow → Option Own → Own
unless_large s None = Rows s
unless_large s (Some large) = large

-- ---- by the id of a display

abbrev pub display_of : Row → Option DisplayRow
display_of (row.Media f) = None
display_of (row.Layout l) = None
display_of (row.Campaign c) = None
display_of (row.Daypart d) = None
display_of (row.Group g) = None
display_of (row.Display d) = Some d
display_of (row.Event e) = None

-- the display of a row, if it is one
abbrev pub display_in : Option Kept → Option DisplayRow
display_in None = None
display_in (Some e) = display_of e.row

abbrev pub own_of_display : List Kept → Option DisplayRow → Own
own_of_display rows None = Unknown
own_of_display rows (Some d) = unless_large (own_snapshot d rows) (too_large (own_snapshot d rows))

-- the rows of a display's manifest, or why it has none
abbrev pub own_of : DisplayId → List Kept → Own
own_of display rows = own_of_display rows (display_in (row_at (at kind.Display display.0) rows))

abbrev pub files_of_display : List Kept → Option DisplayRow → List Listed
files_of_display rows None = []
files_of_display rows (Some d) = own_files d rows

-- the files of a display; none of one that isn't there
abbrev pub files_of : DisplayId → List Kept → List Listed
files_of display rows = files_of_display rows (display_in (row_at (at kind.Display display.0) rows))

-- the rows, if there are any, make a valid snapshot
abbrev pub IsSnapshotIn : Own → Type 0
IsSnapshotIn Unknown = Unit {0}
IsSnapshotIn (TooLarge name count) = Unit {0}
IsSnapshotIn (Rows s) = IsSnapshot s
