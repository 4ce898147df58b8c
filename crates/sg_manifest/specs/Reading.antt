-- The snapshot that bytes say, or the first fault of the bytes. The checks stand in their order, in `manifest_at`.
use Rattle.std.specs.Prelude.{ℕ, ◌+◌, ◌==◌, ◌++◌, nat_le, not, List, [], ◌∷◌, codes, length, if◌then◌else◌, Option, Some, None, Result, Ok, Err}
use Rattle.std.specs.List.{list_any}
use Rattle.std.specs.Str.{is_utf8, bytes_eq}
use Rattle.serde_json.specs.Data.{Data, Items, no_items, item}
use Rattle.serde_json.specs.Find.{get}
use Rattle.serde_json.specs.Read.{read}
use Rattle.sg_base.specs.declared.limits.TheConstants.{MANIFEST_FILES, MANIFEST_LAYOUTS, MANIFEST_CAMPAIGNS, MANIFEST_DAYPARTS, MANIFEST_EVENTS, MANIFEST_TEXT}
use Rattle.sg_base.specs.declared.ids.LayoutId.{LayoutId}
use Rattle.sg_base.specs.declared.layout.Region.{Region}
use Rattle.sg_base.specs.declared.campaign.Campaign.{Campaign as CampaignRow}
use Rattle.sg_base.specs.declared.event.When.{When}
use Rattle.sg_base.specs.declared.event.When.TheVariants.{Always, Custom, Named}
use Rattle.sg_base.specs.declared.event.Target.{Target}
use Rattle.sg_base.specs.declared.event.Target.TheVariants as target
use Rattle.sg_base.specs.Faults.{first_of, first_in}
use Rattle.sg_base.specs.Layout.{LayoutRow}
use Rattle.sg_base.specs.Event.{EventValue}
use Rattle.sg_rows.specs.declared.fault.RowFault.{RowFault}
use Rattle.sg_rows.specs.declared.fault.RowFault.TheVariants.{Shape}
use Rattle.sg_base.specs.declared.kind.Kind.{Kind}
use Rattle.sg_base.specs.declared.kind.Kind.TheVariants.{Media, Layout, Campaign, Daypart, Event}
use Rattle.sg_base.specs.declared.kind.LimitName.{LimitName}
use Rattle.sg_base.specs.declared.kind.LimitName.TheVariants.{Files, Layouts, Campaigns, Dayparts, Events, Text}
use Rattle.sg_rows.specs.Faults.{◌>>=◌, needs, wants}
use Rattle.sg_rows.specs.Parts.{exactly, member_at, number_at, id_at, items_at, count_of_items}
use Rattle.sg_rows.specs.Order.{sorted_by}
use Rattle.sg_rows.specs.Reading.{file_at, layout_at, campaign_at, daypart_at, event_at, zone_at}
use Rattle.sg_manifest.specs.declared.fault.ManifestFault.{ManifestFault}
use Rattle.sg_manifest.specs.declared.fault.ManifestFault.TheVariants.{NotJson, Limit, Dangling, Double, Version, NotCanonical}
use Rattle.sg_manifest.specs.Faults.{in_entry}
use Rattle.sg_manifest.specs.Snapshot.{SnapshotRow, is_version, form_of, layout_ids, campaign_ids, daypart_ids, file_ids}
use Rattle.sg_manifest.specs.Text.{text}

-- ---- the top

-- the JSON (RFC 8259) of the bytes, as serde_json reads it
unfoldable pub json_at : List ℕ → Result Data ManifestFault
json_at bytes = if is_utf8 bytes then wants (read bytes) NotJson else Err NotJson

-- a whole number `version`, which is one of the two
unfoldable pub version_at : Data → Result ℕ ManifestFault
version_at d = do
  n ← in_entry 0 0 (member_at number_at (codes "version") d)
  known ← needs (is_version n) (Version n)
  Ok n

-- the eight members and no other, each of its JSON type; the answer is the default layout
unfoldable pub members_at : Data → Result LayoutId RowFault
members_at d = do
  form ← exactly 8 d
  default ← member_at id_at (codes "default") d
  campaigns ← member_at items_at (codes "campaigns") d
  dayparts ← member_at items_at (codes "dayparts") d
  events ← member_at items_at (codes "events") d
  files ← member_at items_at (codes "files") d
  layouts ← member_at items_at (codes "layouts") d
  zone ← wants (get (codes "zone") d) Shape
  Ok (record { 0 = default })

-- ---- the lists

-- entry by entry, from index k on: its own fault, and then whether an earlier one has its id
abbrev pub entries_at : {A : Type 0} → ℕ → Kind → (Data → Result A RowFault) → (A → ℕ) → ℕ → List ℕ → Items → Result (List A) ManifestFault
entries_at list kind at id k seen no_items = Ok []
entries_at list kind at id k seen (item d ds) =
    in_entry list k (at d) >>= (λ x.
    needs (not (list_any (λ n. n == id x) seen)) (Double kind (id x)) >>= (λ new.
    entries_at list kind at id (k + 1) (seen ++ id x ∷ []) ds >>= (λ xs. Ok (x ∷ xs))))

-- a list: how many entries it has, and then the entries
abbrev pub rows_at : {A : Type 0} → ℕ → LimitName → ℕ → Kind → (Data → Result A RowFault) → (A → ℕ) → List ℕ → Data → Result (List A) ManifestFault
rows_at list name most kind at id key d =
    in_entry 0 0 (member_at items_at key d) >>= (λ ds.
    needs (nat_le (count_of_items ds) most) (Limit name (count_of_items ds)) >>= (λ few.
    entries_at list kind at id 0 [] ds))

-- ---- what rows name

abbrev pub missing : Kind → List ℕ → ℕ → Option ManifestFault
missing kind ids id = if list_any (λ n. n == id) ids then None else Some (Dangling kind id)

abbrev pub missing_media : List ℕ → Region → Option ManifestFault
missing_media files r = first_in (λ i. missing Media files i.media.0) r.items

abbrev pub missing_file : List ℕ → LayoutRow → Option ManifestFault
missing_file files l = first_in (missing_media files) l.regions

abbrev pub missing_layout : List ℕ → CampaignRow → Option ManifestFault
missing_layout layouts c = first_in (λ l. missing Layout layouts l.0) c.layouts

abbrev pub missing_target : List ℕ → List ℕ → Target → Option ManifestFault
missing_target layouts campaigns (target.Layout id) = missing Layout layouts id.0
missing_target layouts campaigns (target.Campaign id) = missing Campaign campaigns id.0

abbrev pub missing_daypart : List ℕ → When → Option ManifestFault
missing_daypart dayparts Always = None
missing_daypart dayparts (Custom from to) = None
missing_daypart dayparts (Named daypart date) = missing Daypart dayparts daypart.0

abbrev pub missing_in_target : List ℕ → List ℕ → EventValue → Option ManifestFault
missing_in_target layouts campaigns e = missing_target layouts campaigns e.target

abbrev pub missing_in_when : List ℕ → EventValue → Option ManifestFault
missing_in_when dayparts e = missing_daypart dayparts e.when

-- the first that isn't there: the default layout, then the media of the layouts, the layouts of the campaigns, the
-- targets of the events, and the dayparts of the events
abbrev pub dangling_by : SnapshotRow → List ℕ → List ℕ → List ℕ → List ℕ → Option ManifestFault
dangling_by s layouts campaigns dayparts files =
    first_of (missing Layout layouts s.default.0)
    (first_of (first_in (missing_file files) s.layouts)
    (first_of (first_in (missing_layout layouts) s.campaigns)
    (first_of (first_in (missing_in_target layouts campaigns) s.events)
    (first_in (missing_in_when dayparts) s.events))))

abbrev pub dangling : SnapshotRow → Option ManifestFault
dangling s = dangling_by s (layout_ids s) (campaign_ids s) (daypart_ids s) (file_ids s)

abbrev pub none_of : Option ManifestFault → Result (Unit {0}) ManifestFault
none_of None = Ok tt
none_of (Some fault) = Err fault

-- ---- the text

-- each list by ascending id
abbrev pub ordered : SnapshotRow → SnapshotRow
ordered s = record {
  version = s.version;
  zone = s.zone;
  default = s.default;
  layouts = sorted_by (λ l. l.id.0) s.layouts;
  campaigns = sorted_by (λ c. c.id.0) s.campaigns;
  dayparts = sorted_by (λ d. d.id.0) s.dayparts;
  events = sorted_by (λ e. e.id.0) s.events;
  files = sorted_by (λ f. f.media.0) s.files;
}

-- how many first bytes two texts have in common: the place of the first that differs, or the shorter length
abbrev pub common : List ℕ → List ℕ → ℕ
common [] bs = 0
common (a ∷ xs) [] = 0
common (a ∷ xs) (b ∷ bs) = if a == b then common xs bs + 1 else 0

-- the bytes are the canonical text
abbrev pub canonical : List ℕ → SnapshotRow → Result SnapshotRow ManifestFault
canonical bytes s = if bytes_eq bytes (text s) then Ok s else Err (NotCanonical (common bytes (text s)))

-- ---- the whole

-- the rows, each valid by itself in the form of the version, in the order in which they stand
unfoldable pub draft_at : Data → Result SnapshotRow ManifestFault
draft_at d = do
  version ← version_at d
  default ← in_entry 0 0 (members_at d)
  zone ← in_entry 0 0 (member_at zone_at (codes "zone") d)
  files ← rows_at 1 Files MANIFEST_FILES Media file_at (λ f. f.media.0) (codes "files") d
  layouts ← rows_at 2 Layouts MANIFEST_LAYOUTS Layout layout_at (λ l. l.id.0) (codes "layouts") d
  campaigns ← rows_at 3 Campaigns MANIFEST_CAMPAIGNS Campaign campaign_at (λ c. c.id.0) (codes "campaigns") d
  dayparts ← rows_at 4 Dayparts MANIFEST_DAYPARTS Daypart (daypart_at (form_of version)) (λ d. d.id.0) (codes "dayparts") d
  events ← rows_at 5 Events MANIFEST_EVENTS Event (event_at (form_of version)) (λ e. e.id.0) (codes "events") d
  Ok (record {
    version = version;
    zone = zone;
    default = default;
    layouts = layouts;
    campaigns = campaigns;
    dayparts = dayparts;
    events = events;
    files = files;
  })

unfoldable pub rows_of : List ℕ → Result SnapshotRow ManifestFault
rows_of bytes = do
  d ← json_at bytes
  draft_at d

unfoldable pub manifest_at : List ℕ → Result SnapshotRow ManifestFault
manifest_at bytes = do
  s ← rows_of bytes
  named ← none_of (dangling s)
  short ← needs (nat_le (length bytes) MANIFEST_TEXT) (Limit Text (length bytes))
  canonical bytes (ordered s)
