-- What a manifest says, and when that is valid.
use Rattle.std.specs.Prelude.{ℕ, ◌≤◌, ◌==◌, ◌||◌, Bool, IsTrue, if◌then◌else◌, List, length, map, Contains}
use Rattle.std.specs.List.{AllByRecursion}
use Rattle.std.specs.List.Sorted.{IsStrictlyIncreasing}
use Rattle.sg_base.specs.declared.limits.TheConstants.{MANIFEST_FILES, MANIFEST_LAYOUTS, MANIFEST_CAMPAIGNS, MANIFEST_DAYPARTS, MANIFEST_EVENTS}
use Rattle.sg_base.specs.declared.ids.LayoutId.{LayoutId}
use Rattle.sg_base.specs.declared.layout.Region.{Region}
use Rattle.sg_base.specs.declared.campaign.Campaign.{Campaign as CampaignRow}
use Rattle.sg_base.specs.declared.event.When.{When}
use Rattle.sg_base.specs.declared.event.When.TheVariants.{Always, Custom, Named}
use Rattle.sg_base.specs.declared.event.Target.{Target}
use Rattle.sg_base.specs.declared.event.Target.TheVariants.{Layout, Campaign}
use Rattle.sg_base.specs.declared.file.Listed.{Listed}
use Rattle.sg_base.specs.declared.zone.ZoneRule.{ZoneRule}
use Rattle.sg_base.specs.Layout.{LayoutRow}
use Rattle.sg_base.specs.Daypart.{DaypartRow}
use Rattle.sg_base.specs.Event.{EventValue}
use Rattle.sg_rows.specs.declared.form.RowForm.{RowForm}
use Rattle.sg_rows.specs.declared.form.RowForm.TheVariants.{Version1, Version2}
use Rattle.sg_rows.specs.Zone.{IsZone}
use Rattle.sg_rows.specs.Rows.{IsId, IsLayoutRow, IsCampaignRow, IsDaypartRow, IsEventRow, IsListed}

-- there are two versions of the text
abbrev pub is_version : ℕ → Bool
is_version version = (version == 1) || (version == 2)

-- the form in which the rows of a version stand
abbrev pub form_of : ℕ → RowForm
form_of version = if version == 1 then Version1 else Version2

pub record SnapshotRow : Type 0 where
  pub version : ℕ
  pub zone : ZoneRule
  pub default : LayoutId
  pub layouts : List LayoutRow
  pub campaigns : List CampaignRow
  pub dayparts : List DaypartRow
  pub events : List EventValue
  pub files : List Listed

-- the ids of each list, as numbers
abbrev pub layout_ids : SnapshotRow → List ℕ
layout_ids s = map (λ l. l.id.0) s.layouts

abbrev pub campaign_ids : SnapshotRow → List ℕ
campaign_ids s = map (λ c. c.id.0) s.campaigns

abbrev pub daypart_ids : SnapshotRow → List ℕ
daypart_ids s = map (λ d. d.id.0) s.dayparts

abbrev pub event_ids : SnapshotRow → List ℕ
event_ids s = map (λ e. e.id.0) s.events

abbrev pub file_ids : SnapshotRow → List ℕ
file_ids s = map (λ f. f.media.0) s.files

-- each row is accepted by its constructor, and the version can say it
pub record HasValidRows (s : SnapshotRow) : Type 0 where
  pub layouts : AllByRecursion IsLayoutRow s.layouts
  pub campaigns : AllByRecursion IsCampaignRow s.campaigns
  pub dayparts : AllByRecursion (IsDaypartRow (form_of s.version)) s.dayparts
  pub events : AllByRecursion (IsEventRow (form_of s.version)) s.events
  pub files : AllByRecursion IsListed s.files

-- each list ascends by id, so ids are distinct
pub record IsInOrder (s : SnapshotRow) : Type 0 where
  pub layouts : IsStrictlyIncreasing (layout_ids s)
  pub campaigns : IsStrictlyIncreasing (campaign_ids s)
  pub dayparts : IsStrictlyIncreasing (daypart_ids s)
  pub events : IsStrictlyIncreasing (event_ids s)
  pub files : IsStrictlyIncreasing (file_ids s)

-- each medium of the region is among the files
abbrev pub HasMedia : List ℕ → Region → Type 0
HasMedia files r = AllByRecursion (λ i. Contains files i.media.0) r.items

-- each layout of the campaign is one of these
abbrev pub HasLayouts : List ℕ → CampaignRow → Type 0
HasLayouts layouts c = AllByRecursion (λ l. Contains layouts l.0) c.layouts

-- the target is one of these layouts or campaigns
abbrev pub IsTargetIn : List ℕ → List ℕ → Target → Type 0
IsTargetIn layouts campaigns (Layout id) = Contains layouts id.0
IsTargetIn layouts campaigns (Campaign id) = Contains campaigns id.0

-- a daypart that is named is one of these
abbrev pub IsWhenIn : List ℕ → When → Type 0
IsWhenIn dayparts Always = Unit {0}
IsWhenIn dayparts (Custom from to) = Unit {0}
IsWhenIn dayparts (Named daypart date) = Contains dayparts daypart.0

-- the target is a layout or a campaign of the snapshot
abbrev pub HasTarget : SnapshotRow → Target → Type 0
HasTarget s target = IsTargetIn (layout_ids s) (campaign_ids s) target

-- a daypart that is named is one of the snapshot
abbrev pub HasDaypart : SnapshotRow → When → Type 0
HasDaypart s w = IsWhenIn (daypart_ids s) w

-- what is named is there: the default layout, the layouts' media among the files, the campaigns' layouts,
-- the events' targets and dayparts
pub record HasAllNamed (s : SnapshotRow) : Type 0 where
  pub default : Contains (layout_ids s) s.default.0
  pub media : AllByRecursion (λ l. AllByRecursion (HasMedia (file_ids s)) l.regions) s.layouts
  pub campaigns : AllByRecursion (HasLayouts (layout_ids s)) s.campaigns
  pub targets : AllByRecursion (λ e. HasTarget s e.target) s.events
  pub dayparts : AllByRecursion (λ e. HasDaypart s e.when) s.events

-- no list has more entries than a manifest may have
pub record IsWithinLimits (s : SnapshotRow) : Type 0 where
  pub files : length s.files ≤ MANIFEST_FILES
  pub layouts : length s.layouts ≤ MANIFEST_LAYOUTS
  pub campaigns : length s.campaigns ≤ MANIFEST_CAMPAIGNS
  pub dayparts : length s.dayparts ≤ MANIFEST_DAYPARTS
  pub events : length s.events ≤ MANIFEST_EVENTS

-- a valid snapshot
pub record IsSnapshot (s : SnapshotRow) : Type 0 where
  pub version : IsTrue (is_version s.version)
  pub zone : IsZone s.zone
  pub default : IsId s.default.0
  pub rows : HasValidRows s
  pub order : IsInOrder s
  pub named : HasAllNamed s
  pub few : IsWithinLimits s
