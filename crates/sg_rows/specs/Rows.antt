-- When a row of a manifest is valid: its constructor accepts it, its ids are at least 1, and its numbers fit
-- the types that hold them.
use Rattle.std.specs.Prelude.{◌≡◌, ◌≢◌, ℕ, ◌^◌, ◌<◌, ◌≤◌, length, IfSome}
use Rattle.std.specs.List.{AllByRecursion}
use Rattle.hex.specs.Hex.{IsBytes}
use Rattle.sg_base.specs.declared.ids.LayoutId.{LayoutId}
use Rattle.sg_base.specs.declared.layout.Item.{Item}
use Rattle.sg_base.specs.declared.layout.Region.{Region}
use Rattle.sg_base.specs.declared.campaign.Campaign.{Campaign as CampaignRow}
use Rattle.sg_base.specs.declared.daypart.Window.{Window}
use Rattle.sg_base.specs.declared.event.When.{When}
use Rattle.sg_base.specs.declared.event.When.TheVariants.{Always, Custom, Named}
use Rattle.sg_base.specs.declared.event.Target.{Target}
use Rattle.sg_base.specs.declared.event.Target.TheVariants.{Layout, Campaign}
use Rattle.sg_base.specs.declared.file.Listed.{Listed}
use Rattle.sg_base.specs.declared.limits.TheConstants.{MAX_FILE_LEN, MAX_CAMPAIGN_LAYOUTS, MAX_LAYER}
use Rattle.sg_base.specs.Layout.{LayoutRow, IsLayout}
use Rattle.sg_base.specs.Daypart.{DaypartRow, IsDaypart}
use Rattle.sg_base.specs.Repeat.{RepeatRow}
use Rattle.sg_base.specs.Event.{EventValue, IsEvent}
use Rattle.sg_rows.specs.declared.form.RowForm.{RowForm}
use Rattle.sg_rows.specs.declared.form.RowForm.TheVariants.{Version1}
use Rattle.sg_rows.specs.Forms.{AllowsDates, AllowsUnit, AllowsLayer}

-- an id of a row is at least 1 and has 32 bits
pub record IsId (n : ℕ) : Type 0 where
  pub some : 0 < n
  pub fits : n < 2 ^ 32

pub record IsItem (i : Item) : Type 0 where
  pub media : IsId i.media.0
  pub seconds : i.seconds < 2 ^ 32

pub record IsRegion (r : Region) : Type 0 where
  pub id : IsId r.id
  pub items : AllByRecursion IsItem r.items

pub record IsLayoutRow (l : LayoutRow) : Type 0 where
  pub id : IsId l.id.0
  pub regions : AllByRecursion IsRegion l.regions
  pub accepted : IsLayout l

abbrev pub IsLayoutId : LayoutId → Type 0
IsLayoutId l = IsId l.0

-- a campaign has a layout at least
pub record IsCampaignRow (c : CampaignRow) : Type 0 where
  pub id : IsId c.id.0
  pub some : 1 ≤ length c.layouts
  pub few : length c.layouts ≤ MAX_CAMPAIGN_LAYOUTS
  pub layouts : AllByRecursion IsLayoutId c.layouts

pub record IsWindow (w : Window) : Type 0 where
  pub start : w.start < 2 ^ 32
  pub end : w.end < 2 ^ 32

-- a weekday with its window
pub record IsException (e : ℕ × Window) : Type 0 where
  pub day : e.0 < 2 ^ 8
  pub window : IsWindow e.1

-- a date with its window
pub record IsDate (e : ℕ × Window) : Type 0 where
  pub date : e.0 < 2 ^ 32
  pub window : IsWindow e.1

pub record IsDaypartRow (form : RowForm) (d : DaypartRow) : Type 0 where
  pub id : IsId d.id.0
  pub window : IsWindow d.window
  pub exceptions : AllByRecursion IsException d.exceptions
  pub dates : AllByRecursion IsDate d.dates
  pub allowed : AllowsDates form d.dates
  pub accepted : IsDaypart d

abbrev pub IsTarget : Target → Type 0
IsTarget (Layout id) = IsId id.0
IsTarget (Campaign id) = IsId id.0

abbrev pub IsWhen : When → Type 0
IsWhen Always = Unit {0}
IsWhen (Custom from to) = (from < 2 ^ 32) × (to < 2 ^ 32)
IsWhen (Named daypart date) = IsId daypart.0 × (date < 2 ^ 32)

-- seven weekdays: bit w - 1 of days is weekday w
pub record IsRepeatRow (r : RepeatRow) : Type 0 where
  pub every : r.every < 2 ^ 32
  pub days : r.days < 2 ^ 7
  pub until : IfSome r.until (λ day. day < 2 ^ 32)

-- for private clauses: the numbers of an event fit, its repeat's too, and version 1 gives it no layer
pub record IsEventParts (form : RowForm) (e : EventValue) : Type 0 where
  pub id : IsId e.id.0
  pub layer : form ≡ Version1 → e.layer ≡ 0
  pub target : IsTarget e.target
  pub when : IsWhen e.when
  pub repeat : IfSome e.repeat IsRepeatRow
  pub unit : IfSome e.repeat (λ r. AllowsUnit form r.unit)
  pub order : e.order < 2 ^ 32
  pub priority : e.priority < 2 ^ 32
  pub share : e.share < 2 ^ 32

pub record IsEventRow (form : RowForm) (e : EventValue) : Type 0 where
  pub id : IsId e.id.0
  pub layer : AllowsLayer form e.layer
  pub target : IsTarget e.target
  pub when : IsWhen e.when
  pub repeat : IfSome e.repeat IsRepeatRow
  pub unit : IfSome e.repeat (λ r. AllowsUnit form r.unit)
  pub order : e.order < 2 ^ 32
  pub priority : e.priority < 2 ^ 32
  pub share : e.share < 2 ^ 32
  pub accepted : IsEvent e

-- a file has a byte at least, and a digest of 16 (RFC 1321)
pub record IsListed (f : Listed) : Type 0 where
  pub media : IsId f.media.0
  pub some : 1 ≤ f.length
  pub few : f.length ≤ MAX_FILE_LEN
  pub digest : length f.md5 ≡ 16
  pub bytes : IsBytes f.md5
