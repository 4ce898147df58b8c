-- Each row as JSON (RFC 8259) in each form, members in byte order of their names.
use Rattle.std.specs.Prelude.{ℕ, ◌-◌, ◌/◌, ◌%◌, ◌^◌, ◌==◌, List, [], ◌∷◌, map, filter, codes, Option, Some, None, true}
use Rattle.serde_json.specs.Data.{Data, null, boolean, number, string, array, object, unsigned, Members, member, no_members}
use Rattle.serde_json.specs.Find.{of_integer}
use Rattle.serde_json.specs.View.{items_of}
use Rattle.hex.specs.Hex.{encode_lower}
use Rattle.sg_base.specs.declared.ids.LayoutId.{LayoutId}
use Rattle.sg_base.specs.declared.layout.Item.{Item}
use Rattle.sg_base.specs.declared.layout.Region.{Region}
use Rattle.sg_base.specs.declared.campaign.Campaign.{Campaign as CampaignRow}
use Rattle.sg_base.specs.declared.daypart.Window.{Window}
use Rattle.sg_base.specs.declared.repeat.Unit.{Unit as RepeatUnit}
use Rattle.sg_base.specs.declared.repeat.Unit.TheVariants.{Hour, Day, Week, Month, MonthWeekday, Year}
use Rattle.sg_base.specs.declared.event.When.{When}
use Rattle.sg_base.specs.declared.event.When.TheVariants.{Always, Custom, Named}
use Rattle.sg_base.specs.declared.event.Target.{Target}
use Rattle.sg_base.specs.declared.event.Target.TheVariants.{Layout, Campaign}
use Rattle.sg_base.specs.declared.file.Listed.{Listed}
use Rattle.sg_base.specs.declared.zone.ZoneRule.{ZoneRule}
use Rattle.sg_base.specs.declared.zone.ZoneRule.TheVariants.{Offset, Posix}
use Rattle.sg_base.specs.Layout.{LayoutRow}
use Rattle.sg_base.specs.Daypart.{DaypartRow}
use Rattle.sg_base.specs.Repeat.{RepeatRow}
use Rattle.sg_base.specs.Event.{EventValue}
use Rattle.sg_rows.specs.declared.form.RowForm.{RowForm}
use Rattle.sg_rows.specs.declared.form.RowForm.TheVariants.{Version1, Version2, Edit}

abbrev pub whole : ℕ → Data
whole n = number (unsigned n)

-- the rows in their order
abbrev pub list_of : {A : Type 0} → (A → Data) → List A → Data
list_of f xs = array (items_of (map f xs))

abbrev pub item_json : Item → Data
item_json i = object (member (codes "media") (whole i.media.0) (member (codes "seconds") (whole i.seconds) no_members))

abbrev pub region_json : Region → Data
region_json r = object (member (codes "id") (whole r.id) (member (codes "items") (list_of item_json r.items) no_members))

abbrev pub layout_json : LayoutRow → Data
layout_json l = object (member (codes "id") (whole l.id.0) (member (codes "regions") (list_of region_json l.regions) no_members))

abbrev pub layout_id_json : LayoutId → Data
layout_id_json l = whole l.0

abbrev pub campaign_json : CampaignRow → Data
campaign_json c = object (member (codes "id") (whole c.id.0) (member (codes "layouts") (list_of layout_id_json c.layouts) no_members))

abbrev pub window_members : Window → Members
window_members w = member (codes "end") (whole w.end) (member (codes "start") (whole w.start) no_members)

abbrev pub exception_json : ℕ × Window → Data
exception_json e = object (member (codes "day") (whole e.0) (window_members e.1))

abbrev pub date_json : ℕ × Window → Data
date_json e = object (member (codes "date") (whole e.0) (window_members e.1))

-- the members of a daypart without dates, as version 1 has them, and a server before version 2
abbrev pub later_members : DaypartRow → Members
later_members d =
    member (codes "exceptions") (list_of exception_json d.exceptions)
    (member (codes "id") (whole d.id.0)
    (member (codes "start") (whole d.window.start) no_members))

abbrev pub daypart_members : DaypartRow → Members
daypart_members d = member (codes "end") (whole d.window.end) (later_members d)

abbrev pub undated_json : DaypartRow → Data
undated_json d = object (daypart_members d)

abbrev pub dated_json : DaypartRow → Data
dated_json d = object (member (codes "dates") (list_of date_json d.dates) (daypart_members d))

abbrev pub daypart_json : RowForm → DaypartRow → Data
daypart_json Version1 d = undated_json d
daypart_json Version2 d = dated_json d
daypart_json Edit d = dated_json d

-- the weekdays of a repeat, 1 (Monday) to 7 (Sunday): bit w - 1 of days is weekday w
abbrev pub weekdays : ℕ → List ℕ
weekdays days = filter (λ w. days / 2 ^ (w - 1) % 2 == 1) (1 ∷ 2 ∷ 3 ∷ 4 ∷ 5 ∷ 6 ∷ 7 ∷ [])

abbrev pub unit_text : RepeatUnit → List ℕ
unit_text Hour = codes "hour"
unit_text Day = codes "day"
unit_text Week = codes "week"
unit_text Month = codes "month"
unit_text MonthWeekday = codes "month-weekday"
unit_text Year = codes "year"

abbrev pub until_json : Option ℕ → Data
until_json None = null
until_json (Some day) = whole day

abbrev pub repeat_json : Option RepeatRow → Data
repeat_json None = null
repeat_json (Some r) = object
    (member (codes "days") (list_of whole (weekdays r.days))
    (member (codes "every") (whole r.every)
    (member (codes "unit") (string (unit_text r.unit))
    (member (codes "until") (until_json r.until) no_members))))

abbrev pub target_json : Target → Data
target_json (Layout id) = object (member (codes "layout") (whole id.0) no_members)
target_json (Campaign id) = object (member (codes "campaign") (whole id.0) no_members)

abbrev pub when_json : When → Data
when_json Always = object (member (codes "always") (boolean true) no_members)
when_json (Custom from to) = object (member (codes "from") (whole from) (member (codes "to") (whole to) no_members))
when_json (Named daypart date) = object (member (codes "date") (whole date) (member (codes "daypart") (whole daypart.0) no_members))

-- the members of an event behind its id and its layer
abbrev pub last_members : EventValue → Members
last_members e =
    member (codes "order") (whole e.order)
    (member (codes "priority") (whole e.priority)
    (member (codes "repeat") (repeat_json e.repeat)
    (member (codes "share") (whole e.share)
    (member (codes "target") (target_json e.target)
    (member (codes "when") (when_json e.when) no_members)))))

-- the members of an event without a layer, as version 1 has them, and a server before version 2
abbrev pub flat_members : EventValue → Members
flat_members e = member (codes "id") (whole e.id.0) (last_members e)

abbrev pub layered_members : EventValue → Members
layered_members e = member (codes "id") (whole e.id.0) (member (codes "layer") (whole e.layer) (last_members e))

-- an event by itself; in an edit it stands with those that it is for
abbrev pub event_json : RowForm → EventValue → Data
event_json Version1 e = object (flat_members e)
event_json Version2 e = object (layered_members e)
event_json Edit e = object (layered_members e)

-- the digest as 32 lower-case hexadecimal digits
abbrev pub file_json : Listed → Data
file_json f = object
    (member (codes "id") (whole f.media.0)
    (member (codes "length") (whole f.length)
    (member (codes "md5") (string (encode_lower f.md5)) no_members)))

abbrev pub zone_json : ZoneRule → Data
zone_json (Offset minutes) = object (member (codes "offset") (number (of_integer minutes)) no_members)
zone_json (Posix text) = object (member (codes "posix") (string text) no_members)
