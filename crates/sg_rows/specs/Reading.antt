-- The row that JSON says, or its first fault: `Later`, then `Shape`, then that of the row's constructor. Members may
-- come in any order; which text is the canonical one is no question of a row.
use Rattle.std.specs.Prelude.{ℕ, ◌+◌, ◌-◌, ◌^◌, ◌&&◌, nat_lt, nat_le, Bool, false, not, List, [], codes, length, if◌then◌else◌, unwrap_or, Option, Some, None, Result, Ok, Err}
use Rattle.std.specs.Str.{bytes_eq}
use Rattle.serde_json.specs.Data.{Data, Items, no_items, item}
use Rattle.serde_json.specs.Find.{as_bool}
use Rattle.sg_base.specs.declared.ids.LayoutId.{LayoutId}
use Rattle.sg_base.specs.declared.layout.Item.{Item}
use Rattle.sg_base.specs.declared.layout.Region.{Region}
use Rattle.sg_base.specs.declared.file.Listed.{Listed}
use Rattle.sg_base.specs.declared.campaign.Campaign.{Campaign as CampaignRow}
use Rattle.sg_base.specs.declared.daypart.Window.{Window}
use Rattle.sg_base.specs.declared.repeat.Unit.{Unit as RepeatUnit}
use Rattle.sg_base.specs.declared.repeat.Unit.TheVariants.{Hour, Day, Week, Month, MonthWeekday, Year}
use Rattle.sg_base.specs.declared.event.When.{When}
use Rattle.sg_base.specs.declared.event.When.TheVariants.{Always, Custom, Named}
use Rattle.sg_base.specs.declared.event.Target.{Target}
use Rattle.sg_base.specs.declared.event.Target.TheVariants.{Layout, Campaign}
use Rattle.sg_base.specs.declared.zone.ZoneRule.{ZoneRule}
use Rattle.sg_base.specs.declared.zone.ZoneRule.TheVariants.{Offset, Posix}
use Rattle.sg_base.specs.declared.limits.TheConstants.{MAX_FILE_LEN, MAX_CAMPAIGN_LAYOUTS}
use Rattle.sg_base.specs.Layout.{LayoutRow, layout_fault}
use Rattle.sg_base.specs.Daypart.{DaypartRow, daypart_fault}
use Rattle.sg_base.specs.Repeat.{RepeatRow, repeat_fault}
use Rattle.sg_base.specs.Event.{EventValue, event_fault}
use Rattle.sg_calendar.specs.Zone.{ZoneView, zone_of}
use Rattle.sg_calendar.specs.declared.zone.ZoneFault.{ZoneFault}
use Rattle.sg_rows.specs.declared.form.RowForm.{RowForm}
use Rattle.sg_rows.specs.Forms.{with_new, new_member_at, event_members, is_later_daypart, is_later_event}
use Rattle.sg_rows.specs.declared.fault.RowFault.{RowFault}
use Rattle.sg_rows.specs.declared.fault.RowFault.TheVariants as fault
use Rattle.sg_rows.specs.declared.fault.RowFault.TheVariants.{Shape, Later}
use Rattle.sg_rows.specs.Faults.{◌>>=◌, needs, wants, faultless}
use Rattle.sg_rows.specs.Parts.{exactly, has_member, member_at, number_at, positive, id_at, text_at, integer_at, digest_at, items_at, list_at, nullable_at}
use Rattle.sg_rows.specs.Order.{sorted_by}

-- ---- files

-- a length of at least a byte
abbrev pub file_length : ℕ → Result ℕ RowFault
file_length n = if nat_lt MAX_FILE_LEN n then Err Shape else positive n

unfoldable pub file_at : Data → Result Listed RowFault
file_at d = do
  form ← exactly 3 d
  id ← member_at id_at (codes "id") d
  n ← member_at number_at (codes "length") d
  length ← file_length n
  md5 ← member_at digest_at (codes "md5") d
  Ok (record { media = record { 0 = id }; length = length; md5 = md5 })

-- ---- layouts

unfoldable pub item_at : Data → Result Item RowFault
item_at d = do
  form ← exactly 2 d
  media ← member_at id_at (codes "media") d
  seconds ← member_at number_at (codes "seconds") d
  Ok (record { media = record { 0 = media }; seconds = seconds })

unfoldable pub region_at : Data → Result Region RowFault
region_at d = do
  form ← exactly 2 d
  id ← member_at id_at (codes "id") d
  items ← member_at (list_at item_at) (codes "items") d
  Ok (record { id = id; items = items })

unfoldable pub layout_at : Data → Result LayoutRow RowFault
layout_at d = do
  form ← exactly 2 d
  id ← member_at id_at (codes "id") d
  regions ← member_at (list_at region_at) (codes "regions") d
  faultless fault.Layout (layout_fault regions) (record { id = record { 0 = id }; regions = regions })

-- ---- campaigns

unfoldable pub layout_id_at : Data → Result LayoutId RowFault
layout_id_at d = do
  id ← id_at d
  Ok (record { 0 = id })

-- at least one layout
abbrev pub some_layouts : List LayoutId → Result (List LayoutId) RowFault
some_layouts ls = if nat_lt 0 (length ls) && nat_le (length ls) MAX_CAMPAIGN_LAYOUTS then Ok ls else Err Shape

unfoldable pub campaign_at : Data → Result CampaignRow RowFault
campaign_at d = do
  form ← exactly 2 d
  id ← member_at id_at (codes "id") d
  ls ← member_at (list_at layout_id_at) (codes "layouts") d
  layouts ← some_layouts ls
  Ok (record { id = record { 0 = id }; layouts = layouts })

-- ---- dayparts

unfoldable pub window_at : Data → Result Window RowFault
window_at d = do
  start ← member_at number_at (codes "start") d
  end ← member_at number_at (codes "end") d
  Ok (record { start = start; end = end })

-- a number of 8 bits
abbrev pub small : ℕ → Result ℕ RowFault
small n = if nat_lt n 256 then Ok n else Err Shape

unfoldable pub exception_at : Data → Result (ℕ × Window) RowFault
exception_at d = do
  form ← exactly 3 d
  n ← member_at number_at (codes "day") d
  day ← small n
  window ← window_at d
  Ok (day, window)

unfoldable pub date_at : Data → Result (ℕ × Window) RowFault
date_at d = do
  form ← exactly 3 d
  date ← member_at number_at (codes "date") d
  window ← window_at d
  Ok (date, window)

-- exceptions and dates may come in any order, and the daypart has them by weekday and by date
unfoldable pub daypart_at : RowForm → Data → Result DaypartRow RowFault
daypart_at form d = do
  now ← needs (not (is_later_daypart form d)) Later
  all ← exactly (with_new form 4 (codes "dates") d) d
  id ← member_at id_at (codes "id") d
  window ← window_at d
  es ← member_at (list_at exception_at) (codes "exceptions") d
  ds ← new_member_at form (list_at date_at) [] (codes "dates") d
  faultless fault.Daypart (daypart_fault window es ds)
      (record { id = record { 0 = id }; window = window; exceptions = sorted_by (λ e. e.0) es; dates = sorted_by (λ e. e.0) ds })

-- ---- repeats

-- the bits of some weekdays and of a later one
abbrev pub with_bit : ℕ → ℕ → Result ℕ RowFault
with_bit bits bit = if nat_lt bits bit then Ok (bits + bit) else Err Shape

-- a weekday is 1 to 7
abbrev pub with_weekday : ℕ → ℕ → Result ℕ RowFault
with_weekday bits w = if nat_lt 0 w && nat_lt w 8 then with_bit bits (2 ^ (w - 1)) else Err Shape

-- ascending weekdays, behind those with these bits
abbrev pub days_from : ℕ → Items → Result ℕ RowFault
days_from bits no_items = Ok bits
days_from bits (item d ds) = number_at d >>= (λ w. with_weekday bits w >>= (λ more. days_from more ds))

abbrev pub days_at : Data → Result ℕ RowFault
days_at d = items_at d >>= days_from 0

abbrev pub unit_of : List ℕ → Option RepeatUnit
unit_of name =
    if bytes_eq name (codes "hour") then Some Hour
    else (if bytes_eq name (codes "day") then Some Day
    else (if bytes_eq name (codes "week") then Some Week
    else (if bytes_eq name (codes "month") then Some Month
    else (if bytes_eq name (codes "month-weekday") then Some MonthWeekday
    else (if bytes_eq name (codes "year") then Some Year else None)))))

abbrev pub unit_at : Data → Result RepeatUnit RowFault
unit_at d = text_at d >>= (λ name. wants (unit_of name) Shape)

-- its form alone: a repeat's own fault comes after the form of the whole event
unfoldable pub repeat_at : Data → Result RepeatRow RowFault
repeat_at d = do
  form ← exactly 4 d
  days ← member_at days_at (codes "days") d
  every ← member_at number_at (codes "every") d
  unit ← member_at unit_at (codes "unit") d
  until ← member_at (nullable_at number_at) (codes "until") d
  Ok (record { unit = unit; every = every; days = days; until = until })

-- ---- events

abbrev pub layout_target : Data → Result Target RowFault
layout_target d = member_at id_at (codes "layout") d >>= (λ id. Ok (Layout (record { 0 = id })))

abbrev pub campaign_target : Data → Result Target RowFault
campaign_target d = member_at id_at (codes "campaign") d >>= (λ id. Ok (Campaign (record { 0 = id })))

abbrev pub target_at : Data → Result Target RowFault
target_at d = exactly 1 d >>= (λ form. if has_member (codes "layout") d then layout_target d else campaign_target d)

-- the one value of `always` is true
abbrev pub is_true : Data → Bool
is_true d = unwrap_or (as_bool d) false

abbrev pub true_at : Data → Result (Unit {0}) RowFault
true_at d = needs (is_true d) Shape

abbrev pub always_at : Data → Result When RowFault
always_at d = exactly 1 d >>= (λ form. member_at true_at (codes "always") d >>= (λ one. Ok Always))

unfoldable pub custom_at : Data → Result When RowFault
custom_at d = do
  form ← exactly 2 d
  from ← member_at number_at (codes "from") d
  to ← member_at number_at (codes "to") d
  Ok (Custom from to)

unfoldable pub named_at : Data → Result When RowFault
named_at d = do
  form ← exactly 2 d
  date ← member_at number_at (codes "date") d
  daypart ← member_at id_at (codes "daypart") d
  Ok (Named (record { 0 = daypart }) date)

abbrev pub when_at : Data → Result When RowFault
when_at d = if has_member (codes "always") d then always_at d else (if has_member (codes "from") d then custom_at d else named_at d)

-- the members of an event that every form has, and its layer
unfoldable pub parts_at : RowForm → Data → Result EventValue RowFault
parts_at form d = do
  now ← needs (not (is_later_event form d)) Later
  all ← exactly (with_new form (event_members form) (codes "layer") d) d
  id ← member_at id_at (codes "id") d
  layer ← new_member_at form number_at 0 (codes "layer") d
  order ← member_at number_at (codes "order") d
  priority ← member_at number_at (codes "priority") d
  repeat ← member_at (nullable_at repeat_at) (codes "repeat") d
  share ← member_at number_at (codes "share") d
  target ← member_at target_at (codes "target") d
  w ← member_at when_at (codes "when") d
  Ok (record { id = record { 0 = id }; layer = layer; target = target; when = w; repeat = repeat; order = order; priority = priority; share = share })

-- the repeat's own fault
abbrev pub made_repeat : Option RepeatRow → Result (Option RepeatRow) RowFault
made_repeat None = Ok None
made_repeat (Some r) = faultless fault.Repeat (repeat_fault r.unit r.every r.days r.until) (Some r)

-- the event's own fault, after its repeat's
abbrev pub made_event : EventValue → Result EventValue RowFault
made_event e = made_repeat e.repeat >>= (λ r.
    faultless fault.Event (event_fault e.layer e.target e.when r e.order e.priority e.share)
    (record { id = e.id; layer = e.layer; target = e.target; when = e.when; repeat = r; order = e.order; priority = e.priority; share = e.share }))

-- an event by itself
unfoldable pub event_at : RowForm → Data → Result EventValue RowFault
event_at form d = do
  parts ← parts_at form d
  made_event parts

-- ---- zones

abbrev pub offset_rule : Data → Result ZoneRule RowFault
offset_rule d = member_at integer_at (codes "offset") d >>= (λ z. Ok (Offset z))

abbrev pub posix_rule : Data → Result ZoneRule RowFault
posix_rule d = member_at text_at (codes "posix") d >>= (λ text. Ok (Posix text))

abbrev pub rule_at : Data → Result ZoneRule RowFault
rule_at d = exactly 1 d >>= (λ form. if has_member (codes "offset") d then offset_rule d else posix_rule d)

abbrev pub telling : Result ZoneView ZoneFault → ZoneRule → Result ZoneRule RowFault
telling (Ok z) rule = Ok rule
telling (Err e) rule = Err (fault.Zone e)

-- a rule that tells a zone
unfoldable pub zone_at : Data → Result ZoneRule RowFault
zone_at d = do
  rule ← rule_at d
  telling (zone_of rule) rule
