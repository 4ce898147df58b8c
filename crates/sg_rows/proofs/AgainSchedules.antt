-- The JSON of a valid row of a schedule reads as the row.
use Rattle.std.proofs.Common.{◌≡◌, ◌≢◌, ℕ, true, false, ◌^◌, ◌<◌, ◌≤◌, List, [], length, Ok, subst, refl, lt-ltb, le-leb, arith}
use Rattle.std.specs.Prelude.{Option, Some, None, IfSome, codes}
use Rattle.std.specs.Str.{bytes_eq}
use Rattle.serde_json.specs.Data.{Data, string}
use Rattle.serde_json.specs.Find.{get}
use Rattle.sg_base.specs.declared.limits.TheConstants.{MAX_CAMPAIGN_LAYOUTS}
use Rattle.sg_base.specs.declared.ids.LayoutId.{LayoutId}
use Rattle.sg_base.specs.declared.campaign.Campaign.{Campaign as CampaignRow}
use Rattle.sg_base.specs.declared.daypart.Window.{Window}
use Rattle.sg_base.specs.declared.repeat.Unit.{Unit as RepeatUnit}
use Rattle.sg_base.specs.declared.repeat.Unit.TheVariants.{Hour, Day, Week, Month, MonthWeekday, Year}
use Rattle.sg_base.specs.declared.event.When.{When}
use Rattle.sg_base.specs.declared.event.When.TheVariants.{Always, Custom, Named}
use Rattle.sg_base.specs.declared.event.Target.{Target}
use Rattle.sg_base.specs.declared.event.Target.TheVariants.{Layout, Campaign}
use Rattle.sg_base.specs.declared.zone.ZoneRule.{ZoneRule}
use Rattle.sg_base.specs.declared.zone.ZoneRule.TheVariants.{Offset, Posix}
use Rattle.sg_base.specs.Daypart.{DaypartRow, IsDaypart, daypart_fault}
use Rattle.sg_base.specs.Repeat.{RepeatRow, IsRepeat}
use Rattle.sg_base.specs.Event.{EventValue}
use Rattle.sg_rows.specs.declared.form.RowForm.{RowForm}
use Rattle.sg_rows.specs.declared.form.RowForm.TheVariants.{Version1, Version2, Edit}
use Rattle.sg_rows.specs.Forms.{has_new, new_member_at, with_new, event_members, is_later_daypart, is_later_repeat, is_later_event, AllowsUnit, AllowsLayer}
use Rattle.sg_rows.specs.Zone.{IsZone}
use Rattle.sg_rows.specs.Rows.{IsLayoutId, IsCampaignRow, IsException, IsDate, IsDaypartRow, IsTarget, IsWhen, IsRepeatRow, IsEventRow}
use Rattle.sg_rows.specs.Text.{layout_id_json, campaign_json, whole, exception_json, date_json, undated_json, dated_json, daypart_json, unit_text, until_json, repeat_json, target_json, when_json, event_json, zone_json}
use Rattle.sg_rows.specs.Parts.{exactly, number_at, nullable_at}
use Rattle.sg_rows.specs.Reading.{layout_id_at, some_layouts, campaign_at, window_at, exception_at, date_at, daypart_at, unit_at, repeat_at, target_at, custom_at, named_at, when_at, parts_at, made_repeat, made_event, event_at, rule_at, zone_at}
use Rattle.sg_rows.proofs.FormLemmas.{small_layer}
use Rattle.sg_rows.proofs.ZoneLemmas.{minutes_of_zone, telling_again}
use Rattle.sg_rows.proofs.DayLemmas.{days_again}
use Rattle.sg_rows.proofs.OrderLemmas.{sorted_again, rises_from_ascends}
use Rattle.sg_rows.specs.Order.{sorted_by}
use Rattle.sg_rows.proofs.AgainRows.{list_again, id_again, integer_again}

layout_id_again : (l : LayoutId) → IsLayoutId l → layout_id_at (layout_id_json l) ≡ Ok l
unfolding layout_id_at
layout_id_again l h = rw (id_again l.0 h) refl

some_again : (ls : List LayoutId) → 1 ≤ length ls → length ls ≤ MAX_CAMPAIGN_LAYOUTS → some_layouts ls ≡ Ok ls
some_again ls some few =
    let low : 0 < length ls = omega (arith, some) in
    rw (lt-ltb 0 (length ls) low, le-leb (length ls) MAX_CAMPAIGN_LAYOUTS few) refl

pub campaign_again : (c : CampaignRow) → IsCampaignRow c → campaign_at (campaign_json c) ≡ Ok c
unfolding campaign_at
campaign_again c h =
    rw (
      id_again c.id.0 h.id,
      list_again layout_id_json layout_id_at IsLayoutId layout_id_again c.layouts h.layouts,
      some_again c.layouts h.some h.few,
    ) refl

exception_again : (e : ℕ × Window) → IsException e → exception_at (exception_json e) ≡ Ok e
unfolding exception_at window_at
exception_again e h =
    let day : e.0 < 2 ^ 32 = omega (arith, h.day) in
    rw (lt-ltb e.0 (2 ^ 32) day, lt-ltb e.0 256 h.day, lt-ltb e.1.start (2 ^ 32) h.window.start, lt-ltb e.1.end (2 ^ 32) h.window.end) refl

date_again : (e : ℕ × Window) → IsDate e → date_at (date_json e) ≡ Ok e
unfolding date_at window_at
date_again e h =
    rw (lt-ltb e.0 (2 ^ 32) h.date, lt-ltb e.1.start (2 ^ 32) h.window.start, lt-ltb e.1.end (2 ^ 32) h.window.end) refl

sorted_exceptions : (d : DaypartRow) → IsDaypart d → sorted_by (λ e. e.0) d.exceptions ≡ d.exceptions
sorted_exceptions d h = sorted_again (λ (e : ℕ × Window). e.0) d.exceptions (rises_from_ascends d.exceptions h.ordered)

sorted_dates : (d : DaypartRow) → IsDaypart d → sorted_by (λ e. e.0) d.dates ≡ d.dates
sorted_dates d h = sorted_again (λ (e : ℕ × Window). e.0) d.dates (rises_from_ascends d.dates h.dates_ordered)

-- without dates a daypart reads the same in an edit, where they may be missing
undated_again : (form : RowForm) (d : DaypartRow) → IsDaypartRow Version1 d
    → is_later_daypart form (undated_json d) ≡ false → has_new form (codes "dates") (undated_json d) ≡ false → daypart_at form (undated_json d) ≡ Ok d
unfolding daypart_at window_at
undated_again form d h now none =
    let accepted : daypart_fault d.window d.exceptions [] ≡ None = subst (λ (ds : List (ℕ × Window)). daypart_fault d.window d.exceptions ds ≡ None) h.allowed h.accepted.sound in
    rw (
      now,
      none,
      id_again d.id.0 h.id,
      lt-ltb d.window.start (2 ^ 32) h.window.start,
      lt-ltb d.window.end (2 ^ 32) h.window.end,
      list_again exception_json exception_at IsException exception_again d.exceptions h.exceptions,
      accepted,
      sorted_exceptions d h.accepted,
      ← h.allowed,
    ) refl

dated_again : (form : RowForm) (d : DaypartRow) → IsDaypartRow form d
    → is_later_daypart form (dated_json d) ≡ false → has_new form (codes "dates") (dated_json d) ≡ true → daypart_at form (dated_json d) ≡ Ok d
unfolding daypart_at window_at
dated_again form d h now some =
    rw (
      now,
      some,
      id_again d.id.0 h.id,
      lt-ltb d.window.start (2 ^ 32) h.window.start,
      lt-ltb d.window.end (2 ^ 32) h.window.end,
      list_again exception_json exception_at IsException exception_again d.exceptions h.exceptions,
      list_again date_json date_at IsDate date_again d.dates h.dates,
      h.accepted.sound,
      sorted_exceptions d h.accepted,
      sorted_dates d h.accepted,
    ) refl

pub daypart_again : (form : RowForm) (d : DaypartRow) → IsDaypartRow form d → daypart_at form (daypart_json form d) ≡ Ok d
daypart_again Version1 d h = undated_again Version1 d h refl refl
daypart_again Version2 d h = dated_again Version2 d h refl refl
daypart_again Edit d h = dated_again Edit d h refl refl

-- what version 1 wrote of a daypart is read in an edit too
pub older_daypart_again : (d : DaypartRow) → IsDaypartRow Version1 d → daypart_at Edit (undated_json d) ≡ Ok d
older_daypart_again d h = undated_again Edit d h refl refl

unit_again : (u : RepeatUnit) → unit_at (string (unit_text u)) ≡ Ok u
unit_again Hour = refl
unit_again Day = refl
unit_again Week = refl
unit_again Month = refl
unit_again MonthWeekday = refl
unit_again Year = refl

until_again : (o : Option ℕ) → IfSome o (λ day. day < 2 ^ 32) → nullable_at number_at (until_json o) ≡ Ok o
until_again None h = refl
until_again (Some day) h = rw (lt-ltb day (2 ^ 32) h) refl

-- a repeat of its form, whatever its own fault
pub repeat_again : (o : Option RepeatRow) → IfSome o IsRepeatRow → nullable_at repeat_at (repeat_json o) ≡ Ok o
unfolding repeat_at
repeat_again None h = refl
repeat_again (Some r) h =
    rw (days_again r.days h.days, lt-ltb r.every (2 ^ 32) h.every, unit_again r.unit, until_again r.until h.until) refl

made_repeat_again : (o : Option RepeatRow) → IfSome o IsRepeat → made_repeat o ≡ Ok o
made_repeat_again None h = refl
made_repeat_again (Some r) h = rw h.sound refl

unit_now : (u : RepeatUnit) → u ≢ MonthWeekday → bytes_eq (unit_text u) (codes "month-weekday") ≡ false
unit_now Hour h = refl
unit_now Day h = refl
unit_now Week h = refl
unit_now Month h = refl
unit_now MonthWeekday h = absurd (h refl)
unit_now Year h = refl

repeat_now : (o : Option RepeatRow) → IfSome o (λ r. AllowsUnit Version1 r.unit) → is_later_repeat (repeat_json o) ≡ false
repeat_now None h = refl
repeat_now (Some r) h = unit_now r.unit h

pub target_again : (t : Target) → IsTarget t → target_at (target_json t) ≡ Ok t
target_again (Layout id) h = rw (id_again id.0 h) refl
target_again (Campaign id) h = rw (id_again id.0 h) refl

pub when_again : (w : When) → IsWhen w → when_at (when_json w) ≡ Ok w
unfolding custom_at named_at
when_again Always h = refl
when_again (Custom from to) h = rw (lt-ltb from (2 ^ 32) h.0, lt-ltb to (2 ^ 32) h.1) refl
when_again (Named daypart date) h = rw (lt-ltb date (2 ^ 32) h.1, id_again daypart.0 h.0) refl

-- an event's own members, in whatever object they stand
pub record HasMembers (form : RowForm) (e : EventValue) (d : Data) : Type 0 where
  pub now : is_later_event form d ≡ false
  pub all : exactly (with_new form (event_members form) (codes "layer") d) d ≡ Ok tt
  pub id : get (codes "id") d ≡ Some (whole e.id.0)
  pub layer : new_member_at form number_at 0 (codes "layer") d ≡ Ok e.layer
  pub order : get (codes "order") d ≡ Some (whole e.order)
  pub priority : get (codes "priority") d ≡ Some (whole e.priority)
  pub repeat : get (codes "repeat") d ≡ Some (repeat_json e.repeat)
  pub share : get (codes "share") d ≡ Some (whole e.share)
  pub target : get (codes "target") d ≡ Some (target_json e.target)
  pub when : get (codes "when") d ≡ Some (when_json e.when)

pub parts_again : (form : RowForm) (e : EventValue) (d : Data) → IsEventRow form e → HasMembers form e d → parts_at form d ≡ Ok e
unfolding parts_at
parts_again form e d h m =
    rw (
      m.now,
      m.all,
      m.id,
      id_again e.id.0 h.id,
      m.layer,
      m.order,
      lt-ltb e.order (2 ^ 32) h.order,
      m.priority,
      lt-ltb e.priority (2 ^ 32) h.priority,
      m.repeat,
      repeat_again e.repeat h.repeat,
      m.share,
      lt-ltb e.share (2 ^ 32) h.share,
      m.target,
      target_again e.target h.target,
      m.when,
      when_again e.when h.when,
    ) refl

-- a layer that a form allows is read
pub layer_again : (form : RowForm) (layer : ℕ) → AllowsLayer form layer → number_at (whole layer) ≡ Ok layer
layer_again form layer h = rw (lt-ltb layer (2 ^ 32) (omega (arith, small_layer form layer h))) refl

pub made_event_again : (form : RowForm) (e : EventValue) → IsEventRow form e → made_event e ≡ Ok e
made_event_again form e h = rw (made_repeat_again e.repeat h.accepted.repeats, h.accepted.sound) refl

-- version 1: no layer, and no weekday of the month
members_flat : (e : EventValue) → IsEventRow Version1 e → HasMembers Version1 e (event_json Version1 e)
members_flat e h = record {
  now = repeat_now e.repeat h.unit;
  all = refl;
  id = refl;
  layer = rw h.layer refl;
  order = refl;
  priority = refl;
  repeat = refl;
  share = refl;
  target = refl;
  when = refl;
}

members_layered : (e : EventValue) → IsEventRow Version2 e → HasMembers Version2 e (event_json Version2 e)
members_layered e h = record {
  now = refl;
  all = refl;
  id = refl;
  layer = layer_again Version2 e.layer h.layer;
  order = refl;
  priority = refl;
  repeat = refl;
  share = refl;
  target = refl;
  when = refl;
}

-- an event by itself, in the form of a list of a manifest
pub event_again : (form : RowForm) (e : EventValue) → form ≢ Edit → IsEventRow form e → event_at form (event_json form e) ≡ Ok e
unfolding event_at
event_again Version1 e listed h = rw (parts_again Version1 e (event_json Version1 e) h (members_flat e h)) (made_event_again Version1 e h)
event_again Version2 e listed h = rw (parts_again Version2 e (event_json Version2 e) h (members_layered e h)) (made_event_again Version2 e h)
event_again Edit e listed h = absurd (listed refl)

rule_again : (z : ZoneRule) → IsZone z → rule_at (zone_json z) ≡ Ok z
rule_again (Offset z) h = rw (integer_again z (minutes_of_zone z h)) refl
rule_again (Posix text) h = refl

pub zone_again : (z : ZoneRule) → IsZone z → zone_at (zone_json z) ≡ Ok z
unfolding zone_at
zone_again z h = rw (rule_again z h, telling_again z h) refl
