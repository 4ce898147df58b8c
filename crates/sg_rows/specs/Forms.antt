-- The forms in which a row stands, and what they differ in. Version 2 brought the dates of a daypart, the weekday of the
-- month, and the layer of an event. An edit may leave out the dates and the layer.
use Rattle.std.specs.Prelude.{◌≤◌, ◌≡◌, ◌≢◌, ℕ, ◌+◌, ◌==◌, Bool, true, false, List, [], codes, if◌then◌else◌, unwrap_or, option_map, option_and_then, Result, Ok}
use Rattle.std.specs.Str.{bytes_eq}
use Rattle.serde_json.specs.Data.{Data}
use Rattle.serde_json.specs.Find.{get, as_str, as_number, as_u64}
use Rattle.sg_base.specs.declared.limits.TheConstants.{MAX_LAYER}
use Rattle.sg_base.specs.declared.daypart.Window.{Window}
use Rattle.sg_base.specs.declared.repeat.Unit.{Unit as RepeatUnit}
use Rattle.sg_base.specs.declared.repeat.Unit.TheVariants.{MonthWeekday}
use Rattle.sg_rows.specs.declared.form.RowForm.{RowForm}
use Rattle.sg_rows.specs.declared.form.RowForm.TheVariants.{Version1, Version2, Edit}
use Rattle.sg_rows.specs.declared.fault.RowFault.{RowFault}
use Rattle.sg_rows.specs.Parts.{has_member, member_at}

-- ---- what a row of a form has

-- whether a member that version 2 brought is one of the row's
abbrev pub has_new : RowForm → List ℕ → Data → Bool
has_new Version1 name d = false
has_new Version2 name d = true
has_new Edit name d = has_member name d

-- such a member, read by f, or what the row has without it
abbrev pub new_member_at : {A : Type 0} → RowForm → (Data → Result A RowFault) → A → List ℕ → Data → Result A RowFault
new_member_at form f without name d = if has_new form name d then member_at f name d else Ok without

-- how many members a row has, where one of them is new
abbrev pub with_new : RowForm → ℕ → List ℕ → Data → ℕ
with_new form others name d = if has_new form name d then others + 1 else others

-- an event of an edit also has `displays` and `groups`
abbrev pub event_members : RowForm → ℕ
event_members Version1 = 7
event_members Version2 = 7
event_members Edit = 9

-- ---- what is of a later version

abbrev pub member_is : (Data → Bool) → List ℕ → Data → Bool
member_is test name d = unwrap_or (option_map test (get name d)) false

-- dates, where a daypart has none
abbrev pub is_later_daypart : RowForm → Data → Bool
is_later_daypart Version1 d = has_member (codes "dates") d
is_later_daypart Version2 d = false
is_later_daypart Edit d = false

abbrev pub is_month_weekday : Data → Bool
is_month_weekday d = unwrap_or (option_map (λ name. bytes_eq name (codes "month-weekday")) (as_str d)) false

-- the weekday of the month, where a repeat has no such unit
abbrev pub is_later_repeat : Data → Bool
is_later_repeat d = member_is is_month_weekday (codes "unit") d

-- the same of an event's repeat
abbrev pub is_later_event : RowForm → Data → Bool
is_later_event Version1 d = member_is is_later_repeat (codes "repeat") d
is_later_event Version2 d = false
is_later_event Edit d = false

-- ---- which rows a form can say

-- version 1 has no dates
abbrev pub AllowsDates : RowForm → List (ℕ × Window) → Type 0
AllowsDates Version1 ds = ds ≡ []
AllowsDates Version2 ds = Unit {0}
AllowsDates Edit ds = Unit {0}

-- version 1 has no weekday of the month
abbrev pub AllowsUnit : RowForm → RepeatUnit → Type 0
AllowsUnit Version1 unit = unit ≢ MonthWeekday
AllowsUnit Version2 unit = Unit {0}
AllowsUnit Edit unit = Unit {0}

-- version 1 has no layer above the picture
abbrev pub AllowsLayer : RowForm → ℕ → Type 0
AllowsLayer Version1 layer = layer ≡ 0
AllowsLayer Version2 layer = layer ≤ MAX_LAYER
AllowsLayer Edit layer = layer ≤ MAX_LAYER
