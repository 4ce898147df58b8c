-- Rows as a server kept them before version 2: a daypart without dates, an event without a layer. All other rows have the
-- text of today.
use Rattle.std.specs.Prelude.{ℕ, ◌==◌, ◌&&◌, Bool, true, false, not, if◌then◌else◌, length, Option, Some, None}
use Rattle.serde_json.specs.Data.{Data}
use Rattle.sg_base.specs.declared.repeat.Unit.{Unit as RepeatUnit}
use Rattle.sg_base.specs.declared.repeat.Unit.TheVariants.{Hour, Day, Week, Month, MonthWeekday, Year}
use Rattle.sg_base.specs.declared.row.Row.{Row}
use Rattle.sg_base.specs.declared.row.Row.TheVariants as row
use Rattle.sg_base.specs.declared.row.EventRow.{EventRow}
use Rattle.sg_base.specs.Repeat.{RepeatRow}
use Rattle.sg_base.specs.Event.{EventValue}
use Rattle.sg_rows.specs.Text.{undated_json, flat_members}
use Rattle.sg_edit_rows.specs.EditRows.{scheduled_members}

abbrev pub is_month_weekday : RepeatUnit → Bool
is_month_weekday Hour = false
is_month_weekday Day = false
is_month_weekday Week = false
is_month_weekday Month = false
is_month_weekday MonthWeekday = true
is_month_weekday Year = false

abbrev pub is_by_month_weekday : Option RepeatRow → Bool
is_by_month_weekday None = false
is_by_month_weekday (Some r) = is_month_weekday r.unit

-- an event that such a server could keep
abbrev pub is_older_event : EventValue → Bool
is_older_event e = (e.layer == 0) && not (is_by_month_weekday e.repeat)

abbrev pub older_scheduled_json : EventRow → Data
older_scheduled_json e = scheduled_members e (flat_members e.event)

-- the row as such a server kept it, where it could, and where that isn't the text of today
abbrev pub older_json : Row → Option Data
older_json (row.Media f) = None
older_json (row.Layout l) = None
older_json (row.Campaign c) = None
older_json (row.Daypart d) = if length d.dates == 0 then Some (undated_json d) else None
older_json (row.Group g) = None
older_json (row.Display d) = None
older_json (row.Event e) = if is_older_event e.event then Some (older_scheduled_json e) else None
