-- What a zone's rule says, and the local second of a moment.
use Rattle.std.specs.Prelude.{ℕ, nat_le, int_lt, ◌&&◌, ◌||◌, Bool, if◌then◌else◌, List, length, Option, Some, None, Result, Ok, Err, ℤ, pos, neg_ℤ, ◌+ℤ◌, ◌-ℤ◌, ◌*ℤ◌}
use Rattle.std.specs.List.{list_all}
use Rattle.jiff_core.specs.Timestamp.{nanos_of_seconds}
use Rattle.jiff_tz.specs.PosixReader.{read_whole}
use Rattle.jiff_tz.specs.PosixText.{DstText, TzText}
use Rattle.jiff_tz.specs.PosixRule.{match_some, rule_day, clamp_to, nanos_per_day, first_nanosecond, last_nanosecond, saturating_add, int_same, in_window}
use Rattle.jiff_tz.specs.Year.{year_of_nanos}
use Rattle.jiff_tz.specs.declared.posix.Day.{Day}
use Rattle.sg_base.specs.declared.limits.TheConstants.{MAX_OFFSET, MAX_ZONE_TEXT}
use Rattle.sg_base.specs.declared.zone.ZoneRule.{ZoneRule}
use Rattle.sg_base.specs.declared.zone.ZoneRule.TheVariants.{Offset, Posix}
use Rattle.sg_calendar.specs.declared.zone.ZoneFault.{ZoneFault}
use Rattle.sg_calendar.specs.declared.zone.ZoneFault.TheVariants.{OffsetRange, BadZone}

-- minutes ahead of UTC, or what a POSIX TZ text says
pub data ZoneView : Type 0 where
  Minutes : ℤ → ZoneView
  Says : TzText → ZoneView

-- 1 to 64 printable bytes of ASCII
abbrev pub is_text : List ℕ → Bool
is_text text =
    nat_le 1 (length text) && (nat_le (length text) MAX_ZONE_TEXT && list_all (λ b. nat_le 32 b && nat_le b 126) text)

abbrev pub zone_of_read : Option TzText → Result ZoneView ZoneFault
zone_of_read None = Err BadZone
zone_of_read (Some t) = Ok (Says t)

-- a text is read whole by the library's grammar of POSIX TZ (with RFC 9636's hours of -167 to 167), or refused
unfoldable pub zone_of_text : List ℕ → Result ZoneView ZoneFault
zone_of_text text = if is_text text then zone_of_read (read_whole text) else Err BadZone

-- the zone that a rule tells, or why it tells none: an offset has -840 to 840 minutes
abbrev pub zone_of : ZoneRule → Result ZoneView ZoneFault
zone_of (Offset n) =
    if int_lt n (neg_ℤ MAX_OFFSET) || int_lt MAX_OFFSET n then Err (OffsetRange n) else Ok (Minutes n)
zone_of (Posix text) = zone_of_text text

-- when a change of clocks falls in the year y, in nanoseconds at UTC, on a clock `seconds` ahead of UTC
abbrev pub moment_of : ℤ → Day × ℤ → ℤ → ℤ
moment_of y d seconds = match_some (rule_day y d.0) (last_nanosecond y) (λ day.
    clamp_to (first_nanosecond y) (last_nanosecond y) (day *ℤ nanos_per_day +ℤ nanos_of_seconds (d.1 -ℤ seconds)))

-- when daylight saving time begins and ends in the year y. Where it begins with the year and its end, read
-- at standard time, leaves the year, it lasts all year
unfoldable pub window_of : DstText → ℤ → ℤ → ℤ × ℤ
window_of d y std =
    let start : ℤ = moment_of y d.start std in
    let end : ℤ = moment_of y d.finish d.seconds in
    let shifted : ℤ = saturating_add end (nanos_of_seconds std) in
    if int_same start (first_nanosecond y)
    && (int_lt shifted (first_nanosecond y) || int_lt (last_nanosecond y) shifted)
    then (start, last_nanosecond y) else (start, end)

-- seconds ahead of UTC at a nanosecond
abbrev pub offset_in : ℤ → Option DstText → ℤ → ℤ
offset_in std None n = std
offset_in std (Some d) n = if in_window (window_of d (year_of_nanos n) std) n then d.seconds else std

-- seconds ahead of UTC at a moment
unfoldable pub offset_of : TzText → ℕ → ℤ
offset_of t m = offset_in t.std_seconds t.dst (pos m *ℤ pos 1_000_000_000)

-- the local second of a moment
abbrev pub local_at : ZoneView → ℕ → ℤ
local_at (Minutes n) m = pos m +ℤ pos 60 *ℤ n
local_at (Says t) m = pos m +ℤ offset_of t m
