-- Events: what is scheduled, when, and with which precedence.
use Rattle.std.specs.Prelude.{◌≡◌, ℕ, ◌/◌, nat_lt, nat_le, ◌||◌, ◌&&◌, Bool, true, false, if◌then◌else◌, Option, Some, None, IfSome}
use Rattle.sg_base.specs.declared.ids.EventId.{EventId}
use Rattle.sg_base.specs.declared.repeat.Unit.{Unit}
use Rattle.sg_base.specs.declared.repeat.Unit.TheVariants.{Hour, Day, Week, Month, MonthWeekday, Year}
use Rattle.sg_base.specs.declared.event.When.{When}
use Rattle.sg_base.specs.declared.event.When.TheVariants.{Always, Custom, Named}
use Rattle.sg_base.specs.declared.event.Target.{Target}
use Rattle.sg_base.specs.declared.event.Target.TheVariants.{Layout, Campaign}
use Rattle.sg_base.specs.declared.event.EventFault.{EventFault}
use Rattle.sg_base.specs.declared.event.EventFault.TheVariants.{BigNumber, BigShare, InterruptCampaign, EmptyTime, PastRange, AlwaysRepeats, HourDaypart, UntilBeforeBase, BadLayer, OverlayForm}
use Rattle.sg_base.specs.declared.limits.TheConstants.{DAY, TIME_END, LAST_DAY, MAX_ORDER, MAX_SHARE, MAX_LAYER}
use Rattle.sg_base.specs.Faults.{first_of}
use Rattle.sg_base.specs.Repeat.{RepeatRow, IsRepeat}

-- layer 0 is the picture, layer 1 what is shown above it
pub record EventValue : Type 0 where
  pub id : EventId
  pub layer : ℕ
  pub target : Target
  pub when : When
  pub repeat : Option RepeatRow
  pub order : ℕ
  pub priority : ℕ
  pub share : ℕ

abbrev pub is_campaign : Target → Bool
is_campaign (Layout id) = false
is_campaign (Campaign id) = true

-- order and priority have 16 bits, a share is at most the seconds of an hour, and an interrupt shows a layout
abbrev pub numbers_fault : Target → ℕ → ℕ → ℕ → Option EventFault
numbers_fault target order priority share = if nat_lt MAX_ORDER order || nat_lt MAX_ORDER priority then Some BigNumber else
    (if nat_lt MAX_SHARE share then Some BigShare else
    (if nat_lt 0 share && is_campaign target then Some InterruptCampaign else None))

-- a time has a second at least, and ends with 2099
abbrev pub time_fault : When → Option EventFault
time_fault Always = None
time_fault (Custom from to) = if nat_le to from then Some EmptyTime else (if nat_lt TIME_END to then Some PastRange else None)
time_fault (Named daypart date) = if nat_lt LAST_DAY date then Some PastRange else None

abbrev pub is_hour : Unit → Bool
is_hour Hour = true
is_hour Day = false
is_hour Week = false
is_hour Month = false
is_hour MonthWeekday = false
is_hour Year = false

-- a repeat doesn't end before the day that it begins on
abbrev pub until_fault : ℕ → Option ℕ → Option EventFault
until_fault base None = None
until_fault base (Some day) = if nat_lt day base then Some UntilBeforeBase else None

abbrev pub repeat_fault : When → Option RepeatRow → Option EventFault
repeat_fault w None = None
repeat_fault Always (Some r) = Some AlwaysRepeats
repeat_fault (Custom from to) (Some r) = until_fault (from / DAY) r.until
repeat_fault (Named daypart date) (Some r) = if is_hour r.unit then Some HourDaypart else until_fault date r.until

-- there are two layers, and what is shown above the picture is one layout for all of its time
abbrev pub layer_fault : ℕ → Target → ℕ → Option EventFault
layer_fault layer target share = if nat_lt MAX_LAYER layer then Some BadLayer else
    (if nat_lt 0 layer && (nat_lt 0 share || is_campaign target) then Some OverlayForm else None)

-- the first fault, in the order in which an event is refused
abbrev pub event_fault : ℕ → Target → When → Option RepeatRow → ℕ → ℕ → ℕ → Option EventFault
event_fault layer target w repeat order priority share =
    first_of (numbers_fault target order priority share)
    (first_of (time_fault w)
    (first_of (repeat_fault w repeat) (layer_fault layer target share)))

pub record IsEvent (e : EventValue) : Type 0 where
  pub repeats : IfSome e.repeat IsRepeat
  pub sound : event_fault e.layer e.target e.when e.repeat e.order e.priority e.share ≡ None
