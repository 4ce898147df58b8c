-- How long something was shown, and how long its plays are.
use Rattle.std.specs.Prelude.{ℕ, ◌+◌, ◌-◌, ◌≤◌, ◌==◌, ◌&&◌, List, [], ◌∷◌, Option, None, Some, if◌then◌else◌, ⊤}
use Rattle.sg_base.specs.declared.play.PlayBody.{PlayBody}
use Rattle.sg_playing.specs.declared.life.Turn.{Turn}
use Rattle.sg_playing.specs.declared.slot.ShownSlot.{ShownSlot}

-- the seconds from one moment to another for an event and a layout, if these are the ones; 0 where the clock went back
abbrev pub counted : ℕ → ℕ → ℕ → ℕ → ℕ → ℕ → ℕ
counted event layout shown_event shown_layout from to =
    if (shown_event == event) && (shown_layout == layout) then to - from else 0

-- the seconds of a play, if it is one of this event and layout
abbrev pub seconds_for : ℕ → ℕ → PlayBody → ℕ
seconds_for event layout play = counted event layout play.event play.layout play.from play.to

-- the seconds from one turn to the next, if the first shows this event and layout
abbrev pub seconds_since : ℕ → ℕ → Option ShownSlot → ℕ → ℕ → ℕ
seconds_since event layout None from to = 0
seconds_since event layout (Some slot) from to = counted event layout slot.event slot.layout from to

-- the seconds of these turns for an event and a layout, where the turn before them showed this at this moment
abbrev pub seconds_from : ℕ → ℕ → Option ShownSlot → ℕ → List Turn → ℕ
seconds_from event layout slot moment [] = 0
seconds_from event layout slot moment (t ∷ ts) =
    seconds_since event layout slot moment t.moment + seconds_from event layout t.slot t.moment ts

-- For an event and a layout, the seconds by which the clock went on from each turn that shows them to the next one.
abbrev pub shown_seconds : ℕ → ℕ → List Turn → ℕ
shown_seconds event layout [] = 0
shown_seconds event layout (t ∷ ts) = seconds_from event layout t.slot t.moment ts

-- the clock doesn't go back in these turns, nor below this moment
abbrev pub GoesForward : ℕ → List Turn → Type 0
GoesForward moment [] = ⊤
GoesForward moment (t ∷ ts) = (moment ≤ t.moment) × GoesForward t.moment ts

-- the clock never goes back
abbrev pub IsForward : List Turn → Type 0
IsForward turns = GoesForward 0 turns

-- each of these plays begins at this moment or later, and not before the one ahead of it has ended
abbrev pub Follows : ℕ → List PlayBody → Type 0
Follows moment [] = ⊤
Follows moment (play ∷ plays) = (moment ≤ play.from) × Follows play.to plays

-- no play begins before the one ahead of it has ended
abbrev pub IsInOrder : List PlayBody → Type 0
IsInOrder plays = Follows 0 plays
