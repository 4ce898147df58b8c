-- Which plays a player records of what its turns show.
use Rattle.std.specs.Prelude.{ℕ, ◌≤◌, ◌==◌, ◌&&◌, Bool, false, List, [], ◌∷◌, Option, None, Some, max, nat_le, nat_lt, if◌then◌else◌, ⊤}
use Rattle.std.specs.Ordering.{int_eq}
use Rattle.sg_base.specs.declared.play.PlayBody.{PlayBody}
use Rattle.sg_playing.specs.declared.life.Turn.{Turn}
use Rattle.sg_playing.specs.declared.playing.OpenPlay.{OpenPlay}
use Rattle.sg_playing.specs.declared.slot.ShownSlot.{ShownSlot}

-- two slots are one: of the same snapshot, event and layout, and begun at the same local second
abbrev pub is_one_slot : ShownSlot → ShownSlot → Bool
is_one_slot a b = (a.number == b.number) && ((a.event == b.event) && ((a.layout == b.layout) && int_eq a.start b.start))

-- a slot that is shown has a layout
abbrev pub IsNamed : Option ShownSlot → Type 0
IsNamed None = ⊤
IsNamed (Some slot) = 1 ≤ slot.layout

-- a turn at a moment that shows this
abbrev pub turn : ℕ → Option ShownSlot → Turn
turn moment slot = record { moment = moment; slot = slot }

-- a play that runs has a layout, and didn't begin after its last turn
abbrev pub IsRunning : Option OpenPlay → Type 0
IsRunning None = ⊤
IsRunning (Some running) = (1 ≤ running.slot.layout) × (running.from ≤ running.last)

-- a slot is what is shown still
abbrev pub is_shown_still : ShownSlot → Option ShownSlot → Bool
is_shown_still slot None = false
is_shown_still slot (Some shown) = is_one_slot slot shown

-- A play goes on in a turn that shows its slot, unless the clock went back.
abbrev pub goes_on : OpenPlay → Turn → Bool
goes_on running t = is_shown_still running.slot t.slot && nat_le running.last t.moment

-- the play that a running one was where it ends at a moment: without a second it is none
abbrev pub ended : OpenPlay → ℕ → Option PlayBody
ended running to =
    if nat_lt running.from to then Some (record { event = running.slot.event; layout = running.slot.layout; from = running.from; to = to }) else None

-- a play begins with the slot that a turn shows
abbrev pub begins : ℕ → Option ShownSlot → Option OpenPlay
begins moment None = None
begins moment (Some slot) = Some (record { slot = slot; from = moment; last = moment })

abbrev pub begun : Turn → Option OpenPlay
begun t = begins t.moment t.slot

-- The play that a turn ends. It ends at the moment of the turn, or at that of the last one where the clock went back.
abbrev pub closed_by : Option OpenPlay → Turn → Option PlayBody
closed_by None t = None
closed_by (Some running) t = if goes_on running t then None else ended running (max running.last t.moment)

-- the play that runs after a turn
abbrev pub opened_by : Option OpenPlay → Turn → Option OpenPlay
opened_by None t = begun t
opened_by (Some running) t = if goes_on running t then Some (record running { last = t.moment }) else begun t

-- the play that ends with the turns, at the moment of the last one
abbrev pub closed_last : Option OpenPlay → Option PlayBody
closed_last None = None
closed_last (Some running) = ended running running.last

-- a play ahead of others, if there is one
abbrev pub ahead : Option PlayBody → List PlayBody → List PlayBody
ahead None plays = plays
ahead (Some play) plays = play ∷ plays

-- the plays of these turns and of their end, where this play runs before them
abbrev pub plays_from : Option OpenPlay → List Turn → List PlayBody
plays_from running [] = ahead (closed_last running) []
plays_from running (t ∷ ts) = ahead (closed_by running t) (plays_from (opened_by running t) ts)

-- the plays of a life whose turns these are
abbrev pub plays_of : List Turn → List PlayBody
plays_of turns = plays_from None turns
