-- The plays and the interrupts that events make at a local second.
use Rattle.std.specs.Prelude.{◌==◌, ℕ, max, ◌<◌, ◌≤◌, Bool, List, [], ◌∷◌, filter, length, IfSome, Option, None, Some, slice_index_or, ℤ}
use Rattle.std.specs.List.{flat_map, AllByRecursion}
use Rattle.sg_base.specs.declared.limits.TheConstants.{MAX_SHARE}
use Rattle.sg_base.specs.Daypart.{IsDaypart}
use Rattle.sg_events.specs.Active.{is_active_at, HasDaypart}
use Rattle.sg_voice.specs.declared.play.Play.{Play}
use Rattle.sg_voice.specs.declared.play.Interrupt.{Interrupt}
use Rattle.sg_voice.specs.Hour.{IsPlay}
use Rattle.sg_layer.specs.declared.entry.Entry.{Entry}

-- an event comes with the daypart that it names, and makes a play at least
pub record IsEntry (x : Entry) : Type 0 where
  pub named : HasDaypart x.event.when x.daypart
  pub daypart : IfSome x.daypart IsDaypart
  pub some : 0 < length x.plays
  pub plays : AllByRecursion IsPlay x.plays

-- it asks for a share of the hour
pub record IsSharing (x : Entry) : Type 0 where
  pub some : 0 < x.event.share
  pub few : x.event.share ≤ MAX_SHARE

-- its event is active at a local second
abbrev pub is_active : ℤ → Entry → Bool
is_active t x = is_active_at x.event.when x.event.repeat x.daypart t

-- of some entries those of the greatest priority among them
abbrev pub greatest_priority : List Entry → ℕ
greatest_priority [] = 0
greatest_priority (x ∷ xs) = max x.event.priority (greatest_priority xs)

abbrev pub highest : List Entry → List Entry
highest xs = filter (λ x. x.event.priority == greatest_priority xs) xs

-- the entries that are played at a local second: of the active ones those of the greatest priority
abbrev pub played_at : ℤ → List Entry → List Entry
played_at t xs = highest (filter (is_active t) xs)

-- each entry is replaced by its plays
abbrev pub plays_of : List Entry → List Play
plays_of xs = flat_map (λ x. x.plays) xs

-- a play that stands in where there is none
abbrev pub or_else : Option Play → List Play → List Play
or_else None [] = []
or_else (Some play) [] = play ∷ []
or_else default (p ∷ ps) = p ∷ ps

-- an interrupt plays its first play as often as the share of its event asks for
abbrev pub first_play : List Play → Play
first_play ps = slice_index_or ps 0 (record { event = 0; layout = 0; seconds = 0 })

abbrev pub interrupt_of : Entry → Interrupt
interrupt_of x = record {
  event = (first_play x.plays).event;
  layout = (first_play x.plays).layout;
  seconds = (first_play x.plays).seconds;
  share = x.event.share;
}
