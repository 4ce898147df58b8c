-- The slots of an hour, from the normal plays and the interrupts that are active in it.
use Rattle.std.specs.Prelude.{◌≡◌, ◌==◌, ℕ, zero, suc, ◌+◌, ◌-◌, ◌*◌, ◌/◌, ◌%◌, ◌<◌, ◌≤◌, min, max, Bool, nat_lt, if◌then◌else◌, List, [], ◌∷◌, ◌++◌, length, slice_index_or, slice_range}
use Rattle.sg_voice.specs.declared.play.Play.{Play}
use Rattle.sg_voice.specs.declared.play.Interrupt.{Interrupt}
use Rattle.sg_voice.specs.declared.play.Slot.{Slot}
use Rattle.sg_base.specs.declared.limits.TheConstants.{HOUR, MAX_SHARE}

-- a play lasts from one second to an hour
pub record IsPlay (p : Play) : Type 0 where
  pub some : 0 < p.seconds
  pub few : p.seconds ≤ HOUR

-- so does a play of an interrupt, and its share is from one second of the hour to all of it
pub record IsInterrupt (i : Interrupt) : Type 0 where
  pub some : 0 < i.seconds
  pub few : i.seconds ≤ HOUR
  pub shared : 0 < i.share
  pub share : i.share ≤ MAX_SHARE

-- ---- The plays of the interrupts ----

-- how often an interrupt plays: its share over its seconds, rounded up
abbrev pub count_of : Interrupt → ℕ
count_of i = (i.share + (i.seconds - 1)) / i.seconds

-- one play of an interrupt
abbrev pub play_of : Interrupt → Play
play_of i = record { event = i.event; layout = i.layout; seconds = i.seconds }

-- what an interrupt adds to round r: a play, if it plays more than r times
abbrev pub part_of : ℕ → Interrupt → List Play
part_of r i = if nat_lt r (count_of i) then play_of i ∷ [] else []

-- round r: the interrupts that still play, in list order
abbrev pub round_of : ℕ → List Interrupt → List Play
round_of r [] = []
round_of r (i ∷ is) = part_of r i ++ round_of r is

-- m rounds, from the one numbered r on
abbrev pub rounds_of : ℕ → ℕ → List Interrupt → List Play
rounds_of zero r is = []
rounds_of (suc m) r is = round_of r is ++ rounds_of m (r + 1) is

-- how often the interrupt plays that plays most
abbrev pub most_of : List Interrupt → ℕ
most_of [] = 0
most_of (i ∷ is) = max (count_of i) (most_of is)

-- all plays of the interrupts: round after round, until none plays any more
unfoldable pub interrupt_plays : List Interrupt → List Play
interrupt_plays is = rounds_of (most_of is) 0 is

-- ---- The normal plays ----

-- the sum of a measure over a list of plays
abbrev pub weight : (Play → ℕ) → List Play → ℕ
weight f [] = 0
weight f (p ∷ ps) = f p + weight f ps

-- the seconds of a list of plays
abbrev pub total : List Play → ℕ
total ps = weight (λ p. p.seconds) ps

-- normal play j: the list is read again and again
abbrev pub cyclic : List Play → ℕ → Play
cyclic ns j = slice_index_or ns (j % length ns) (record { event = 0; layout = 0; seconds = 0 })

-- m normal plays, from the one numbered j on
abbrev pub turns_of : ℕ → List Play → ℕ → List Play
turns_of zero ns j = []
turns_of (suc m) ns j = cyclic ns j ∷ turns_of m ns (j + 1)

-- how many plays from the one numbered j on it takes to fill the room;
-- each has a second at least, so fuel of the room's size is enough
abbrev pub fill_from : ℕ → List Play → ℕ → ℕ → ℕ
fill_from zero ns j room = 0
fill_from (suc fuel) ns j room = if room == 0 then 0 else fill_from fuel ns (j + 1) (room - (cyclic ns j).seconds) + 1

-- how many normal plays it takes to fill the room
unfoldable pub normal_count : List Play → ℕ → ℕ
normal_count ns room = fill_from room ns 0 room

-- what that number means: n normal plays fill the room, and no fewer do
pub record IsLeast (ns : List Play) (room n : ℕ) : Type 0 where
  pub reaches : room ≤ total (turns_of n ns 0)
  pub least : (m : ℕ) → room ≤ total (turns_of m ns 0) → n ≤ m

-- ---- Both kinds in one row ----

-- how many of k interrupt plays stand before normal play number j of n begins its turn: j k / n, rounded down.
-- So normal play j stands after exactly (j + 1) k / n of them
abbrev pub before : ℕ → ℕ → ℕ → ℕ
before n k j = (j * k) / n

-- m normal plays from the one numbered j on, each after the interrupt plays that come between
abbrev pub mixed : ℕ → List Play → List Play → ℕ → ℕ → List Play
mixed n ns bs zero j = []
mixed n ns bs (suc m) j = slice_range bs (before n (length bs) j) (before n (length bs) (j + 1)) ++ (cyclic ns j ∷ mixed n ns bs m (j + 1))

-- n normal plays, with the interrupt plays spread evenly between them
abbrev pub mixed_plays : ℕ → List Play → List Play → List Play
mixed_plays n ns bs = mixed n ns bs n 0

-- the plays of the hour: the interrupts alone where they fill it (the difference stops at 0), else both
abbrev pub hour_plays : List Play → List Play → List Play
hour_plays ns bs = if HOUR - total bs == 0 then bs else mixed_plays (normal_count ns (HOUR - total bs)) ns bs

-- ---- The slots ----

-- plays put one after another from a second on, as far as they begin in the hour; its end cuts the last one
abbrev pub placed : ℕ → List Play → List Slot
placed at [] = []
placed at (p ∷ ps) = if nat_lt at HOUR
    then (record { event = p.event; layout = p.layout; place = at; seconds = min p.seconds (HOUR - at) }) ∷ placed (at + p.seconds) ps
    else []

-- the slots of the hour
abbrev pub slots_of : List Play → List Interrupt → List Slot
slots_of ns is = placed 0 (hour_plays ns (interrupt_plays is))

-- slots that follow each other from a second up to the end of the hour
abbrev pub Tiles : ℕ → List Slot → Type 0
Tiles at [] = at ≡ HOUR
Tiles at (s ∷ ss) = (s.place ≡ at) × (0 < s.seconds) × (at + s.seconds ≤ HOUR) × Tiles (at + s.seconds) ss

-- the answer where no slot covers a second, which does not happen in a built loop
abbrev pub no_slot : Slot
no_slot = record { event = 0; layout = 0; place = 0; seconds = 0 }

-- the slot that covers second p: the first that ends after it
abbrev pub covering : ℕ → List Slot → Slot
covering p [] = no_slot
covering p (s ∷ ss) = if nat_lt p (s.place + s.seconds) then s else covering p ss

-- the seconds of the slots whose event passes a test
abbrev pub seconds_where : (ℕ → Bool) → List Slot → ℕ
seconds_where q [] = 0
seconds_where q (s ∷ ss) = (if q s.event then s.seconds else 0) + seconds_where q ss

-- the seconds of the slots of one event
abbrev pub event_seconds : ℕ → List Slot → ℕ
event_seconds e ss = seconds_where (λ x. x == e) ss

-- at how many of m seconds, from p on, the covering slot shows the event
abbrev pub shown_from : ℕ → List Slot → ℕ → ℕ → ℕ
shown_from e ss zero p = 0
shown_from e ss (suc m) p = (if (covering p ss).event == e then 1 else 0) + shown_from e ss m (p + 1)

-- at how many seconds of the hour the covering slot shows the event
unfoldable pub seconds_shown : ℕ → List Slot → ℕ
seconds_shown e ss = shown_from e ss HOUR 0
