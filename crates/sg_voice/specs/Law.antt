-- How many seconds of an hour that the interrupts don't fill each of them has, and the normal plays.
use Rattle.std.specs.Prelude.{◌≡◌, ◌==◌, ℕ, zero, suc, ◌+◌, ◌-◌, ◌*◌, ◌<◌, ◌≤◌, Bool, false, not, List, length, slice_index_or}
use Rattle.std.specs.List.{AllByRecursion, list_any}
use Rattle.sg_voice.specs.declared.play.Play.{Play}
use Rattle.sg_voice.specs.declared.play.Interrupt.{Interrupt}
use Rattle.sg_voice.specs.declared.play.Slot.{Slot}
use Rattle.sg_voice.specs.Hour.{total, cyclic, count_of, interrupt_plays, normal_count, seconds_where, event_seconds}
use Rattle.sg_voice.specs.Begin.{slot_from, begin_normal}
use Rattle.sg_base.specs.declared.limits.TheConstants.{HOUR}

-- no other entry of the two lists has the event of interrupt k
pub record IsAlone (ns : List Play) (is : List Interrupt) (k : ℕ) (i : Interrupt) : Type 0 where
  pub others : (m : ℕ) → m < length is → (slice_index_or is m i).event ≡ i.event → m ≡ k
  pub normals : AllByRecursion (λ p. (p.event == i.event) ≡ false) ns

-- an event is that of an interrupt
abbrev pub has_event : List Interrupt → ℕ → Bool
has_event is e = list_any (λ i. i.event == e) is

-- the seconds of the slots of m normal plays, from the one numbered j on
abbrev pub normal_seconds : ℕ → List Play → List Play → ℕ → ℕ → ℕ
normal_seconds n ns bs zero j = 0
normal_seconds n ns bs (suc m) j = (slot_from (cyclic ns j) (begin_normal n ns bs j)).seconds + normal_seconds n ns bs m (j + 1)

-- the seconds of the slots of all normal plays
abbrev pub all_normal_seconds : List Play → List Play → ℕ
all_normal_seconds ns bs =
    let n = normal_count ns (HOUR - total bs) in
    normal_seconds n ns bs n 0

-- the law of an hour that the interrupts don't fill
pub record HourLaw (ns : List Play) (is : List Interrupt) (ss : List Slot) : Type 0 where
  -- an interrupt whose event is its own has the seconds of all its plays
  pub each : (k : ℕ) (i : Interrupt) → k < length is → slice_index_or is k i ≡ i → IsAlone ns is k i → event_seconds i.event ss ≡ count_of i * i.seconds
  -- which are its share, or more by less than one play
  pub enough : (k : ℕ) (i : Interrupt) → k < length is → slice_index_or is k i ≡ i → i.share ≤ count_of i * i.seconds
  pub no_more : (k : ℕ) (i : Interrupt) → k < length is → slice_index_or is k i ≡ i → count_of i * i.seconds < i.share + i.seconds
  -- the normal plays have the rest
  pub rest : all_normal_seconds ns (interrupt_plays is) ≡ HOUR - total (interrupt_plays is)
  -- and so have the slots of other events than the interrupts', where no event is both a normal play's and an interrupt's
  pub apart : AllByRecursion (λ p. has_event is p.event ≡ false) ns → seconds_where (λ e. not (has_event is e)) ss ≡ HOUR - total (interrupt_plays is)
