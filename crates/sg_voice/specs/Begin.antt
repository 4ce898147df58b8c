-- Where each play of the hour begins, in closed form: by sums of seconds, with no walk over the hour.
use Rattle.std.specs.Prelude.{◌≡◌, ℕ, zero, suc, ◌+◌, ◌-◌, ◌<◌, ◌≤◌, min, nat_le, if◌then◌else◌, List, length, take, slice_index_or}
use Rattle.sg_voice.specs.declared.play.Play.{Play}
use Rattle.sg_voice.specs.declared.play.Slot.{Slot}
use Rattle.sg_voice.specs.Hour.{total, cyclic, turns_of, normal_count, before}
use Rattle.sg_base.specs.declared.limits.TheConstants.{HOUR}

-- the slot of a play that begins at a second: the hour's end cuts it
abbrev pub slot_from : Play → ℕ → Slot
slot_from p at = record { event = p.event; layout = p.layout; place = at; seconds = min p.seconds (HOUR - at) }

-- normal play j of n begins after the j normal plays before it and after (j + 1) k / n of the k interrupt plays
abbrev pub begin_normal : ℕ → List Play → List Play → ℕ → ℕ
begin_normal n ns bs j = total (turns_of j ns 0) + total (take (before n (length bs) (j + 1)) bs)

-- the seconds of those of m normal plays, from the one numbered j on, that stand after at most x interrupt plays
abbrev pub earlier : ℕ → List Play → ℕ → ℕ → ℕ → ℕ → ℕ
earlier n ns k x zero j = 0
earlier n ns k x (suc m) j = (if nat_le (before n k (j + 1)) x then (cyclic ns j).seconds else 0) + earlier n ns k x m (j + 1)

-- interrupt play x begins after the x interrupt plays before it and after the normal plays that stand after at most x of them
abbrev pub begin_interrupt : ℕ → List Play → List Play → ℕ → ℕ
begin_interrupt n ns bs x = total (take x bs) + earlier n ns (length bs) x n 0

-- where the interrupts fill the hour they follow each other
abbrev pub begin_alone : List Play → ℕ → ℕ
begin_alone bs x = total (take x bs)

-- the slot of normal play j of n, if that begins in the hour
pub record IsNormalSlot (n : ℕ) (ns bs : List Play) (s : Slot) : Type 0 where
  pub j : ℕ
  pub one : j < n
  pub begins : begin_normal n ns bs j < HOUR
  pub is : s ≡ slot_from (cyclic ns j) (begin_normal n ns bs j)

-- the slot of interrupt play x, if that begins in the hour
pub record IsInterruptSlot (begin : ℕ → ℕ) (bs : List Play) (s : Slot) : Type 0 where
  pub x : ℕ
  pub play : Play
  pub one : x < length bs
  pub at : slice_index_or bs x play ≡ play
  pub begins : begin x < HOUR
  pub is : s ≡ slot_from play (begin x)

-- the slots of an hour of normal plays ns and interrupt plays bs: those of the interrupt plays alone where they fill the
-- hour, and else those of both, with as many normal plays as fill the rest
pub data IsSlot (ns bs : List Play) (s : Slot) : Type 0 where
  Full : HOUR ≤ total bs → IsInterruptSlot (begin_alone bs) bs s → IsSlot ns bs s
  Normal : total bs < HOUR → IsNormalSlot (normal_count ns (HOUR - total bs)) ns bs s → IsSlot ns bs s
  Between : total bs < HOUR → IsInterruptSlot (begin_interrupt (normal_count ns (HOUR - total bs)) ns bs) bs s → IsSlot ns bs s
