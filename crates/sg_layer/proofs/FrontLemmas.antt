-- Plays that fill an hour make the same hour as any longer list that they lead.
use Rattle.std.proofs.Common.{◌≡◌, ℕ, zero, suc, ◌+◌, ◌-◌, ◌<◌, ◌≤◌, Bool, true, false, eqb, List, [], ◌∷◌, ◌++◌, length, drop, get_or, filter, refl, ap, sym, subst, ◌∙◌, inl, inr, arith, add-one, drop-cons, length-append}
use Rattle.std.specs.List.{AllByRecursion, flat_map}
use Rattle.std.proofs.lemmas.Bool.{cases_eq, cases_lt, cond-true, cond-false, ne_eqb}
use Rattle.std.proofs.lemmas.List.{append-nil, append_assoc, get_or_append_left}
use Rattle.std.proofs.Math.ListN.{drop_of_length-le}
use Rattle.std.proofs.Math.Nat.{mod-eq_of_lt}
use Rattle.sg_voice.specs.declared.play.Play.{Play}
use Rattle.sg_voice.specs.declared.play.Interrupt.{Interrupt}
use Rattle.sg_voice.specs.Hour.{total, cyclic, fill_from, normal_count, mixed, mixed_plays, hour_plays, interrupt_plays, placed, slots_of}
use Rattle.sg_voice.proofs.MixLemmas.{filled}
use Rattle.sg_voice.proofs.TileLemmas.{plays_full, plays_mixed}
use Rattle.sg_layer.specs.declared.entry.Entry.{Entry}
use Rattle.sg_layer.specs.Front.{marked, plays_of_marked, Leads, IsFront}

-- ---- The same plays ----

-- a play of the front is the same play of the longer list
cyclic_front : (front rest : List Play) (j : ℕ) → j < length front → cyclic (front ++ rest) j ≡ cyclic front j
cyclic_front front rest j inside =
    let none : Play = record { event = 0; layout = 0; seconds = 0 } in
    let more : j < length (front ++ rest) = omega (arith, length-append front rest, inside) in
    rw (mod-eq_of_lt more, mod-eq_of_lt inside) (get_or_append_left front rest none j inside)

cyclic_at : (front : List Play) (j : ℕ) → j < length front → cyclic front j ≡ get_or front j (record { event = 0; layout = 0; seconds = 0 })
cyclic_at front j inside = rw (mod-eq_of_lt inside) refl

-- how many plays fill the room, and that the front has as many
record Fills (fuel : ℕ) (front rest : List Play) (j room : ℕ) : Type 0 where
  same : fill_from fuel (front ++ rest) j room ≡ fill_from fuel front j room
  few : j + fill_from fuel front j room ≤ length front

fill_front : (fuel : ℕ) (front rest : List Play) (j room : ℕ) → j ≤ length front → room ≤ total (drop j front) → Fills fuel front rest j room
fill_front zero front rest j room inside enough = record { same = refl; few = omega (arith, inside) }
fill_front (suc fuel) front rest j room inside enough =
    elim (cases_eq room 0) [
      | inl none ↦ record {
        same = filled (suc fuel) (front ++ rest) j room none ∙ sym (filled (suc fuel) front j room none);
        few = omega (arith, inside, filled (suc fuel) front j room none);
      }
      | inr some ↦
          elim (cases_lt j (length front)) [
            | inr past ↦ absurd (let none : drop j front ≡ [] = drop_of_length-le front past in some (omega (arith, ap total none, enough)))
            | inl here ↦
                let play : Play = cyclic front j in
                let left : ℕ = room - play.seconds in
                let none : Play = record { event = 0; layout = 0; seconds = 0 } in
                let at : play ≡ get_or front j none = cyclic_at front j here in
                let split : drop j front ≡ play ∷ drop (j + 1) front = rw (add-one) (drop-cons front j none here ∙ ap (λ (p : Play). p ∷ drop (suc j) front) (sym at)) in
                let seconds : total (drop j front) ≡ play.seconds + total (drop (j + 1) front) = ap total split in
                let next : Fills fuel front rest (j + 1) left = fill_front fuel front rest (j + 1) left (omega (arith, here)) (omega (arith, seconds, enough)) in
                let long : fill_from (suc fuel) (front ++ rest) j room ≡ fill_from fuel (front ++ rest) (j + 1) (room - (cyclic (front ++ rest) j).seconds) + 1 = cond-false _ _ _ (ne_eqb room 0 some) in
                let short : fill_from (suc fuel) front j room ≡ fill_from fuel front (j + 1) left + 1 = cond-false _ _ _ (ne_eqb room 0 some) in
                let step : fill_from fuel (front ++ rest) (j + 1) (room - (cyclic (front ++ rest) j).seconds) ≡ fill_from fuel front (j + 1) left = ap (λ (p : Play). fill_from fuel (front ++ rest) (j + 1) (room - p.seconds)) (cyclic_front front rest j here) ∙ next.same in
                record { same = omega (arith, long, short, step); few = omega (arith, short, next.few) }
          ]
    ]

mixed_front : (n : ℕ) (front rest bs : List Play) (m j : ℕ) → j + m ≤ length front → mixed n (front ++ rest) bs m j ≡ mixed n front bs m j
mixed_front n front rest bs zero j inside = refl
mixed_front n front rest bs (suc m) j inside =
    rw (cyclic_front front rest j (omega arith), mixed_front n front rest bs m (j + 1) (omega arith)) refl

-- ---- The same hour ----

count_front : (front rest : List Play) (room : ℕ) → room ≤ total front → Fills room front rest 0 room
count_front front rest room enough = fill_front room front rest 0 room (omega arith) enough

same_plays : (front rest bs : List Play) → 3600 ≤ total front → hour_plays (front ++ rest) bs ≡ hour_plays front bs
unfolding normal_count
same_plays front rest bs full =
    let room : ℕ = 3600 - total bs in
    elim (cases_eq room 0) [
      | inl none ↦ plays_full (front ++ rest) bs none ∙ sym (plays_full front bs none)
      | inr some ↦
          let fills : Fills room front rest 0 room = count_front front rest room (omega arith) in
          let n : ℕ = fill_from room front 0 room in
          let long : hour_plays (front ++ rest) bs ≡ mixed_plays (fill_from room (front ++ rest) 0 room) (front ++ rest) bs = plays_mixed (front ++ rest) bs (omega arith) in
          let short : hour_plays front bs ≡ mixed_plays n front bs = plays_mixed front bs (omega arith) in
          long ∙ (ap (λ (k : ℕ). mixed_plays k (front ++ rest) bs) fills.same ∙ (mixed_front n front rest bs n 0 (omega (arith, fills.few)) ∙ sym short))
    ]

-- plays that an hour has no room beside make the hour that the whole list makes
full_front : (front rest : List Play) (is : List Interrupt) → 3600 ≤ total front → slots_of (front ++ rest) is ≡ slots_of front is
full_front front rest is full = ap (λ (ps : List Play). placed 0 ps) (same_plays front rest (interrupt_plays is) full)

-- what holds of all plays holds of the front
all_front : (P : Play → Type 0) (front rest : List Play) → AllByRecursion P (front ++ rest) → AllByRecursion P front
all_front P [] rest all = tt
all_front P (p ∷ ps) rest all = (all.0, all_front P ps rest all.1)

pub front_all : (P : Play → Type 0) (front all : List Play) → IsFront front all → AllByRecursion P all → AllByRecursion P front
front_all P front all h holds = all_front P front h.rest (subst (λ (ps : List Play). AllByRecursion P ps) (sym h.split) holds)

-- where an hour isn't full yet, the front is the whole
whole_front : (front all : List Play) → IsFront front all → total front < 3600 → front ≡ all
whole_front front all h few = sym (append-nil front) ∙ (ap (λ (ps : List Play). front ++ ps) (sym (h.more few)) ∙ h.split)

-- the front is empty where there is no play
pub front_none : (front all : List Play) → IsFront front all → length front ≡ 0 → all ≡ []
front_none [] all h none = sym (whole_front [] all h (omega arith))
front_none (p ∷ ps) all h none = absurd (omega (arith, none))

pub front_some : (front all : List Play) → IsFront front all → 0 < length front → 0 < length all
front_some front all h some = omega (arith, length-append front h.rest, ap (λ (ps : List Play). length ps) h.split, some)

-- the front makes the hour of all
pub front_slots : (front all : List Play) (is : List Interrupt) → IsFront front all → slots_of front is ≡ slots_of all is
front_slots front all is h =
    elim (cases_lt (total front) 3600) [
      | inl few ↦ ap (λ (ps : List Play). slots_of ps is) (whole_front front all h few)
      | inr full ↦ sym (full_front front h.rest is full) ∙ ap (λ (ps : List Play). slots_of ps is) h.split
    ]

-- ---- What a list leads ----

-- nothing leads to all
pub leads_first : (all : List Play) → Leads [] all all
leads_first all = record { rest = all; split = refl; more = λ _. refl }

-- what comes next is listed
pub leads_on : (listed : List Play) (p : Play) (next all : List Play) → total listed < 3600 → Leads listed (p ∷ next) all → Leads (listed ++ p ∷ []) next all
leads_on listed p next all few h =
    record {
      rest = next;
      split = append_assoc listed (p ∷ []) next ∙ (ap (λ (ps : List Play). listed ++ ps) (sym (h.more few)) ∙ h.split);
      more = λ _. refl;
    }

-- where an hour is full, nothing more has to be listed
pub leads_full : (listed next other all : List Play) → 3600 ≤ total listed → Leads listed next all → Leads listed other all
leads_full listed next other all full h = record { rest = h.rest; split = h.split; more = λ few. absurd (omega (arith, full, few)) }

-- an entry that isn't marked, or of another priority, has no plays listed
pub skip_unmarked : (top : ℕ) (b : Bool) (bs : List Bool) (x : Entry) (xs : List Entry) → b ≡ false → plays_of_marked top (b ∷ bs) (x ∷ xs) ≡ plays_of_marked top bs xs
skip_unmarked top b bs x xs off = ap (λ (ys : List Entry). flat_map (λ z. z.plays) (filter (λ z. eqb z.event.priority top) ys)) (cond-false b (x ∷ marked bs xs) (marked bs xs) off)

pub skip_other : (top : ℕ) (b : Bool) (bs : List Bool) (x : Entry) (xs : List Entry) → b ≡ true → eqb x.event.priority top ≡ false → plays_of_marked top (b ∷ bs) (x ∷ xs) ≡ plays_of_marked top bs xs
skip_other top b bs x xs on other =
    ap (λ (ys : List Entry). flat_map (λ z. z.plays) (filter (λ z. eqb z.event.priority top) ys)) (cond-true b (x ∷ marked bs xs) (marked bs xs) on)
    ∙ ap (λ (ys : List Entry). flat_map (λ z. z.plays) ys) (cond-false _ _ _ other)

pub take_marked : (top : ℕ) (b : Bool) (bs : List Bool) (x : Entry) (xs : List Entry) → b ≡ true → eqb x.event.priority top ≡ true → plays_of_marked top (b ∷ bs) (x ∷ xs) ≡ x.plays ++ plays_of_marked top bs xs
take_marked top b bs x xs on same =
    ap (λ (ys : List Entry). flat_map (λ z. z.plays) (filter (λ z. eqb z.event.priority top) ys)) (cond-true b (x ∷ marked bs xs) (marked bs xs) on)
    ∙ ap (λ (ys : List Entry). flat_map (λ z. z.plays) ys) (cond-true _ _ _ same)
