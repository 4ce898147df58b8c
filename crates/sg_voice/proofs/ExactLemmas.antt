-- A slot is in the loop exactly where it is one of the closed form's.
use Rattle.std.proofs.Common.{◌≡◌, ℕ, zero, suc, ◌+◌, ◌-◌, ◌<◌, ◌≤◌, ◌↔◌, List, ◌∷◌, ◌++◌, length, get_or, take, drop, refl, ap, sym, ◌∙◌, append_assoc, arith, inl, inr, subst, drop-cons, slice_range, ◌⊎◌}
use Rattle.std.specs.List.{AllByRecursion, Contains}
use Rattle.std.proofs.Math.Seq.{take-add}
use Rattle.std.proofs.lemmas.Bool.{cases_lt, cases_eq}
use Rattle.std.proofs.lemmas.List.{drop_all, take_all, take-append-drop, get_or_default, drop-drop}
use Rattle.sg_voice.specs.declared.play.Play.{Play}
use Rattle.sg_voice.specs.declared.play.Interrupt.{Interrupt}
use Rattle.sg_voice.specs.declared.play.Slot.{Slot}
use Rattle.sg_voice.specs.Hour.{IsPlay, total, cyclic, turns_of, interrupt_plays, normal_count, before, mixed, mixed_plays, hour_plays, placed, slots_of}
use Rattle.sg_voice.specs.Begin.{slot_from, begin_normal, begin_interrupt, begin_alone, IsNormalSlot, IsInterruptSlot, IsSlot}
use Rattle.sg_voice.specs.Begin.IsSlot.{Full, Normal, Between}
use Rattle.sg_voice.proofs.RoundLemmas.{weight_append}
use Rattle.sg_voice.proofs.WeightLemmas.{count_is_least, count_some, range_split, before_up, before_none, before_all, mixed_weight}
use Rattle.sg_voice.proofs.TileLemmas.{plays_full, plays_mixed}
use Rattle.sg_voice.proofs.BeginLemmas.{Stands, standing_has, AllAt, Placed, has_placed, all_at_append, total_take, total_turns, earlier_is, find_turn}

-- ---- The interrupt plays of one turn ----

-- a fact of each of d interrupt plays from x on, base seconds of normal plays ahead
range_at : (P : Play → ℕ → Type 0) (bs : List Play) (base d x : ℕ) → ((y : ℕ) (p : Play) → x ≤ y → y < x + d → y < length bs → get_or bs y p ≡ p → P p (total (take y bs) + base)) → AllAt P (total (take x bs) + base) (take d (drop x bs))
range_at P bs base zero x each = tt
range_at P bs base (suc d) x each =
    let none : Play = record { event = 0; layout = 0; seconds = 0 } in
    let C : List Play → Type 0 = λ qs. AllAt P (total (take x bs) + base) (take (suc d) qs) in
    elim (cases_lt x (length bs)) [
      | inl inside ↦
          let p : Play = get_or bs x none in
          let next : total (take (suc x) bs) + base ≡ total (take x bs) + base + p.seconds = omega (arith, total_take bs x none inside) in
          let rest = range_at P bs base d (suc x) (λ y q low high held is. each y q (omega arith) (omega arith) held is) in
          subst C (sym (drop-cons bs x none inside))
          (each x p (omega arith) (omega arith) inside (get_or_default bs x p none inside), subst (λ (z : ℕ). AllAt P z (take d (drop (suc x) bs))) next rest)
      | inr past ↦ subst C (sym (drop_all x bs past)) tt
    ]

-- ---- An hour that the interrupts fill ----

IsAlone : List Play → Play → ℕ → Type 0
IsAlone bs p at = (x : ℕ) × (x < length bs) × (get_or bs x p ≡ p) × (at ≡ begin_alone bs x)

all_alone : (bs : List Play) → AllAt (IsAlone bs) 0 bs
unfolding IsAlone
all_alone bs =
    let k : ℕ = length bs in
    subst (λ (ps : List Play). AllAt (IsAlone bs) 0 ps) (take_all k bs (omega arith))
    (range_at (IsAlone bs) bs 0 k 0 (λ y p low high held is. (y, held, is, omega arith)))

alone_stands : (bs : List Play) (x : ℕ) (p : Play) → x < length bs → get_or bs x p ≡ p → Stands bs p (begin_alone bs x)
alone_stands bs x p inside is = record {
  front = take x bs;
  rest = drop (suc x) bs;
  is = sym (take-append-drop x bs) ∙ (ap (λ (q : List Play). take x bs ++ q) (drop-cons bs x p inside) ∙ ap (λ (q : Play). take x bs ++ (q ∷ drop (suc x) bs)) is);
  ahead = refl;
}

-- ---- An hour with room ----

-- where each play of the mixed list begins, by its kind
data IsMixed (n : ℕ) (ns bs : List Play) (p : Play) (at : ℕ) : Type 0 where
  Turned : (j : ℕ) → j < n → p ≡ cyclic ns j → at ≡ begin_normal n ns bs j → IsMixed n ns bs p at
  Put : (x : ℕ) → x < length bs → get_or bs x p ≡ p → at ≡ begin_interrupt n ns bs x → IsMixed n ns bs p at

mixed_at : (n : ℕ) (ns bs : List Play) (m j : ℕ) → 0 < n → j + m ≡ n → AllAt (IsMixed n ns bs) (total (take (before n (length bs) j) bs) + total (turns_of j ns 0)) (mixed n ns bs m j)
mixed_at n ns bs zero j some all = tt
mixed_at n ns bs (suc m) j some all =
    let k : ℕ = length bs in
    let low : ℕ = before n k j in
    let high : ℕ = before n k (j + 1) in
    let normal : ℕ = total (turns_of j ns 0) in
    let at : ℕ = total (take low bs) + normal in
    let inside : j < n = omega arith in
    let from : 0 + j ≡ j = omega arith in
    let range = slice_range bs low high in
    let between = range_at (IsMixed n ns bs) bs normal (high - low) low (λ y p least most held is. Put y held is (omega (arith, earlier_is n ns k y j inside least (omega arith)))) in
    let after : at + total range ≡ total (take high bs) + normal = omega (arith, range_split (λ p. p.seconds) bs low high (before_up n k j some)) in
    let turned : total (turns_of (j + 1) ns 0) ≡ normal + (cyclic ns j).seconds = total_turns ns j 0 ∙ ap (λ (y : ℕ). normal + (cyclic ns y).seconds) from in
    let next : total (take high bs) + total (turns_of (j + 1) ns 0) ≡ at + total range + (cyclic ns j).seconds = omega (arith, after, turned) in
    let rest = subst (λ (y : ℕ). AllAt (IsMixed n ns bs) y (mixed n ns bs m (j + 1))) next (mixed_at n ns bs m (j + 1) some (omega arith)) in
    all_at_append (IsMixed n ns bs) at range (cyclic ns j ∷ mixed n ns bs m (j + 1)) between (Turned j inside refl (omega (arith, after)), rest)

mixed_split : (n : ℕ) (ns bs : List Play) (a m j : ℕ) → mixed n ns bs (a + m) j ≡ mixed n ns bs a j ++ mixed n ns bs m (j + a)
mixed_split n ns bs zero m j =
    let same : 0 + m ≡ m = omega arith in
    let here : j + 0 ≡ j = omega arith in
    rw (same, here) refl
mixed_split n ns bs (suc a) m j =
    let more : suc a + m ≡ suc (a + m) = omega arith in
    let next : j + suc a ≡ j + 1 + a = omega arith in
    rw (more, next) (ap (λ (q : List Play). slice_range bs (before n (length bs) j) (before n (length bs) (j + 1)) ++ (cyclic ns j ∷ q)) (mixed_split n ns bs a m (j + 1)) ∙ sym (append_assoc (slice_range bs (before n (length bs) j) (before n (length bs) (j + 1))) (cyclic ns j ∷ mixed n ns bs a (j + 1)) (mixed n ns bs m (j + 1 + a))))

pub front_seconds : (n : ℕ) (ns bs : List Play) (a : ℕ) → 0 < n → total (mixed n ns bs a 0) ≡ total (take (before n (length bs) a) bs) + total (turns_of a ns 0)
front_seconds n ns bs a some =
    let from : 0 + a ≡ a = omega arith in
    let first : total (take (before n (length bs) 0) bs) ≡ 0 = ap (λ (x : ℕ). total (take x bs)) (before_none n (length bs) some) in
    let last = ap (λ (x : ℕ). total (take (before n (length bs) x) bs)) from in
    omega (arith, mixed_weight (λ p. p.seconds) n ns bs a 0 some, first, last)

-- the mixed plays around normal play j
pub turn_split : (n : ℕ) (ns bs : List Play) (j : ℕ) → j < n → mixed_plays n ns bs ≡ mixed n ns bs j 0 ++ (slice_range bs (before n (length bs) j) (before n (length bs) (j + 1)) ++ (cyclic ns j ∷ mixed n ns bs (n - (j + 1)) (j + 1)))
turn_split n ns bs j inside =
    let parts : n ≡ j + suc (n - (j + 1)) = omega arith in
    let from : 0 + j ≡ j = omega arith in
    ap (λ (m : ℕ). mixed n ns bs m 0) parts
    ∙ (mixed_split n ns bs j (suc (n - (j + 1))) 0
    ∙ ap (λ (y : ℕ). mixed n ns bs j 0 ++ mixed n ns bs (suc (n - (j + 1))) y) from)

normal_stands : (n : ℕ) (ns bs : List Play) (j : ℕ) → j < n → Stands (mixed_plays n ns bs) (cyclic ns j) (begin_normal n ns bs j)
normal_stands n ns bs j inside =
    let k : ℕ = length bs in
    let range : List Play = slice_range bs (before n k j) (before n k (j + 1)) in
    let front : List Play = mixed n ns bs j 0 in
    let rest : List Play = mixed n ns bs (n - (j + 1)) (j + 1) in
    record {
      front = front ++ range;
      rest = rest;
      is = turn_split n ns bs j inside ∙ sym (append_assoc front range (cyclic ns j ∷ rest));
      ahead = omega (arith, weight_append (λ p. p.seconds) front range, front_seconds n ns bs j (omega arith), range_split (λ p. p.seconds) bs (before n k j) (before n k (j + 1)) (before_up n k j (omega arith)));
    }

range_around : (bs : List Play) (a x end : ℕ) (p : Play) → a ≤ x → x < end → x < length bs → get_or bs x p ≡ p → slice_range bs a end ≡ slice_range bs a x ++ (p ∷ slice_range bs (suc x) end)
range_around bs a x end p low high inside is =
    let parts : end - a ≡ x - a + suc (end - suc x) = omega arith in
    let here : a + (x - a) ≡ x = omega arith in
    let tail : drop (x - a) (drop a bs) ≡ p ∷ drop (suc x) bs = drop-drop (x - a) a bs ∙ (ap (λ (y : ℕ). drop y bs) here ∙ (drop-cons bs x p inside ∙ ap (λ (q : Play). q ∷ drop (suc x) bs) is)) in
    ap (λ (y : ℕ). take y (drop a bs)) parts
    ∙ (take-add (x - a) (suc (end - suc x)) (drop a bs)
    ∙ ap (λ (q : List Play). take (x - a) (drop a bs) ++ take (suc (end - suc x)) q) tail)

interrupt_stands : (n : ℕ) (ns bs : List Play) (x : ℕ) (p : Play) → 0 < n → x < length bs → get_or bs x p ≡ p → Stands (mixed_plays n ns bs) p (begin_interrupt n ns bs x)
interrupt_stands n ns bs x p some inside is =
    let k : ℕ = length bs in
    let t = find_turn n k x n some (omega (arith, before_all n k some)) in
    let j : ℕ = t.j in
    let low : ℕ = before n k j in
    let high : ℕ = before n k (j + 1) in
    let front : List Play = mixed n ns bs j 0 in
    let range : List Play = slice_range bs low x in
    let back : List Play = slice_range bs (suc x) high in
    let rest : List Play = cyclic ns j ∷ mixed n ns bs (n - (j + 1)) (j + 1) in
    record {
      front = front ++ range;
      rest = back ++ rest;
      is = turn_split n ns bs j t.one
          ∙ (ap (λ (q : List Play). front ++ (q ++ rest)) (range_around bs low x high p t.behind t.past inside is)
          ∙ (ap (λ (q : List Play). front ++ q) (append_assoc range (p ∷ back) rest)
          ∙ sym (append_assoc front range (p ∷ (back ++ rest)))));
      ahead = omega (arith, weight_append (λ q. q.seconds) front range, front_seconds n ns bs j some, range_split (λ q. q.seconds) bs low x t.behind, earlier_is n ns k x j t.one t.behind t.past);
    }

-- ---- Both ways ----

alone_slot : (bs : List Play) (s : Slot) → Placed (IsAlone bs) s → IsInterruptSlot (begin_alone bs) bs s
unfolding IsAlone
alone_slot bs s h = record {
  x = h.has.0;
  play = h.play;
  one = h.has.1;
  at = h.has.2;
  begins = omega (arith, h.begins, h.has.3);
  is = h.is ∙ ap (λ (y : ℕ). slot_from h.play y) h.has.3;
}

mixed_slot : (n : ℕ) (ns bs : List Play) (s : Slot) (p : Play) (at : ℕ) → IsMixed n ns bs p at → at < 3600 → s ≡ slot_from p at → IsNormalSlot n ns bs s ⊎ IsInterruptSlot (begin_interrupt n ns bs) bs s
mixed_slot n ns bs s p at (Turned j inside play place) begins is = inl (record {
  j = j;
  one = inside;
  begins = omega (arith, begins, place);
  is = is ∙ (ap (λ (q : Play). slot_from q at) play ∙ ap (λ (y : ℕ). slot_from (cyclic ns j) y) place);
})
mixed_slot n ns bs s p at (Put x inside held place) begins is = inr (record {
  x = x;
  play = p;
  one = inside;
  at = held;
  begins = omega (arith, begins, place);
  is = is ∙ ap (λ (y : ℕ). slot_from p y) place;
})

to_slot : (ns bs : List Play) (s : Slot) → 0 < length ns → AllByRecursion IsPlay ns → Contains (placed 0 (hour_plays ns bs)) s → IsSlot ns bs s
to_slot ns bs s some sound held =
    let C : List Play → Type 0 = λ ps. Contains (placed 0 ps) s in
    let room : ℕ = 3600 - total bs in
    elim (cases_eq room 0) [
      | inl full ↦ Full (omega arith) (alone_slot bs s (has_placed (IsAlone bs) 0 bs s (all_alone bs) (subst C (plays_full ns bs full) held)))
      | inr left ↦
          let n : ℕ = normal_count ns room in
          let more = count_some ns room (omega arith) (count_is_least ns room some sound) in
          let first : total (take (before n (length bs) 0) bs) ≡ 0 = ap (λ (x : ℕ). total (take x bs)) (before_none n (length bs) more) in
          let from : total (take (before n (length bs) 0) bs) + total (turns_of 0 ns 0) ≡ 0 = omega (arith, first) in
          let all = subst (λ (y : ℕ). AllAt (IsMixed n ns bs) y (mixed_plays n ns bs)) from (mixed_at n ns bs n 0 more (omega arith)) in
          let h = has_placed (IsMixed n ns bs) 0 (mixed_plays n ns bs) s all (subst C (plays_mixed ns bs (omega arith)) held) in
          elim (mixed_slot n ns bs s h.play h.at h.has h.begins h.is) [
            | inl normal ↦ Normal (omega arith) normal
            | inr between ↦ Between (omega arith) between
          ]
    ]

from_slot : (ns bs : List Play) (s : Slot) → 0 < length ns → AllByRecursion IsPlay ns → IsSlot ns bs s → Contains (placed 0 (hour_plays ns bs)) s
from_slot ns bs s some sound (Full full h) =
    let C : List Play → Slot → Type 0 = λ ps t. Contains (placed 0 ps) t in
    subst (λ (ps : List Play). C ps s) (sym (plays_full ns bs (omega arith)))
    (subst (λ (t : Slot). C bs t) (sym h.is) (standing_has bs h.play (begin_alone bs h.x) (alone_stands bs h.x h.play h.one h.at) h.begins))
from_slot ns bs s some sound (Normal room h) =
    let C : List Play → Slot → Type 0 = λ ps t. Contains (placed 0 ps) t in
    let n : ℕ = normal_count ns (3600 - total bs) in
    subst (λ (ps : List Play). C ps s) (sym (plays_mixed ns bs (omega arith)))
    (subst (λ (t : Slot). C (mixed_plays n ns bs) t) (sym h.is) (standing_has (mixed_plays n ns bs) (cyclic ns h.j) (begin_normal n ns bs h.j) (normal_stands n ns bs h.j h.one) h.begins))
from_slot ns bs s some sound (Between room h) =
    let C : List Play → Slot → Type 0 = λ ps t. Contains (placed 0 ps) t in
    let n : ℕ = normal_count ns (3600 - total bs) in
    let more = count_some ns (3600 - total bs) (omega arith) (count_is_least ns (3600 - total bs) some sound) in
    subst (λ (ps : List Play). C ps s) (sym (plays_mixed ns bs (omega arith)))
    (subst (λ (t : Slot). C (mixed_plays n ns bs) t) (sym h.is) (standing_has (mixed_plays n ns bs) h.play (begin_interrupt n ns bs h.x) (interrupt_stands n ns bs h.x h.play more h.one h.at) h.begins))

pub slots_exact : (ns : List Play) (is : List Interrupt) (s : Slot) → 0 < length ns → AllByRecursion IsPlay ns → Contains (slots_of ns is) s ↔ IsSlot ns (interrupt_plays is) s
slots_exact ns is s some sound = (λ held. to_slot ns (interrupt_plays is) s some sound held, λ h. from_slot ns (interrupt_plays is) s some sound h)

pub exact_since : (ns : List Play) (is : List Interrupt) (ss : List Slot) (s : Slot) → ss ≡ slots_of ns is → 0 < length ns → AllByRecursion IsPlay ns → Contains ss s ↔ IsSlot ns (interrupt_plays is) s
exact_since ns is ss s built some sound = subst (λ (xs : List Slot). Contains xs s ↔ IsSlot ns (interrupt_plays is) s) (sym built) (slots_exact ns is s some sound)
