-- The rounds of the interrupts.
use Rattle.std.proofs.Common.{◌≡◌, ℕ, zero, suc, ◌+◌, ◌-◌, ◌*◌, ◌<◌, ◌≤◌, List, [], ◌∷◌, ◌++◌, length, refl, ap, sym, ◌∙◌, arith, inl, inr, nat_lt, filter, subst, Bool, cond}
use Rattle.std.specs.List.{AllByRecursion}
use Rattle.std.proofs.lemmas.Bool.{cond-true, cond-false, lt-ltb, le-ltb, ltb-false, cases_Bool}
use Rattle.std.proofs.lemmas.Nat.{div_below, le-div}
use Rattle.std.proofs.Math.Nat.{mul-le-mul_right}
use Rattle.sg_voice.specs.declared.play.Play.{Play}
use Rattle.sg_voice.specs.declared.play.Interrupt.{Interrupt}
use Rattle.sg_voice.specs.Hour.{IsInterrupt, count_of, play_of, part_of, round_of, rounds_of, most_of, interrupt_plays, weight, total}

-- an interrupt's part of a round
pub part_none : (r : ℕ) (i : Interrupt) → count_of i ≤ r → part_of r i ≡ []
part_none r i h = cond-false _ _ _ (le-ltb r (count_of i) h)

pub part_some : (r : ℕ) (i : Interrupt) → r < count_of i → part_of r i ≡ play_of i ∷ []
part_some r i h = cond-true _ _ _ (lt-ltb r (count_of i) h)

pub weight_append : (f : Play → ℕ) (xs ys : List Play) → weight f (xs ++ ys) ≡ weight f xs + weight f ys
weight_append f [] ys = omega arith
weight_append f (x ∷ xs) ys = omega (arith, weight_append f xs ys)

-- the rest of the rounds, from round r on
pub next_rounds : (is : List Interrupt) (m r : ℕ) → r < m → rounds_of (m - r) r is ≡ round_of r is ++ rounds_of (m - (r + 1)) (r + 1) is
next_rounds is m r less =
    let e : m - r ≡ suc (m - (r + 1)) = omega arith in
    rw e refl

pub filter_sound : (P : Interrupt → Type 0) (q : Interrupt → Bool) (is : List Interrupt) → AllByRecursion P is → AllByRecursion P (filter q is)
filter_sound P q [] h = h
filter_sound P q (i ∷ is) h =
    let C : Bool → Type 0 = λ b. AllByRecursion P (cond b (i ∷ filter q is) (filter q is)) in
    elim (cases_Bool (q i)) [
      | inl stays ↦ subst C (sym stays) (h.0, filter_sound P q is h.1)
      | inr gone ↦ subst C (sym gone) (filter_sound P q is h.1)
    ]

pub count_some : (i : Interrupt) → IsInterrupt i → 0 < count_of i
count_some i h = omega (arith, le-div 1 (i.share + (i.seconds - 1)) i.seconds h.some (omega arith))

-- the first of m rounds
pub rounds_from : (is : List Interrupt) (m : ℕ) → 0 < m → rounds_of m 0 is ≡ round_of 0 is ++ rounds_of (m - 1) 1 is
rounds_from is zero some = absurd (omega arith)
rounds_from is (suc m) some =
    let e : m ≡ suc m - 1 = omega arith in
    ap (λ (x : ℕ). round_of 0 is ++ rounds_of x 1 is) e

pub first_round : (is : List Interrupt) → AllByRecursion IsInterrupt is → interrupt_plays is ≡ round_of 0 is ++ rounds_of (most_of is - 1) 1 is
unfolding interrupt_plays
first_round [] all = refl
first_round (i ∷ is) all = rounds_from (i ∷ is) (most_of (i ∷ is)) (omega (arith, count_some i all.0))

-- the first round has each interrupt
pub first_seconds : (is : List Interrupt) → AllByRecursion IsInterrupt is → length is ≤ total (round_of 0 is)
first_seconds [] h = omega arith
first_seconds (i ∷ is) h = rw (part_some 0 i (count_some i h.0)) (omega (arith, h.0.some, first_seconds is h.1))

-- an interrupt whose share lies behind it plays no more
pub count_behind : (r : ℕ) (i : Interrupt) → 0 < i.seconds → i.share ≤ r * i.seconds → count_of i ≤ r
count_behind r i some behind = omega (arith, div_below (i.share + (i.seconds - 1)) i.seconds (r + 1) some (omega arith))

-- the test by which the code drops interrupts
abbrev pub plays_in : ℕ → Interrupt → Bool
plays_in r i = nat_lt (r * i.seconds) i.share

pub keep_round : (r s : ℕ) (is : List Interrupt) → r ≤ s → AllByRecursion IsInterrupt is → round_of s (filter (plays_in r) is) ≡ round_of s is
keep_round r s [] h all = refl
keep_round r s (i ∷ is) h all =
    let P : Bool → Type 0 = λ b. round_of s (cond b (i ∷ filter (plays_in r) is) (filter (plays_in r) is)) ≡ part_of s i ++ round_of s is in
    elim (cases_Bool (plays_in r i)) [
      | inl stays ↦ subst P (sym stays) (ap (λ (x : List Play). part_of s i ++ x) (keep_round r s is h all.1))
      | inr gone ↦
          let behind : i.share ≤ s * i.seconds = omega (arith, ltb-false (r * i.seconds) i.share gone, mul-le-mul_right i.seconds h) in
          subst P (sym gone) (keep_round r s is h all.1 ∙ ap (λ (x : List Play). x ++ round_of s is) (sym (part_none s i (count_behind s i all.0.some behind))))
    ]
