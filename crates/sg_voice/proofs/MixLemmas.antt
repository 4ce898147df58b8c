-- The walk that puts the plays, and what it has left to do.
use Rattle.std.proofs.Common.{◌≡◌, ℕ, zero, suc, ◌+◌, ◌-◌, ◌*◌, ◌/◌, ◌<◌, ◌≤◌, List, [], ◌∷◌, ◌++◌, length, get_or, refl, ap, sym, ◌∙◌, arith, drop-cons, add-one, inl, inr}
use Rattle.std.specs.List.{slice_range}
use Rattle.std.proofs.lemmas.Bool.{cond-true, cond-false, lt-ltb, le-ltb, eq-eqb, ne_eqb, cases_lt}
use Rattle.std.proofs.lemmas.Nat.{div-mul-add, le-div}
use Rattle.std.proofs.Math.Nat.{mul-le-mul_right}
use Rattle.sg_voice.specs.declared.play.Play.{Play}
use Rattle.sg_voice.specs.declared.play.Slot.{Slot}
use Rattle.sg_voice.specs.Hour.{cyclic, fill_from, normal_count, before, mixed, placed}
use Rattle.sg_voice.specs.Begin.{slot_from}
use Rattle.sg_voice.specs.Within.{within}
use Rattle.sg_voice.proofs.WithinLemmas.{within_some}

-- ---- Plays that are put ----

pub placed_none : (at : ℕ) (ps : List Play) → 3600 ≤ at → placed at ps ≡ []
placed_none at [] late = refl
placed_none at (p ∷ ps) late = cond-false _ _ _ (le-ltb at 3600 late)

pub placed_some : (at : ℕ) (p : Play) (ps : List Play) → at < 3600 → placed at (p ∷ ps) ≡ slot_from p at ∷ placed (at + p.seconds) ps
placed_some at p ps early = cond-true _ _ _ (lt-ltb at 3600 early)

-- what lies past the hour leaves no slot
pub placed_within : (at : ℕ) (ps : List Play) → placed at (within (3600 - at) ps) ≡ placed at ps
placed_within at [] = refl
placed_within at (p ∷ ps) =
    elim (cases_lt at 3600) [
      | inl early ↦
          let e : 3600 - at - p.seconds ≡ 3600 - (at + p.seconds) = omega arith in
          ap (λ (q : List Play). placed at q) (within_some (3600 - at) p ps (omega arith))
          ∙ (placed_some at p (within (3600 - at - p.seconds) ps) early
          ∙ (ap (λ (r : ℕ). slot_from p at ∷ placed (at + p.seconds) (within r ps)) e
          ∙ (ap (λ (q : List Slot). slot_from p at ∷ q) (placed_within (at + p.seconds) ps)
          ∙ sym (placed_some at p ps early))))
      | inr late ↦ placed_none at _ late ∙ sym (placed_none at (p ∷ ps) late)
    ]

-- ---- How many interrupt plays come first ----

pub before_is : (n x r m : ℕ) → x * n + r ≡ m → r < n → m / n ≡ x
before_is n x r m e small = rw (← e) (div-mul-add x n r small)

pub before_more : (n x r m : ℕ) → 0 < n → x * n + r ≡ m → n ≤ r → x + 1 ≤ m / n
before_more n x r m some e large = le-div (x + 1) m n some (omega arith)

-- while the remainder holds a whole n, an interrupt play is left
pub next_inside : (n x r k j : ℕ) → j < n → x * n + r ≡ (j + 1) * k → n ≤ r → x < k
next_inside n x r k j inside e large =
    elim (cases_lt x k) [
      | inl less ↦ less
      | inr past ↦
          let few : j + 1 ≤ n = omega arith in
          absurd (omega (arith, mul-le-mul_right n past, mul-le-mul_right k few))
    ]

-- ---- What is left of the mixed plays ----

pub mixed_from : (n : ℕ) (ns bs : List Play) (j x r : ℕ) → j < n → x * n + r ≡ j * length bs → r < n → mixed n ns bs (n - j) j ≡ slice_range bs x (before n (length bs) (j + 1)) ++ (cyclic ns j ∷ mixed n ns bs (n - (j + 1)) (j + 1))
mixed_from n ns bs j x r inside place small =
    let e : n - j ≡ suc (n - (j + 1)) = omega arith in
    let b : (j * length bs) / n ≡ x = before_is n x r (j * length bs) place small in
    rw (e, b) refl

pub range_step : (bs : List Play) (x end : ℕ) (d : Play) → x < length bs → x + 1 ≤ end → slice_range bs x end ≡ get_or bs x d ∷ slice_range bs (x + 1) end
range_step bs x end d inside more =
    let e : end - x ≡ suc (end - (x + 1)) = omega arith in
    rw (e, drop-cons bs x d inside, add-one) refl

pub range_end : (bs : List Play) (x end : ℕ) → end ≤ x → slice_range bs x end ≡ []
range_end bs x end all =
    let e : end - x ≡ 0 = omega arith in
    rw e refl

-- ---- How many normal plays fill the room ----

pub filled : (fuel : ℕ) (ns : List Play) (j room : ℕ) → room ≡ 0 → fill_from fuel ns j room ≡ 0
filled zero ns j room none = refl
filled (suc fuel) ns j room none = cond-true _ _ _ (eq-eqb room 0 none)

-- one play of n more
pub fill_more : (room n left : ℕ) (ns : List Play) → 0 < left → left + n ≤ room → fill_from (room - n) ns n left ≡ fill_from (room - (n + 1)) ns (n + 1) (left - (cyclic ns n).seconds) + 1
fill_more room n left ns some few =
    let e : room - n ≡ suc (room - (n + 1)) = omega arith in
    rw e (cond-false _ _ _ (ne_eqb left 0 (λ z. omega (arith, z))))

pub fill_all : (ns : List Play) (room : ℕ) → fill_from (room - 0) ns 0 room + 0 ≡ normal_count ns room
unfolding normal_count
fill_all ns room =
    let e : room - 0 ≡ room = omega arith in
    rw e (omega arith)
