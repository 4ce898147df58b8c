-- Sums over the plays of the hour, and the number of normal plays.
use Rattle.std.proofs.Common.{◌≡◌, ℕ, zero, suc, ◌+◌, ◌-◌, ◌*◌, ◌<◌, ◌≤◌, List, ◌∷◌, length, take, drop, ap, ◌∙◌, arith, inl, inr, subst, add-one, slice_range}
use Rattle.std.specs.List.{AllByRecursion}
use Rattle.std.proofs.Math.Seq.{take-add}
use Rattle.std.proofs.Math.Nat.{div-mul-le_self}
use Rattle.std.proofs.lemmas.Nat.{le-div}
use Rattle.std.proofs.lemmas.Bool.{cond-false, ne_eqb, cases_eq}
use Rattle.std.proofs.lemmas.List.{take_all}
use Rattle.sg_voice.specs.declared.play.Play.{Play}
use Rattle.sg_voice.specs.Hour.{IsPlay, IsLeast, weight, total, cyclic, turns_of, fill_from, normal_count, before, mixed, mixed_plays}
use Rattle.sg_voice.proofs.SoundLemmas.{at_cyclic}
use Rattle.sg_voice.proofs.RoundLemmas.{weight_append}
use Rattle.sg_voice.proofs.MixLemmas.{filled, before_is}

-- ---- Enough normal plays, and no more ----

fill_some : (fuel : ℕ) (ns : List Play) (j room : ℕ) → 0 < room → fill_from (suc fuel) ns j room ≡ fill_from fuel ns (j + 1) (room - (cyclic ns j).seconds) + 1
fill_some fuel ns j room some = cond-false _ _ _ (ne_eqb room 0 (λ z. omega (arith, z)))

fill_reaches : (fuel : ℕ) (ns : List Play) (j room : ℕ) → 0 < length ns → AllByRecursion IsPlay ns → room ≤ fuel → room ≤ total (turns_of (fill_from fuel ns j room) ns j)
fill_reaches zero ns j room some sound few = omega arith
fill_reaches (suc fuel) ns j room some sound few =
    elim (cases_eq room 0) [
      | inl none ↦ omega arith
      | inr left ↦
          let play = at_cyclic IsPlay ns j some sound in
          let next : ℕ = fill_from fuel ns (j + 1) (room - (cyclic ns j).seconds) in
          let e : fill_from (suc fuel) ns j room ≡ suc next = fill_some fuel ns j room (omega arith) ∙ add-one next in
          rw e (omega (arith, play.some, fill_reaches fuel ns (j + 1) (room - (cyclic ns j).seconds) some sound (omega (arith, play.some))))
    ]

fill_least : (fuel : ℕ) (ns : List Play) (j room m : ℕ) → room ≤ total (turns_of m ns j) → fill_from fuel ns j room ≤ m
fill_least zero ns j room m reaches = omega arith
fill_least (suc fuel) ns j room zero reaches = omega (arith, filled (suc fuel) ns j room (omega arith))
fill_least (suc fuel) ns j room (suc m) reaches =
    elim (cases_eq room 0) [
      | inl none ↦ omega (arith, filled (suc fuel) ns j room none)
      | inr left ↦ omega (arith, fill_some fuel ns j room (omega arith), fill_least fuel ns (j + 1) (room - (cyclic ns j).seconds) m (omega arith))
    ]

pub count_is_least : (ns : List Play) (room : ℕ) → 0 < length ns → AllByRecursion IsPlay ns → IsLeast ns room (normal_count ns room)
unfolding normal_count
count_is_least ns room some sound = record {
  reaches = fill_reaches room ns 0 room some sound (omega arith);
  least = λ m reaches. fill_least room ns 0 room m reaches;
}

-- some room needs a normal play
pub count_some : (ns : List Play) (room : ℕ) → 0 < room → IsLeast ns room (normal_count ns room) → 0 < normal_count ns room
count_some ns room some least =
    elim (cases_eq (normal_count ns room) 0) [
      | inl none ↦
          let e : room ≤ total (turns_of 0 ns 0) = subst (λ (n : ℕ). room ≤ total (turns_of n ns 0)) none least.reaches in
          absurd (omega arith)
      | inr more ↦ omega arith
    ]

-- ---- What the mixed plays weigh ----

pub range_split : (f : Play → ℕ) (bs : List Play) (a b : ℕ) → a ≤ b → weight f (take b bs) ≡ weight f (take a bs) + weight f (slice_range bs a b)
range_split f bs a b less =
    let e : b ≡ a + (b - a) = omega arith in
    ap (λ (x : ℕ). weight f (take x bs)) e ∙ (ap (λ (q : List Play). weight f q) (take-add a (b - a) bs) ∙ weight_append f (take a bs) (take (b - a) (drop a bs)))

pub before_up : (n k j : ℕ) → 0 < n → before n k j ≤ before n k (j + 1)
before_up n k j some = le-div (before n k j) ((j + 1) * k) n some (omega (arith, div-mul-le_self (j * k) n))

pub before_none : (n k : ℕ) → 0 < n → before n k 0 ≡ 0
before_none n k some = before_is n 0 0 (0 * k) (omega arith) some

pub before_all : (n k : ℕ) → 0 < n → before n k n ≡ k
before_all n k some = before_is n k 0 (n * k) (omega arith) some

pub mixed_weight : (f : Play → ℕ) (n : ℕ) (ns bs : List Play) (m j : ℕ) → 0 < n → weight f (mixed n ns bs m j) + weight f (take (before n (length bs) j) bs) ≡ weight f (take (before n (length bs) (j + m)) bs) + weight f (turns_of m ns j)
mixed_weight f n ns bs zero j some =
    let e : j + zero ≡ j = omega arith in
    rw e (omega arith)
mixed_weight f n ns bs (suc m) j some =
    let k = length bs in
    let e : j + suc m ≡ j + 1 + m = omega arith in
    rw e (omega (arith, mixed_weight f n ns bs m (j + 1) some, range_split f bs (before n k j) (before n k (j + 1)) (before_up n k j some), weight_append f (slice_range bs (before n k j) (before n k (j + 1))) (cyclic ns j ∷ mixed n ns bs m (j + 1))))

pub mixed_plays_weight : (f : Play → ℕ) (n : ℕ) (ns bs : List Play) → 0 < n → weight f (mixed_plays n ns bs) ≡ weight f bs + weight f (turns_of n ns 0)
mixed_plays_weight f n ns bs some =
    let k = length bs in
    let first : weight f (take (before n k 0) bs) ≡ 0 = ap (λ (x : ℕ). weight f (take x bs)) (before_none n k some) in
    let zero_n : 0 + n ≡ n = omega arith in
    let last : weight f (take (before n k (0 + n)) bs) ≡ weight f bs = ap (λ (x : ℕ). weight f (take (before n k x) bs)) zero_n ∙ (ap (λ (x : ℕ). weight f (take x bs)) (before_all n k some) ∙ ap (λ (q : List Play). weight f q) (take_all k bs (omega arith))) in
    omega (arith, mixed_weight f n ns bs n 0 some, first, last)
