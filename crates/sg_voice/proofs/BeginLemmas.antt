-- Where each play of the hour begins: the closed form against the list of plays.
use Rattle.std.proofs.Common.{◌≡◌, ℕ, zero, suc, ◌+◌, ◌-◌, ◌*◌, ◌<◌, ◌≤◌, List, [], ◌∷◌, ◌++◌, length, get_or, take, refl, ap, sym, ◌∙◌, arith, inl, inr, subst, nat_le}
use Rattle.std.specs.List.{Contains}
use Rattle.std.proofs.Math.Nat.{div-mul-le_self, mul-le-mul_right}
use Rattle.std.proofs.lemmas.Nat.{le-div}
use Rattle.std.proofs.lemmas.Bool.{cond-true, cond-false, le-leb, lt-leb, cases_lt}
use Rattle.sg_voice.specs.declared.play.Play.{Play}
use Rattle.sg_voice.specs.declared.play.Slot.{Slot}
use Rattle.sg_voice.specs.Hour.{total, cyclic, turns_of, before, placed}
use Rattle.sg_voice.specs.Begin.{slot_from, earlier}
use Rattle.sg_voice.proofs.MixLemmas.{placed_none, placed_some}
use Rattle.sg_voice.proofs.WeightLemmas.{before_none}

-- ---- A play with a known front has its slot ----

-- a play stands in a list behind so many seconds
pub record Stands (ps : List Play) (p : Play) (seconds : ℕ) : Type 0 where
  pub front : List Play
  pub rest : List Play
  pub is : ps ≡ front ++ (p ∷ rest)
  pub ahead : total front ≡ seconds

contains_first : (x : Slot) (xs : List Slot) → Contains (x ∷ xs) x
contains_first x xs = (0, omega arith, refl)

contains_later : (x y : Slot) (xs : List Slot) → Contains xs x → Contains (y ∷ xs) x
contains_later x y xs (k, inside, is) = (suc k, omega arith, is)

front_has : (front rest : List Play) (p : Play) (at : ℕ) → at + total front < 3600 → Contains (placed at (front ++ (p ∷ rest))) (slot_from p (at + total front))
front_has [] rest p at early =
    let none : at + 0 ≡ at = omega arith in
    let C : List Slot → Type 0 = λ ss. Contains ss (slot_from p at) in
    rw none (subst C (sym (placed_some at p rest (omega arith))) (contains_first (slot_from p at) (placed (at + p.seconds) rest)))
front_has (f ∷ front) rest p at early =
    let next : at + (f.seconds + total front) ≡ at + f.seconds + total front = omega arith in
    let C : List Slot → Type 0 = λ ss. Contains ss (slot_from p (at + f.seconds + total front)) in
    rw next (subst C (sym (placed_some at f (front ++ (p ∷ rest)) (omega arith))) (contains_later _ (slot_from f at) _ (front_has front rest p (at + f.seconds) (omega arith))))

pub standing_has : (ps : List Play) (p : Play) (seconds : ℕ) → Stands ps p seconds → seconds < 3600 → Contains (placed 0 ps) (slot_from p seconds)
standing_has ps p seconds s early =
    let e : 0 + total s.front ≡ seconds = omega (arith, s.ahead) in
    let C : List Play → ℕ → Type 0 = λ qs x. Contains (placed 0 qs) (slot_from p x) in
    subst (λ (qs : List Play). C qs seconds) (sym s.is) (subst (λ (x : ℕ). C (s.front ++ (p ∷ s.rest)) x) e (front_has s.front s.rest p 0 (omega arith)))

-- ---- A slot has a play with a known begin ----

-- a fact of each play and of where it begins
abbrev pub AllAt : (Play → ℕ → Type 0) → ℕ → List Play → Type 0
AllAt P at [] = Unit {0}
AllAt P at (p ∷ ps) = P p at × AllAt P (at + p.seconds) ps

-- a slot is that of a play with the fact
pub record Placed (P : Play → ℕ → Type 0) (s : Slot) : Type 0 where
  pub play : Play
  pub at : ℕ
  pub has : P play at
  pub begins : at < 3600
  pub is : s ≡ slot_from play at

first_placed : (P : Play → ℕ → Type 0) (at : ℕ) (p : Play) (ss : List Slot) (s : Slot) → P p at → at < 3600 → (Contains ss s → Placed P s) → Contains (slot_from p at ∷ ss) s → Placed P s
first_placed P at p ss s has early later (zero, inside, is) = record { play = p; at = at; has = has; begins = early; is = sym is }
first_placed P at p ss s has early later (suc k, inside, is) = later (k, omega arith, is)

none_held : (s : Slot) (A : Type 0) → Contains [] s → A
none_held s A (k, inside, is) = absurd (omega arith)

pub has_placed : (P : Play → ℕ → Type 0) (at : ℕ) (ps : List Play) (s : Slot) → AllAt P at ps → Contains (placed at ps) s → Placed P s
has_placed P at [] s all held = none_held s (Placed P s) held
has_placed P at (p ∷ ps) s all held =
    let C : List Slot → Type 0 = λ ss. Contains ss s in
    elim (cases_lt at 3600) [
      | inl early ↦ first_placed P at p (placed (at + p.seconds) ps) s all.0 early (λ h. has_placed P (at + p.seconds) ps s all.1 h) (subst C (placed_some at p ps early) held)
      | inr late ↦ none_held s (Placed P s) (subst C (placed_none at (p ∷ ps) late) held)
    ]

pub all_at_append : (P : Play → ℕ → Type 0) (at : ℕ) (ps qs : List Play) → AllAt P at ps → AllAt P (at + total ps) qs → AllAt P at (ps ++ qs)
all_at_append P at [] qs h k =
    let e : at + 0 ≡ at = omega arith in
    subst (λ (x : ℕ). AllAt P x qs) e k
all_at_append P at (p ∷ ps) qs h k =
    let e : at + (p.seconds + total ps) ≡ at + p.seconds + total ps = omega arith in
    (h.0, all_at_append P (at + p.seconds) ps qs h.1 (subst (λ (x : ℕ). AllAt P x qs) e k))

-- ---- Sums of the first plays ----

pub total_take : (bs : List Play) (x : ℕ) (d : Play) → x < length bs → total (take (suc x) bs) ≡ total (take x bs) + (get_or bs x d).seconds
total_take [] x d inside = absurd (omega arith)
total_take (b ∷ bs) zero d inside = omega arith
total_take (b ∷ bs) (suc x) d inside = omega (arith, total_take bs x d (omega arith))

pub total_turns : (ns : List Play) (m j : ℕ) → total (turns_of (m + 1) ns j) ≡ total (turns_of m ns j) + (cyclic ns (j + m)).seconds
total_turns ns zero j =
    let e : j + 0 ≡ j = omega arith in
    rw e (omega arith)
total_turns ns (suc m) j =
    let e : j + suc m ≡ j + 1 + m = omega arith in
    let one : suc m + 1 ≡ suc (m + 1) = omega arith in
    rw (one, e) (omega (arith, total_turns ns m (j + 1)))

-- ---- Which normal plays stand after at most x interrupt plays ----

pub before_le : (n k i j : ℕ) → 0 < n → i ≤ j → before n k i ≤ before n k j
before_le n k i j some less = le-div (before n k i) (j * k) n some (omega (arith, div-mul-le_self (i * k) n, mul-le-mul_right k less))

earlier_none : (n : ℕ) (ns : List Play) (k x m i : ℕ) → 0 < n → x < before n k (i + 1) → earlier n ns k x m i ≡ 0
earlier_none n ns k x zero i some past = refl
earlier_none n ns k x (suc m) i some past =
    omega (arith, cond-false (nat_le (before n k (i + 1)) x) (cyclic ns i).seconds 0 (lt-leb (before n k (i + 1)) x past), earlier_none n ns k x m (i + 1) some (omega (arith, before_le n k (i + 1) (i + 1 + 1) some (omega arith))))

earlier_all : (n : ℕ) (ns : List Play) (k x d m i : ℕ) → 0 < n → before n k (i + d) ≤ x → earlier n ns k x (d + m) i ≡ total (turns_of d ns i) + earlier n ns k x m (i + d)
earlier_all n ns k x zero m i some behind =
    let same : 0 + m ≡ m = omega arith in
    let here : i + 0 ≡ i = omega arith in
    rw (same, here) (omega arith)
earlier_all n ns k x (suc d) m i some behind =
    let more : suc d + m ≡ suc (d + m) = omega arith in
    let next : i + suc d ≡ i + 1 + d = omega arith in
    let behind' : before n k (i + 1 + d) ≤ x = subst (λ (y : ℕ). before n k y ≤ x) next behind in
    rw (more, next) (omega (arith, cond-true (nat_le (before n k (i + 1)) x) (cyclic ns i).seconds 0 (le-leb (before n k (i + 1)) x (omega (arith, behind', before_le n k (i + 1) (i + 1 + d) some (omega arith)))), earlier_all n ns k x d m (i + 1) some behind'))

-- the turn of interrupt play x is that of the normal play that it stands before
pub earlier_is : (n : ℕ) (ns : List Play) (k x j : ℕ) → j < n → before n k j ≤ x → x < before n k (j + 1) → earlier n ns k x n 0 ≡ total (turns_of j ns 0)
earlier_is n ns k x j inside behind past =
    let parts : n ≡ j + (n - j) = omega arith in
    let from : 0 + j ≡ j = omega arith in
    let some : 0 < n = omega arith in
    let behind' : before n k (0 + j) ≤ x = subst (λ (y : ℕ). before n k y ≤ x) (sym from) behind in
    let past' : x < before n k (0 + j + 1) = subst (λ (y : ℕ). x < before n k (y + 1)) (sym from) past in
    ap (λ (m : ℕ). earlier n ns k x m 0) parts ∙ omega (arith, earlier_all n ns k x j (n - j) 0 some behind', earlier_none n ns k x (n - j) (0 + j) some past')

pub record Turn (n k x m : ℕ) : Type 0 where
  pub j : ℕ
  pub one : j < m
  pub behind : before n k j ≤ x
  pub past : x < before n k (j + 1)

pub find_turn : (n k x m : ℕ) → 0 < n → x < before n k m → Turn n k x m
find_turn n k x zero some past = absurd (omega (arith, before_none n k some))
find_turn n k x (suc m) some past =
    elim (cases_lt x (before n k m)) [
      | inl less ↦
          let t = find_turn n k x m some less in
          record { j = t.j; one = omega (arith, t.one); behind = t.behind; past = t.past }
      | inr here ↦
          let e : suc m ≡ m + 1 = omega arith in
          record { j = m; one = omega arith; behind = here; past = subst (λ (y : ℕ). x < before n k y) e past }
    ]
