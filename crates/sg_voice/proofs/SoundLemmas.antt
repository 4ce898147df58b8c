-- A fact that holds of each element of the lists that an hour is made from holds of each play of the hour.
use Rattle.std.proofs.Common.{ℕ, zero, suc, ◌+◌, ◌-◌, ◌%◌, ◌<◌, List, [], ◌∷◌, ◌++◌, length, take, drop, inl, inr, subst, sym, Bool, cond, eqb, slice_range}
use Rattle.std.specs.List.{AllByRecursion}
use Rattle.std.proofs.lemmas.Bool.{lt-ltb, le-ltb, cases_lt, cases_Bool}
use Rattle.std.proofs.lemmas.List.Elements.{All-from_recursion}
use Rattle.std.proofs.lemmas.Nat.{mod_below}
use Rattle.sg_voice.specs.declared.play.Play.{Play}
use Rattle.sg_voice.specs.declared.play.Interrupt.{Interrupt}
use Rattle.sg_voice.specs.Hour.{IsPlay, IsInterrupt, count_of, play_of, part_of, round_of, rounds_of, most_of, interrupt_plays, cyclic, turns_of, before, mixed}
use Rattle.sg_voice.specs.Within.{within}

pub all_append : {X : Type 0} (P : X → Type 0) (xs ys : List X) → AllByRecursion P xs → AllByRecursion P ys → AllByRecursion P (xs ++ ys)
all_append P [] ys h k = k
all_append P (x ∷ xs) ys h k = (h.0, all_append P xs ys h.1 k)

pub all_drop : {X : Type 0} (P : X → Type 0) (n : ℕ) (xs : List X) → AllByRecursion P xs → AllByRecursion P (drop n xs)
all_drop P zero xs h = h
all_drop P (suc n) [] h = h
all_drop P (suc n) (x ∷ xs) h = all_drop P n xs h.1

pub all_take : {X : Type 0} (P : X → Type 0) (n : ℕ) (xs : List X) → AllByRecursion P xs → AllByRecursion P (take n xs)
all_take P zero xs h = tt
all_take P (suc n) [] h = h
all_take P (suc n) (x ∷ xs) h = (h.0, all_take P n xs h.1)

pub all_within : (P : Play → Type 0) (room : ℕ) (ps : List Play) → AllByRecursion P ps → AllByRecursion P (within room ps)
all_within P room [] h = h
all_within P room (p ∷ ps) h =
    let C : Bool → Type 0 = λ b. AllByRecursion P (cond b [] (p ∷ within (room - p.seconds) ps)) in
    elim (cases_Bool (eqb room 0)) [
      | inl none ↦ subst C (sym none) tt
      | inr some ↦ subst C (sym some) (h.0, all_within P (room - p.seconds) ps h.1)
    ]

-- a fact of what an interrupt plays
all_part : (P : Play → Type 0) (r : ℕ) (i : Interrupt) → P (play_of i) → AllByRecursion P (part_of r i)
all_part P r i h =
    let C : Bool → Type 0 = λ b. AllByRecursion P (cond b (play_of i ∷ []) []) in
    elim (cases_lt r (count_of i)) [
      | inl plays ↦ subst C (sym (lt-ltb r (count_of i) plays)) (h, tt)
      | inr over ↦ subst C (sym (le-ltb r (count_of i) over)) tt
    ]

all_round : (P : Play → Type 0) (r : ℕ) (is : List Interrupt) → AllByRecursion (λ i. P (play_of i)) is → AllByRecursion P (round_of r is)
all_round P r [] h = h
all_round P r (i ∷ is) h = all_append P (part_of r i) (round_of r is) (all_part P r i h.0) (all_round P r is h.1)

all_rounds : (P : Play → Type 0) (m r : ℕ) (is : List Interrupt) → AllByRecursion (λ i. P (play_of i)) is → AllByRecursion P (rounds_of m r is)
all_rounds P zero r is h = tt
all_rounds P (suc m) r is h = all_append P (round_of r is) (rounds_of m (r + 1) is) (all_round P r is h) (all_rounds P m (r + 1) is h)

pub all_interrupt_plays : (P : Play → Type 0) (is : List Interrupt) → AllByRecursion (λ i. P (play_of i)) is → AllByRecursion P (interrupt_plays is)
unfolding interrupt_plays
all_interrupt_plays P is h = all_rounds P (most_of is) 0 is h

plays_of : (is : List Interrupt) → AllByRecursion IsInterrupt is → AllByRecursion (λ i. IsPlay (play_of i)) is
plays_of [] h = h
plays_of (i ∷ is) h = (record { some = h.0.some; few = h.0.few }, plays_of is h.1)

pub interrupt_plays_sound : (is : List Interrupt) → AllByRecursion IsInterrupt is → AllByRecursion IsPlay (interrupt_plays is)
interrupt_plays_sound is h = all_interrupt_plays IsPlay is (plays_of is h)

pub at_cyclic : (P : Play → Type 0) (ns : List Play) (j : ℕ) → 0 < length ns → AllByRecursion P ns → P (cyclic ns j)
at_cyclic P ns j some h = All-from_recursion P ns h (j % length ns) _ (mod_below j (length ns) some)

pub all_turns : (P : Play → Type 0) (m : ℕ) (ns : List Play) (j : ℕ) → 0 < length ns → AllByRecursion P ns → AllByRecursion P (turns_of m ns j)
all_turns P zero ns j some h = tt
all_turns P (suc m) ns j some h = (at_cyclic P ns j some h, all_turns P m ns (j + 1) some h)

pub all_mixed : (P : Play → Type 0) (n : ℕ) (ns bs : List Play) (m j : ℕ) → 0 < length ns → AllByRecursion P ns → AllByRecursion P bs → AllByRecursion P (mixed n ns bs m j)
all_mixed P n ns bs zero j some h k = tt
all_mixed P n ns bs (suc m) j some h k =
    let x = before n (length bs) j in
    let y = before n (length bs) (j + 1) in
    all_append P (slice_range bs x y) (cyclic ns j ∷ mixed n ns bs m (j + 1)) (all_take P (y - x) (drop x bs) (all_drop P x bs k)) (at_cyclic P ns j some h, all_mixed P n ns bs m (j + 1) some h k)
