-- How many seconds of an hour with room the interrupts and the normal plays have.
use Rattle.std.proofs.Common.{◌≡◌, ◌==◌, ℕ, zero, suc, ◌+◌, ◌-◌, ◌*◌, ◌<◌, ◌≤◌, min, Bool, true, false, cond, List, [], ◌∷◌, ◌++◌, length, get_or, take, drop, refl, ap, sym, ◌∙◌, append_assoc, arith, inl, inr, subst, slice_range}
use Rattle.std.specs.List.{AllByRecursion}
use Rattle.std.proofs.lemmas.Bool.{cond-true, cond-false, lt-ltb, le-ltb, eq-eqb, ne_eqb, cases_lt, or_left, or_right}
use Rattle.std.proofs.lemmas.Nat.{div-add-mod', mod_below}
use Rattle.std.proofs.lemmas.List.Elements.{All-from_recursion}
use Rattle.std.proofs.lemmas.List.{take_all, take-append-drop}
use Rattle.sg_voice.specs.declared.play.Play.{Play}
use Rattle.sg_voice.specs.declared.play.Interrupt.{Interrupt}
use Rattle.sg_voice.specs.declared.play.Slot.{Slot}
use Rattle.sg_voice.specs.Hour.{IsPlay, IsInterrupt, IsLeast, count_of, play_of, part_of, round_of, rounds_of, most_of, interrupt_plays, weight, total, cyclic, turns_of, normal_count, before, mixed, mixed_plays, hour_plays, placed, slots_of, seconds_where}
use Rattle.sg_voice.specs.Begin.{slot_from, begin_normal}
use Rattle.sg_voice.specs.Law.{has_event, normal_seconds, all_normal_seconds, HourLaw}
use Rattle.sg_voice.proofs.SoundLemmas.{all_turns, all_interrupt_plays, at_cyclic}
use Rattle.sg_voice.proofs.RoundLemmas.{weight_append}
use Rattle.sg_voice.proofs.MixLemmas.{placed_some}
use Rattle.sg_voice.proofs.WeightLemmas.{count_is_least, count_some, range_split, before_up, before_none, before_all, mixed_weight}
use Rattle.sg_voice.proofs.TileLemmas.{plays_mixed, slots_tile}
use Rattle.sg_voice.proofs.SecondLemmas.{both_ways}
use Rattle.sg_voice.proofs.BeginLemmas.{total_turns}
use Rattle.sg_voice.proofs.ExactLemmas.{turn_split, front_seconds}

-- ---- The plays of each interrupt ----

-- the seconds of a play whose event passes a test
abbrev pub seconds_if : (ℕ → Bool) → Play → ℕ
seconds_if q p = cond (q p.event) p.seconds 0

-- what m rounds from the one numbered r on weigh, interrupt by interrupt
abbrev shares_from : (Play → ℕ) → ℕ → ℕ → List Interrupt → ℕ
shares_from f m r [] = 0
shares_from f m r (i ∷ is) = (min (count_of i) (r + m) - r) * f (play_of i) + shares_from f m r is

-- what all plays weigh, interrupt by interrupt
abbrev shares_of : (Play → ℕ) → List Interrupt → ℕ
shares_of f [] = 0
shares_of f (i ∷ is) = count_of i * f (play_of i) + shares_of f is

no_shares : (f : Play → ℕ) (r : ℕ) (is : List Interrupt) → shares_from f 0 r is ≡ 0
no_shares f r [] = refl
no_shares f r (i ∷ is) =
    let none : min (count_of i) (r + 0) - r ≡ 0 = omega arith in
    rw none (omega (arith, no_shares f r is))

part_weight : (f : Play → ℕ) (m r : ℕ) (i : Interrupt) → weight f (part_of r i) + (min (count_of i) (r + 1 + m) - (r + 1)) * f (play_of i) ≡ (min (count_of i) (r + suc m) - r) * f (play_of i)
part_weight f m r i =
    let W : Bool → Type 0 = λ b. weight f (cond b (play_of i ∷ []) []) + (min (count_of i) (r + 1 + m) - (r + 1)) * f (play_of i) ≡ (min (count_of i) (r + suc m) - r) * f (play_of i) in
    elim (cases_lt r (count_of i)) [
      | inl plays ↦
          let more : min (count_of i) (r + suc m) - r ≡ (min (count_of i) (r + 1 + m) - (r + 1)) + 1 = omega arith in
          subst W (sym (lt-ltb r (count_of i) plays)) (rw more (omega arith))
      | inr over ↦
          let none : min (count_of i) (r + suc m) - r ≡ 0 = omega arith in
          let none' : min (count_of i) (r + 1 + m) - (r + 1) ≡ 0 = omega arith in
          subst W (sym (le-ltb r (count_of i) over)) (rw (none, none') (omega arith))
    ]

round_weight : (f : Play → ℕ) (m r : ℕ) (is : List Interrupt) → weight f (round_of r is) + shares_from f m (r + 1) is ≡ shares_from f (suc m) r is
round_weight f m r [] = refl
round_weight f m r (i ∷ is) = omega (arith, weight_append f (part_of r i) (round_of r is), part_weight f m r i, round_weight f m r is)

rounds_weight : (f : Play → ℕ) (m r : ℕ) (is : List Interrupt) → weight f (rounds_of m r is) ≡ shares_from f m r is
rounds_weight f zero r is = sym (no_shares f r is)
rounds_weight f (suc m) r is = omega (arith, weight_append f (round_of r is) (rounds_of m (r + 1) is), rounds_weight f m (r + 1) is, round_weight f m r is)

all_shares : (f : Play → ℕ) (m : ℕ) (is : List Interrupt) → most_of is ≤ m → shares_from f m 0 is ≡ shares_of f is
all_shares f m [] few = refl
all_shares f m (i ∷ is) few =
    let whole : min (count_of i) (0 + m) - 0 ≡ count_of i = omega arith in
    rw whole (omega (arith, all_shares f m is (omega arith)))

interrupt_weight : (f : Play → ℕ) (is : List Interrupt) → weight f (interrupt_plays is) ≡ shares_of f is
unfolding interrupt_plays
interrupt_weight f is = rounds_weight f (most_of is) 0 is ∙ all_shares f (most_of is) is (omega arith)

other_shares : (e : ℕ) (d : Interrupt) (is : List Interrupt) → ((m : ℕ) → m < length is → (get_or is m d).event ≡ e → ⊥) → shares_of (seconds_if (λ x. x == e)) is ≡ 0
other_shares e d [] none = refl
other_shares e d (i ∷ is) none =
    let head : seconds_if (λ x. x == e) (play_of i) ≡ 0 = cond-false (i.event == e) i.seconds 0 (ne_eqb i.event e (none 0 (omega arith))) in
    rw head (omega (arith, other_shares e d is (λ m inside same. none (suc m) (omega arith) same)))

alone_shares : (i : Interrupt) (is : List Interrupt) (k : ℕ) → k < length is → get_or is k i ≡ i → ((m : ℕ) → m < length is → (get_or is m i).event ≡ i.event → m ≡ k) → shares_of (seconds_if (λ x. x == i.event)) is ≡ count_of i * i.seconds
alone_shares i [] k inside is_i only = absurd (omega arith)
alone_shares i (j ∷ is) zero inside is_i only =
    let here : count_of j * seconds_if (λ x. x == i.event) (play_of j) ≡ count_of i * i.seconds =
    ap (λ (x : Interrupt). count_of x * seconds_if (λ y. y == i.event) (play_of x)) is_i ∙ ap (λ (y : ℕ). count_of i * y) (cond-true (i.event == i.event) i.seconds 0 (eq-eqb i.event i.event refl)) in
    omega (arith, here, other_shares i.event i is (λ m less same. omega (arith, only (suc m) (omega arith) same)))
alone_shares i (j ∷ is) (suc k) inside is_i only =
    let head : seconds_if (λ x. x == i.event) (play_of j) ≡ 0 = cond-false (j.event == i.event) j.seconds 0 (ne_eqb j.event i.event (λ same. omega (arith, only 0 (omega arith) same))) in
    rw head (omega (arith, alone_shares i is k (omega arith) is_i (λ m less same. omega (arith, only (suc m) (omega arith) same))))

-- a share, rounded up to whole plays
pub share_enough : (i : Interrupt) → IsInterrupt i → (i.share ≤ count_of i * i.seconds) × (count_of i * i.seconds < i.share + i.seconds)
share_enough i h =
    let parts = div-add-mod' (i.share + (i.seconds - 1)) i.seconds in
    let small = mod_below (i.share + (i.seconds - 1)) i.seconds h.some in
    (omega (arith, parts, small, h.some), omega (arith, parts, small, h.some))

-- ---- The slots of plays that fit ----

-- plays that end in the hour, and one that the hour's end may cut, whose event fails the test
placed_where : (q : ℕ → Bool) (at : ℕ) (ps : List Play) (last : Play) → at + total ps < 3600 → q last.event ≡ false → seconds_where q (placed at (ps ++ last ∷ [])) ≡ weight (seconds_if q) ps
placed_where q at [] last fits fails =
    ap (λ (ss : List Slot). seconds_where q ss) (placed_some at last [] (omega arith)) ∙ omega (arith, cond-false (q last.event) (min last.seconds (3600 - at)) 0 fails)
placed_where q at (p ∷ ps) last fits fails =
    let whole : min p.seconds (3600 - at) ≡ p.seconds = omega arith in
    let one = ap (λ (x : ℕ). cond (q p.event) x 0) whole in
    ap (λ (ss : List Slot). seconds_where q ss) (placed_some at p (ps ++ last ∷ []) (omega arith)) ∙ omega (arith, one, placed_where q (at + p.seconds) ps last (omega arith) fails)

fails_weigh : (q : ℕ → Bool) (ps : List Play) → AllByRecursion (λ p. q p.event ≡ false) ps → weight (seconds_if q) ps ≡ 0
fails_weigh q [] h = refl
fails_weigh q (p ∷ ps) h = omega (arith, cond-false (q p.event) p.seconds 0 h.0, fails_weigh q ps h.1)

passes_weigh : (q : ℕ → Bool) (ps : List Play) → AllByRecursion (λ p. q p.event ≡ true) ps → weight (seconds_if q) ps ≡ total ps
passes_weigh q [] h = refl
passes_weigh q (p ∷ ps) h = omega (arith, cond-true (q p.event) p.seconds 0 h.0, passes_weigh q ps h.1)

-- one normal play less doesn't fill the room
not_yet : (ns : List Play) (room n : ℕ) → IsLeast ns room n → 0 < n → total (turns_of (n - 1) ns 0) < room
not_yet ns room n least some =
    elim (cases_lt (total (turns_of (n - 1) ns 0)) room) [
      | inl less ↦ less
      | inr reaches ↦ absurd (omega (arith, least.least (n - 1) reaches))
    ]

-- ---- The interrupts' seconds ----

-- with room for all interrupts every play begins in the hour, and only the last, a normal one, is cut
mixed_where : (q : ℕ → Bool) (ns bs : List Play) (room n : ℕ) → room ≡ 3600 - total bs → 0 < room → 0 < n → 0 < length ns → IsLeast ns room n → AllByRecursion (λ p. q p.event ≡ false) ns → seconds_where q (placed 0 (mixed_plays n ns bs)) ≡ weight (seconds_if q) bs
mixed_where q ns bs room n is more some list least fails =
    let k : ℕ = length bs in
    let j : ℕ = n - 1 in
    let one : j + 1 ≡ n = omega arith in
    let none : n - (j + 1) ≡ 0 = omega arith in
    let last : Play = cyclic ns j in
    let front : List Play = mixed n ns bs j 0 in
    let range : List Play = slice_range bs (before n k j) (before n k (j + 1)) in
    let parts : mixed_plays n ns bs ≡ (front ++ range) ++ last ∷ [] =
    turn_split n ns bs j (omega arith) ∙ (ap (λ (m : ℕ). front ++ (range ++ (last ∷ mixed n ns bs m (j + 1)))) none ∙ sym (append_assoc front range (last ∷ []))) in
    let all : take (before n k (j + 1)) bs ≡ bs = ap (λ (m : ℕ). take (before n k m) bs) one ∙ (ap (λ (m : ℕ). take m bs) (before_all n k some) ∙ take_all k bs (omega arith)) in
    let ahead : total (front ++ range) ≡ total bs + total (turns_of j ns 0) =
    omega (arith, weight_append (λ p. p.seconds) front range, front_seconds n ns bs j some, range_split (λ p. p.seconds) bs (before n k j) (before n k (j + 1)) (before_up n k j some), ap (λ (ps : List Play). total ps) all) in
    let fits : 0 + total (front ++ range) < 3600 = omega (arith, ahead, not_yet ns room n least some) in
    let from : 0 + j ≡ j = omega arith in
    let first : weight (seconds_if q) (take (before n k 0) bs) ≡ 0 = ap (λ (m : ℕ). weight (seconds_if q) (take m bs)) (before_none n k some) in
    let until = ap (λ (m : ℕ). weight (seconds_if q) (take (before n k m) bs)) from in
    let weighs : weight (seconds_if q) (front ++ range) ≡ weight (seconds_if q) bs =
    omega (arith, weight_append (seconds_if q) front range, mixed_weight (seconds_if q) n ns bs j 0 some, first, until, range_split (seconds_if q) bs (before n k j) (before n k (j + 1)) (before_up n k j some), ap (λ (ps : List Play). weight (seconds_if q) ps) all, fails_weigh q (turns_of j ns 0) (all_turns (λ p. q p.event ≡ false) j ns 0 list fails)) in
    ap (λ (ps : List Play). seconds_where q (placed 0 ps)) parts
    ∙ (placed_where q 0 (front ++ range) last fits (at_cyclic (λ p. q p.event ≡ false) ns j list fails) ∙ weighs)

hour_where : (q : ℕ → Bool) (ns bs : List Play) → 0 < length ns → AllByRecursion IsPlay ns → AllByRecursion (λ p. q p.event ≡ false) ns → total bs < 3600 → seconds_where q (placed 0 (hour_plays ns bs)) ≡ weight (seconds_if q) bs
hour_where q ns bs list sound fails less =
    let room : ℕ = 3600 - total bs in
    let least = count_is_least ns room list sound in
    let some = count_some ns room (omega arith) least in
    ap (λ (ps : List Play). seconds_where q (placed 0 ps)) (plays_mixed ns bs (omega arith))
    ∙ mixed_where q ns bs room (normal_count ns room) refl (omega arith) some list least fails

-- ---- The normal plays' seconds ----

total_take_le : (bs : List Play) (x : ℕ) → total (take x bs) ≤ total bs
total_take_le bs x = omega (arith, ap (λ (ps : List Play). total ps) (take-append-drop x bs), weight_append (λ p. p.seconds) (take x bs) (drop x bs))

-- the first normal plays are whole
normal_front : (n : ℕ) (ns bs : List Play) (m j : ℕ) → ((i : ℕ) → i < j + m → begin_normal n ns bs i + (cyclic ns i).seconds ≤ 3600) → normal_seconds n ns bs m j ≡ total (turns_of m ns j)
normal_front n ns bs zero j whole = refl
normal_front n ns bs (suc m) j whole =
    omega (arith, whole j (omega arith), normal_front n ns bs m (j + 1) (λ i less. whole i (omega arith)))

normal_last : (n : ℕ) (ns bs : List Play) (m j : ℕ) → normal_seconds n ns bs (m + 1) j ≡ normal_seconds n ns bs m j + (slot_from (cyclic ns (j + m)) (begin_normal n ns bs (j + m))).seconds
normal_last n ns bs zero j =
    let e : j + 0 ≡ j = omega arith in
    rw e (omega arith)
normal_last n ns bs (suc m) j =
    let e : j + suc m ≡ j + 1 + m = omega arith in
    let one : suc m + 1 ≡ suc (m + 1) = omega arith in
    rw (one, e) (omega (arith, normal_last n ns bs m (j + 1)))

turns_up : (ns : List Play) (a d : ℕ) → total (turns_of a ns 0) ≤ total (turns_of (a + d) ns 0)
turns_up ns a zero =
    let e : a + 0 ≡ a = omega arith in
    rw e (omega arith)
turns_up ns a (suc d) =
    let e : a + suc d ≡ a + d + 1 = omega arith in
    rw e (omega (arith, turns_up ns a d, total_turns ns (a + d) 0))

normal_rest : (ns bs : List Play) → 0 < length ns → AllByRecursion IsPlay ns → total bs < 3600 → all_normal_seconds ns bs ≡ 3600 - total bs
normal_rest ns bs list sound less =
    let room : ℕ = 3600 - total bs in
    let n : ℕ = normal_count ns room in
    let k : ℕ = length bs in
    let j : ℕ = n - 1 in
    let least = count_is_least ns room list sound in
    let some = count_some ns room (omega arith) least in
    let one : j + 1 ≡ n = omega arith in
    let from : 0 + j ≡ j = omega arith in
    let early = not_yet ns room n least some in
    let whole = λ (i : ℕ) (h : i < 0 + j).
    let up : i + 1 + (j - (i + 1)) ≡ j = omega arith in
    let grows : total (turns_of (i + 1) ns 0) ≤ total (turns_of j ns 0) = subst (λ (m : ℕ). total (turns_of (i + 1) ns 0) ≤ total (turns_of m ns 0)) up (turns_up ns (i + 1) (j - (i + 1))) in
    let from_i : 0 + i ≡ i = omega arith in
    let turned : total (turns_of (i + 1) ns 0) ≡ total (turns_of i ns 0) + (cyclic ns i).seconds = total_turns ns i 0 ∙ ap (λ (y : ℕ). total (turns_of i ns 0) + (cyclic ns y).seconds) from_i in
    let fits : begin_normal n ns bs i + (cyclic ns i).seconds ≤ 3600 = omega (arith, grows, turned, early, total_take_le bs (before n k (i + 1))) in
    fits in
    let front = normal_front n ns bs j 0 whole in
    let all : take (before n k (j + 1)) bs ≡ bs = ap (λ (m : ℕ). take (before n k m) bs) one ∙ (ap (λ (m : ℕ). take m bs) (before_all n k some) ∙ take_all k bs (omega arith)) in
    let begins : begin_normal n ns bs j ≡ total (turns_of j ns 0) + total bs = ap (λ (ps : List Play). total (turns_of j ns 0) + total ps) all in
    let turned : total (turns_of n ns 0) ≡ total (turns_of j ns 0) + (cyclic ns j).seconds =
    ap (λ (m : ℕ). total (turns_of m ns 0)) (sym one) ∙ (total_turns ns j 0 ∙ ap (λ (y : ℕ). total (turns_of j ns 0) + (cyclic ns y).seconds) from) in
    let cut : (slot_from (cyclic ns j) (begin_normal n ns bs j)).seconds ≡ 3600 - (total (turns_of j ns 0) + total bs) = omega (arith, begins, turned, least.reaches) in
    let last = normal_last n ns bs j 0 ∙ ap (λ (y : ℕ). normal_seconds n ns bs j 0 + (slot_from (cyclic ns y) (begin_normal n ns bs y)).seconds) from in
    ap (λ (m : ℕ). normal_seconds n ns bs m 0) (sym one) ∙ omega (arith, last, front, cut, early)

-- ---- The law ----

-- each interrupt's event is that of an interrupt
all_have : (all is : List Interrupt) → ((e : ℕ) → has_event is e ≡ true → has_event all e ≡ true) → AllByRecursion (λ i. has_event all (play_of i).event ≡ true) is
all_have all [] inside = tt
all_have all (i ∷ is) inside = (
  inside i.event (or_left (i.event == i.event) (has_event is i.event) (eq-eqb i.event i.event refl)),
  all_have all is (λ e h. inside e (or_right (i.event == e) (has_event is e) h)),
)

sound_at : (is : List Interrupt) (k : ℕ) (i : Interrupt) → AllByRecursion IsInterrupt is → k < length is → get_or is k i ≡ i → IsInterrupt i
sound_at is k i sound inside is_i = subst (λ (x : Interrupt). IsInterrupt x) is_i (All-from_recursion IsInterrupt is sound k i inside)

hour_law : (ns : List Play) (is : List Interrupt) → 0 < length ns → AllByRecursion IsPlay ns → AllByRecursion IsInterrupt is → total (interrupt_plays is) < 3600 → HourLaw ns is (slots_of ns is)
hour_law ns is list sound between less =
    let bs : List Play = interrupt_plays is in
    record {
      each = λ k i inside is_i alone.
          hour_where (λ x. x == i.event) ns bs list sound alone.normals less
          ∙ (interrupt_weight (seconds_if (λ x. x == i.event)) is ∙ alone_shares i is k inside is_i alone.others);
      enough = λ k i inside is_i. (share_enough i (sound_at is k i between inside is_i)).0;
      no_more = λ k i inside is_i. (share_enough i (sound_at is k i between inside is_i)).1;
      rest = normal_rest ns bs list sound less;
      apart = λ fails.
          let theirs = passes_weigh (has_event is) bs (all_interrupt_plays (λ p. has_event is p.event ≡ true) is (all_have is is (λ e h. h))) in
          omega (arith, both_ways (has_event is) 0 (slots_of ns is) (slots_tile ns is list sound between), hour_where (has_event is) ns bs list sound fails less, theirs);
    }

pub law_since : (ns : List Play) (is : List Interrupt) (ss : List Slot) → ss ≡ slots_of ns is → 0 < length ns → AllByRecursion IsPlay ns → AllByRecursion IsInterrupt is → total (interrupt_plays is) < 3600 → HourLaw ns is ss
law_since ns is ss built list sound between less = subst (λ (xs : List Slot). HourLaw ns is xs) (sym built) (hour_law ns is list sound between less)
