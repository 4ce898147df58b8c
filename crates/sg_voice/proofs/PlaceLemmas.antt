-- Which slot covers a second.
use Rattle.std.proofs.Common.{◌≡◌, ℕ, zero, suc, ◌+◌, ◌-◌, ◌<◌, ◌≤◌, true, false, nat_le, List, [], ◌∷◌, length, get_or, refl, ap, sym, ◌∙◌, arith, inl, inr, subst}
use Rattle.std.specs.List.{Contains}
use Rattle.std.specs.List.Sorted.{IsNonDecreasingBy, IsPartitionPoint}
use Rattle.std.proofs.lemmas.Bool.{cond-true, cond-false, lt-ltb, le-ltb, leb-true, leb-false, cases_lt}
use Rattle.sg_voice.specs.declared.play.Slot.{Slot}
use Rattle.sg_voice.specs.Hour.{Tiles, covering, no_slot}

-- the place of slot k, and the end of the hour past the last
abbrev pub place_of : ℕ → List Slot → ℕ
place_of k [] = 3600
place_of zero (s ∷ ss) = s.place
place_of (suc k) (s ∷ ss) = place_of k ss

pub tiles_some : (ss : List Slot) → Tiles 0 ss → 0 < length ss
tiles_some [] h = absurd (omega (arith, h))
tiles_some (s ∷ ss) h = omega arith

pub place_past : (k : ℕ) (ss : List Slot) → length ss ≤ k → place_of k ss ≡ 3600
place_past k [] past = refl
place_past zero (s ∷ ss) past = absurd (omega arith)
place_past (suc k) (s ∷ ss) past = place_past k ss (omega arith)

pub place_is : (k : ℕ) (ss : List Slot) (d : Slot) → k < length ss → place_of k ss ≡ (get_or ss k d).place
place_is k [] d inside = absurd (omega arith)
place_is zero (s ∷ ss) d inside = refl
place_is (suc k) (s ∷ ss) d inside = place_is k ss d (omega arith)

pub place_first : (at : ℕ) (ss : List Slot) → Tiles at ss → place_of 0 ss ≡ at
place_first at [] h = sym h
place_first at (s ∷ ss) h = h.0

pub place_low : (at k : ℕ) (ss : List Slot) → Tiles at ss → at ≤ place_of k ss
place_low at k [] h = omega arith
place_low at zero (s ∷ ss) h = omega (arith, h.0)
place_low at (suc k) (s ∷ ss) h = omega (arith, h.1, place_low (at + s.seconds) k ss h.3)

pub next_place : (at k : ℕ) (ss : List Slot) (d : Slot) → Tiles at ss → k < length ss → place_of (suc k) ss ≡ (get_or ss k d).place + (get_or ss k d).seconds
next_place at k [] d h inside = absurd (omega arith)
next_place at zero (s ∷ ss) d h inside = omega (arith, place_first (at + s.seconds) ss h.3, h.0)
next_place at (suc k) (s ∷ ss) d h inside = next_place (at + s.seconds) k ss d h.3 (omega arith)

-- the slot between whose place and the next a second lies
pub covers : (at k p : ℕ) (ss : List Slot) (d : Slot) → Tiles at ss → k < length ss → place_of k ss ≤ p → p < place_of (suc k) ss → get_or ss k d ≡ covering p ss
covers at k p [] d h inside begun past = absurd (omega arith)
covers at zero p (s ∷ ss) d h inside begun past =
    sym (cond-true _ _ _ (lt-ltb p (s.place + s.seconds) (omega (arith, h.0, place_first (at + s.seconds) ss h.3))))
covers at (suc k) p (s ∷ ss) d h inside begun past =
    covers (at + s.seconds) k p ss d h.3 (omega arith) begun past
    ∙ sym (cond-false _ _ _ (le-ltb p (s.place + s.seconds) (omega (arith, h.0, place_low (at + s.seconds) k ss h.3))))

pub only_one : (p : ℕ) (ss : List Slot) (s : Slot) → Tiles 0 ss → Contains ss s → s.place ≤ p → p < s.place + s.seconds → s ≡ covering p ss
only_one p ss s h (k, inside, is) begun lasts =
    sym is ∙ covers 0 k p ss s h inside
    (omega (arith, place_is k ss s inside, ap (λ (x : Slot). x.place) is))
    (omega (arith, next_place 0 k ss s h inside, ap (λ (x : Slot). x.place + x.seconds) is))

-- ---- The halving ----

place_up : (at i j : ℕ) (ss : List Slot) → Tiles at ss → i ≤ j → j < length ss → place_of i ss ≤ place_of j ss
place_up at i j [] h less inside = absurd (omega arith)
place_up at zero j (s ∷ ss) h less inside = omega (arith, h.0, place_low at j (s ∷ ss) h)
place_up at (suc i) zero (s ∷ ss) h less inside = absurd (omega arith)
place_up at (suc i) (suc j) (s ∷ ss) h less inside = place_up (at + s.seconds) i j ss h.3 (omega arith) (omega arith)

-- the slots stand by their places
pub places_rise : (ss : List Slot) → Tiles 0 ss → IsNonDecreasingBy (λ s. s.place) ss
places_rise ss h = λ i j d less inside. omega (arith, place_up 0 i j ss h less inside, place_is i ss d (omega arith), place_is j ss d inside)

-- the first i slots begin at or before second p, and no other
abbrev pub SplitsAt : ℕ → List Slot → ℕ → Type 0
SplitsAt p ss i = IsPartitionPoint (λ s. nat_le s.place p ≡ true) (λ s. nat_le s.place p ≡ false) ss i

pub split_some : (p i : ℕ) (ss : List Slot) → Tiles 0 ss → SplitsAt p ss i → 1 ≤ i
split_some p i ss h point =
    elim (cases_lt 0 i) [
      | inl some ↦ omega arith
      | inr none ↦
          let inside = tiles_some ss h in
          absurd (omega (arith, leb-false (get_or ss 0 no_slot).place p (point.1 0 no_slot none inside), place_is 0 ss no_slot inside, place_first 0 ss h))
    ]

split_past : (p i : ℕ) (ss : List Slot) → p < 3600 → SplitsAt p ss i → p < place_of i ss
split_past p i ss hour point =
    elim (cases_lt i (length ss)) [
      | inl inside ↦ omega (arith, leb-false (get_or ss i no_slot).place p (point.1 i no_slot (omega arith) inside), place_is i ss no_slot inside)
      | inr past ↦ omega (arith, place_past i ss past)
    ]

-- what is known of the last slot that begins at or before p
pub record IsFound (p : ℕ) (ss : List Slot) (s : Slot) : Type 0 where
  pub value : s ≡ covering p ss
  pub begun : s.place ≤ p
  pub lasts : p < s.place + s.seconds
  pub one : Contains ss s

pub found : (p i : ℕ) (ss : List Slot) (s : Slot) → Tiles 0 ss → p < 3600 → i ≤ length ss → SplitsAt p ss i → s ≡ get_or ss (i - 1) s → IsFound p ss s
found p i ss s h hour few point is =
    let some = split_some p i ss h point in
    let k : ℕ = i - 1 in
    let next : i ≡ suc k = omega arith in
    let inside : k < length ss = omega arith in
    let begun : s.place ≤ p = omega (arith, leb-true (get_or ss k s).place p (point.0 k s (omega arith) (omega arith)), ap (λ (x : Slot). x.place) is) in
    let past : p < place_of (suc k) ss = subst (λ (j : ℕ). p < place_of j ss) next (split_past p i ss hour point) in
    record {
      value = is ∙ covers 0 k p ss s h inside (omega (arith, place_is k ss s inside, begun, ap (λ (x : Slot). x.place) is)) past;
      begun = begun;
      lasts = omega (arith, next_place 0 k ss s h inside, past, ap (λ (x : Slot). x.place + x.seconds) is);
      one = (k, inside, sym is);
    }
