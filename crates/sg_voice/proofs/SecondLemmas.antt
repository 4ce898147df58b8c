-- The seconds of an event, as a sum over its slots and as a count over the seconds of the hour.
use Rattle.std.proofs.Common.{◌≡◌, ◌==◌, ℕ, zero, suc, ◌+◌, ◌-◌, ◌^◌, ◌<◌, ◌≤◌, Bool, true, false, not, cond, List, [], ◌∷◌, refl, ap, sym, ◌∙◌, arith, inl, inr, subst, sum, map, filter}
use Rattle.std.proofs.lemmas.Bool.{cond-true, cond-false, lt-ltb, le-ltb, cases_Bool}
use Rattle.std.proofs.lemmas.List.Sums.{sum_by-cons}
use Rattle.sg_voice.specs.declared.play.Slot.{Slot}
use Rattle.sg_voice.specs.Hour.{Tiles, covering, seconds_where, event_seconds, shown_from, seconds_shown}

-- ---- The sum ----

pub sum_is : (e : ℕ) (ss : List Slot) → sum (map (λ s. s.seconds) (filter (λ s. s.event == e) ss)) ≡ event_seconds e ss
sum_is e [] = refl
sum_is e (s ∷ ss) =
    let C : Bool → Type 0 = λ b. sum (map (λ (t : Slot). t.seconds) (cond b (s ∷ filter (λ t. t.event == e) ss) (filter (λ t. t.event == e) ss))) ≡ cond b s.seconds 0 + event_seconds e ss in
    elim (cases_Bool (s.event == e)) [
      | inl same ↦
          let seconds = map (λ (t : Slot). t.seconds) (filter (λ t. t.event == e) ss) in
          subst C (sym same) (sum_by-cons (λ (n : ℕ). n) s.seconds seconds ∙ ap (λ (n : ℕ). s.seconds + n) (sum_is e ss))
      | inr other ↦
          let none : event_seconds e ss ≡ 0 + event_seconds e ss = omega arith in
          subst C (sym other) (sum_is e ss ∙ none)
    ]

-- what passes a test and what does not are the rest of the hour together
pub both_ways : (q : ℕ → Bool) (at : ℕ) (ss : List Slot) → Tiles at ss → at + (seconds_where q ss + seconds_where (λ e. not (q e)) ss) ≡ 3600
both_ways q at [] h = omega (arith, h)
both_ways q at (s ∷ ss) h =
    let C : Bool → Type 0 = λ b. at + ((cond b s.seconds 0 + seconds_where q ss) + (cond (not b) s.seconds 0 + seconds_where (λ e. not (q e)) ss)) ≡ 3600 in
    elim (cases_Bool (q s.event)) [
      | inl passes ↦ subst C (sym passes) (omega (arith, both_ways q (at + s.seconds) ss h.3))
      | inr fails ↦ subst C (sym fails) (omega (arith, both_ways q (at + s.seconds) ss h.3))
    ]

pub seconds_fit : (e : ℕ) (ss : List Slot) → Tiles 0 ss → sum (map (λ s. s.seconds) (filter (λ s. s.event == e) ss)) < 2 ^ 32
seconds_fit e ss h = omega (arith, sum_is e ss, both_ways (λ x. x == e) 0 ss h)

-- ---- The count ----

abbrev one_if : ℕ → Slot → ℕ
one_if e s = cond (s.event == e) 1 0

cond_none : (b : Bool) → cond {A = ℕ} b 0 0 ≡ 0
cond_none true = refl
cond_none false = refl

cond_more : (b : Bool) (a : ℕ) → cond b (suc a) 0 ≡ cond b 1 0 + cond b a 0
cond_more true a = omega arith
cond_more false a = refl

-- past the first slot the others count
shown_past : (e : ℕ) (s : Slot) (ss : List Slot) (m p : ℕ) → s.place + s.seconds ≤ p → shown_from e (s ∷ ss) m p ≡ shown_from e ss m p
shown_past e s ss zero p past = refl
shown_past e s ss (suc m) p past =
    let here : covering p (s ∷ ss) ≡ covering p ss = cond-false _ _ _ (le-ltb p (s.place + s.seconds) past) in
    let one = ap (λ (t : Slot). one_if e t) here in
    omega (arith, one, shown_past e s ss m (p + 1) (omega arith))

-- a seconds of the first slot, and then the others
shown_first : (e : ℕ) (s : Slot) (ss : List Slot) (a m p : ℕ) → p + a ≡ s.place + s.seconds → shown_from e (s ∷ ss) (a + m) p ≡ cond (s.event == e) a 0 + shown_from e ss m (p + a)
shown_first e s ss zero m p ends =
    let same : 0 + m ≡ m = omega arith in
    let here : p + 0 ≡ p = omega arith in
    rw (same, here) (omega (arith, cond_none (s.event == e), shown_past e s ss m p (omega arith)))
shown_first e s ss (suc a) m p ends =
    let more : suc a + m ≡ suc (a + m) = omega arith in
    let next : p + suc a ≡ p + 1 + a = omega arith in
    let here : covering p (s ∷ ss) ≡ s = cond-true _ _ _ (lt-ltb p (s.place + s.seconds) (omega arith)) in
    let one = ap (λ (t : Slot). one_if e t) here in
    rw (more, next) (omega (arith, one, cond_more (s.event == e) a, shown_first e s ss a m (p + 1) (omega arith)))

shown_tiles : (e at m : ℕ) (ss : List Slot) → Tiles at ss → at + m ≡ 3600 → shown_from e ss m at ≡ event_seconds e ss
shown_tiles e at m [] h all =
    let none : m ≡ 0 = omega (arith, h) in
    rw none refl
shown_tiles e at m (s ∷ ss) h all =
    let parts : m ≡ s.seconds + (m - s.seconds) = omega (arith, h.2) in
    ap (λ (x : ℕ). shown_from e (s ∷ ss) x at) parts
    ∙ (shown_first e s ss s.seconds (m - s.seconds) at (omega (arith, h.0))
    ∙ ap (λ (x : ℕ). cond (s.event == e) s.seconds 0 + x) (shown_tiles e (at + s.seconds) (m - s.seconds) ss h.3 (omega (arith, h.2))))

pub shown_all : (e : ℕ) (ss : List Slot) → Tiles 0 ss → event_seconds e ss ≡ seconds_shown e ss
unfolding seconds_shown
shown_all e ss h = sym (shown_tiles e 0 3600 ss h refl)
