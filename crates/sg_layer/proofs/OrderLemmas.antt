-- Events sorted by their order are the events of each order in turn.
use Rattle.std.proofs.Common.{◌≡◌, ℕ, zero, suc, ◌+◌, ◌<◌, ◌≤◌, eqb, Bool, false, not, ◌&&◌, List, [], ◌∷◌, length, get_or, filter, refl, ap, sym, ◌∙◌, inl, inr, arith, length-append}
use Rattle.std.specs.List.{AllByRecursion}
use Rattle.std.specs.List.Sorted.{IsPermutation, IsNonDecreasingBy, IsStableByKey}
use Rattle.std.specs.Ordering.{nat_cmp, is_lt}
use Rattle.std.proofs.lemmas.Bool.{cases_order, cond-true, cond-false, eq-eqb, ne_eqb, lt-ltb, le-ltb}
use Rattle.std.proofs.lemmas.List.Elements.{All-from_recursion, recursion_from_All}
use Rattle.std.proofs.lemmas.List.Sorted.{All-permutation, length_permutation}
use Rattle.sg_base.specs.Event.{EventValue}
use Rattle.sg_voice.proofs.SoundLemmas.{all_append}
use Rattle.sg_layer.specs.Kinds.{greatest_order, of_orders, by_order}
use Rattle.sg_layer.proofs.ListLemmas.{all_passing, filter_alike}

-- orders don't fall along a list
Climbs : List EventValue → Type 0
Climbs [] = Unit {0}
Climbs (e ∷ es) = AllByRecursion (λ f. e.order ≤ f.order) es × Climbs es

all_over : (e : EventValue) (es : List EventValue) → ((j : ℕ) (d : EventValue) → j < length es → e.order ≤ (get_or es j d).order) → AllByRecursion (λ f. e.order ≤ f.order) es
all_over e [] h = tt
all_over e (f ∷ fs) h = (h 0 f (omega arith), all_over e fs (λ j d less. h (suc j) d (omega arith)))

climbs : (es : List EventValue) → IsNonDecreasingBy (λ e. e.order) es → Climbs es
unfolding Climbs
climbs [] h = tt
climbs (e ∷ es) h = (all_over e es (λ j d less. h 0 (suc j) d (omega arith) (omega arith)), climbs es (λ i j d le less. h (suc i) (suc j) d (omega arith) (omega arith)))

-- ---- the events of one order

without : (e : EventValue) (es : List EventValue) (o : ℕ) → eqb e.order o ≡ false → filter (λ f. eqb f.order o) (e ∷ es) ≡ filter (λ f. eqb f.order o) es
without e es o other = cond-false _ _ _ other

none_of : (es : List EventValue) (k o : ℕ) → o < k → AllByRecursion (λ f. k ≤ f.order) es → filter (λ f. eqb f.order o) es ≡ []
none_of [] k o less all = refl
none_of (e ∷ es) k o less all = without e es o (ne_eqb e.order o (λ same. omega (arith, same, all.0))) ∙ none_of es k o less all.1

-- an event of an order below is in no later part
later : (m o : ℕ) (e : EventValue) (es : List EventValue) → e.order < o → of_orders m o (e ∷ es) ≡ of_orders m o es
later zero o e es less = refl
later (suc m) o e es less =
    rw (without e es o (ne_eqb e.order o (λ same. omega (arith, same, less))), later m (o + 1) e es (omega (arith, less))) refl

-- the first event of a list that climbs stands first in its parts
first : (m o : ℕ) (e : EventValue) (es : List EventValue) → o ≤ e.order → e.order < o + m → AllByRecursion (λ f. e.order ≤ f.order) es → of_orders m o (e ∷ es) ≡ e ∷ of_orders m o es
first zero o e es low high over = absurd (omega (arith, low, high))
first (suc m) o e es low high over =
    elim (cases_order o e.order) [
      | inl same ↦
          let here : filter (λ f. eqb f.order o) (e ∷ es) ≡ e ∷ filter (λ f. eqb f.order o) es = cond-true _ _ _ (eq-eqb e.order o (sym same)) in
          rw (here, later m (o + 1) e es (omega (arith, same))) refl
      | inr (inl less) ↦
          let gone : filter (λ f. eqb f.order o) (e ∷ es) ≡ [] = without e es o (ne_eqb e.order o (λ same. omega (arith, same, less))) ∙ none_of es e.order o less over in
          let none : filter (λ f. eqb f.order o) es ≡ [] = none_of es e.order o less over in
          let rest : of_orders m (o + 1) (e ∷ es) ≡ e ∷ of_orders m (o + 1) es = first m (o + 1) e es (omega (arith, less)) (omega (arith, high)) over in
          rw (gone, none, rest) refl
      | inr (inr more) ↦ absurd (omega (arith, more, low))
    ]

no_events : (m o : ℕ) → of_orders m o [] ≡ []
no_events zero o = refl
no_events (suc m) o = no_events m (o + 1)

parts : (m o : ℕ) (es : List EventValue) → Climbs es → AllByRecursion (λ f. o ≤ f.order) es → AllByRecursion (λ f. f.order < o + m) es → of_orders m o es ≡ es
unfolding Climbs
parts m o [] up low high = no_events m o
parts m o (e ∷ es) up low high = first m o e es low.0 high.0 up.0 ∙ ap (λ (fs : List EventValue). e ∷ fs) (parts m o es up.1 low.1 high.1)

-- ---- a stable sort keeps the events of each order

tie : (a b : ℕ) → (not (is_lt (nat_cmp a b)) && not (is_lt (nat_cmp b a))) ≡ eqb b a
tie a b =
    elim (cases_order a b) [
      | inl same ↦ rw (same, le-ltb b b (omega arith), eq-eqb b b refl) refl
      | inr (inl less) ↦ rw (lt-ltb a b less, ne_eqb b a (λ same. omega (arith, same, less))) refl
      | inr (inr more) ↦
          let other : eqb b a ≡ false = ne_eqb b a (λ same. omega (arith, same, more)) in
          let apart : eqb a b ≡ false = ne_eqb a b (λ same. omega (arith, same, more)) in
          rw (lt-ltb b a more, le-ltb a b (omega (arith, more)), other, apart) refl
    ]

-- what is told of the events of each order holds at every number, since some event could have it
same_parts : (e : EventValue) (xs ys : List EventValue) → IsStableByKey (λ f. f.order) nat_cmp xs ys → (o : ℕ) → filter (λ f. eqb f.order o) ys ≡ filter (λ f. eqb f.order o) xs
same_parts e xs ys stable o =
    let x : EventValue = record e { order = o } in
    let p : EventValue → Bool = λ f. not (is_lt (nat_cmp o f.order)) && not (is_lt (nat_cmp f.order o)) in
    let alike : (f : EventValue) → p f ≡ eqb f.order o = λ f. tie o f.order in
    sym (filter_alike p (λ f. eqb f.order o) alike ys) ∙ (stable x ∙ filter_alike p (λ f. eqb f.order o) alike xs)

same_orders : (m o : ℕ) (xs ys : List EventValue) → ((k : ℕ) → filter (λ f. eqb f.order k) ys ≡ filter (λ f. eqb f.order k) xs) → of_orders m o ys ≡ of_orders m o xs
same_orders zero o xs ys same = refl
same_orders (suc m) o xs ys same = rw (same o, same_orders m (o + 1) xs ys same) refl

all_below : (g : ℕ) (es : List EventValue) → greatest_order es ≤ g → AllByRecursion (λ f. f.order < g + 1) es
all_below g [] h = tt
all_below g (e ∷ es) h = (omega (arith, h), all_below g es (omega (arith, h)))

all_low : (es : List EventValue) → AllByRecursion (λ f. 0 ≤ f.order) es
all_low [] = tt
all_low (e ∷ es) = (omega arith, all_low es)

nothing : (ys : List EventValue) → length ys ≡ 0 → ys ≡ []
nothing [] h = refl
nothing (y ∷ ys) h = absurd (omega (arith, h))

pub sorted_is : (xs ys : List EventValue) → IsPermutation xs ys → IsNonDecreasingBy (λ e. e.order) ys → IsStableByKey (λ e. e.order) nat_cmp xs ys → ys ≡ by_order xs
unfolding by_order
sorted_is [] ys moved up stable = nothing ys (length_permutation [] ys moved) ∙ sym (no_events 1 0)
sorted_is (e ∷ es) ys moved up stable =
    let xs : List EventValue = e ∷ es in
    let g : ℕ = greatest_order xs in
    let few : EventValue → Type 0 = λ f. f.order < g + 1 in
    let below : AllByRecursion few xs = all_below g xs (omega arith) in
    let high : AllByRecursion (λ f. f.order < 0 + (g + 1)) ys = recursion_from_All _ ys (All-permutation (λ f. f.order < 0 + (g + 1)) xs ys moved (All-from_recursion (λ f. f.order < 0 + (g + 1)) xs (reach g xs below))) in
    sym (parts (g + 1) 0 ys (climbs ys up) (all_low ys) high) ∙ same_orders (g + 1) 0 xs ys (same_parts e xs ys stable)
  where
    reach : (g : ℕ) (es : List EventValue) → AllByRecursion (λ f. f.order < g + 1) es → AllByRecursion (λ f. f.order < 0 + (g + 1)) es
    reach g [] h = tt
    reach g (f ∷ fs) h = (omega (arith, h.0), reach g fs h.1)

-- ---- what stays of the events

pub all_orders : (P : EventValue → Type 0) (m o : ℕ) (es : List EventValue) → AllByRecursion P es → AllByRecursion P (of_orders m o es)
all_orders P zero o es all = tt
all_orders P (suc m) o es all =
    all_append P (filter (λ f. eqb f.order o) es) (of_orders m (o + 1) es) (all_passing P P (λ f. eqb f.order o) es (λ e q h. h) all) (all_orders P m (o + 1) es all)

pub all_by_order : (P : EventValue → Type 0) (es : List EventValue) → AllByRecursion P es → AllByRecursion P (by_order es)
unfolding by_order
all_by_order P es all = all_orders P (greatest_order es + 1) 0 es all

one_more : (m o : ℕ) (e : EventValue) (es : List EventValue) → o ≤ e.order → e.order < o + m → length (of_orders m o (e ∷ es)) ≡ length (of_orders m o es) + 1
one_more zero o e es low high = absurd (omega (arith, low, high))
one_more (suc m) o e es low high =
    elim (cases_order o e.order) [
      | inl same ↦
          let here : filter (λ f. eqb f.order o) (e ∷ es) ≡ e ∷ filter (λ f. eqb f.order o) es = cond-true _ _ _ (eq-eqb e.order o (sym same)) in
          rw (here, later m (o + 1) e es (omega (arith, same))) (omega (arith, length-append (filter (λ f. eqb f.order o) es) (of_orders m (o + 1) es), length-append (e ∷ filter (λ f. eqb f.order o) es) (of_orders m (o + 1) es)))
      | inr (inl less) ↦
          let gone : filter (λ f. eqb f.order o) (e ∷ es) ≡ filter (λ f. eqb f.order o) es = without e es o (ne_eqb e.order o (λ same. omega (arith, same, less))) in
          let rest = one_more m (o + 1) e es (omega (arith, less)) (omega (arith, high)) in
          rw gone (omega (arith, rest, length-append (filter (λ f. eqb f.order o) es) (of_orders m (o + 1) es), length-append (filter (λ f. eqb f.order o) es) (of_orders m (o + 1) (e ∷ es))))
      | inr (inr more) ↦ absurd (omega (arith, more, low))
    ]

length_orders : (m : ℕ) (es : List EventValue) → AllByRecursion (λ f. f.order < m) es → length (of_orders m 0 es) ≡ length es
length_orders m [] all = ap (λ (es : List EventValue). length es) (no_events m 0)
length_orders m (e ∷ es) all = omega (arith, one_more m 0 e es (omega arith) (omega (arith, all.0)), length_orders m es all.1)

pub length_by_order : (es : List EventValue) → length (by_order es) ≡ length es
unfolding by_order
length_by_order es = length_orders (greatest_order es + 1) es (all_below (greatest_order es) es (omega arith))
