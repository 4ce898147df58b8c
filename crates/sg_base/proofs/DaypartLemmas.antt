-- Windows in the order of their days: they have no fault where they had none before, and there is one such order.
use Rattle.std.proofs.Common.{◌≡◌, ℕ, ◌<◌, ◌≤◌, eqb, nat_lt, false, List, [], ◌∷◌, length, get_or, ◌⊎◌, inl, inr, Option, None, refl, sym, ap, subst, zero, suc, arith}
use Rattle.std.specs.List.{list_any, AllByRecursion, All, IsDistinct, Contains}
use Rattle.std.specs.List.Sorted.{IsPermutation, IsNonDecreasingBy}
use Rattle.std.proofs.lemmas.Bool.Decides.{nat_tests}
use Rattle.std.proofs.lemmas.Map.Keys.{IsDistinct-head, IsDistinct-tail, IsDistinct-IsPermutation}
use Rattle.std.proofs.lemmas.List.Elements.{All-cons, All-nil, All-head, All-tail, All-contains, All-from_recursion}
use Rattle.std.proofs.lemmas.List.Sorted.{All-permutation, Contains-permutation, IsPermutation-sym, IsPermutation-trans, length_permutation}
use Rattle.sg_base.specs.declared.ids.DaypartId.{DaypartId}
use Rattle.sg_base.specs.declared.daypart.Window.{Window}
use Rattle.sg_base.specs.declared.daypart.DaypartFault.{DaypartFault}
use Rattle.sg_base.specs.declared.daypart.DaypartFault.TheVariants.{DoubleWeekday, ManyDates, DoubleDate}
use Rattle.sg_base.specs.declared.limits.TheConstants.{MAX_DATES}
use Rattle.sg_base.specs.Faults.{first_of, first_in, double_of}
use Rattle.sg_base.specs.Daypart.{window_fault, windows_fault, weekday_fault, double_fault, weekdays_fault, date_fault, double_date_fault, dates_fault, times_fault, daypart_fault, Ascends, IsDaypart}
use Rattle.sg_base.proofs.FaultLemmas.{first_none, if_none}
use Rattle.sg_base.proofs.DoubleLemmas.{same, same_flips, distinct_from_none, none_from_distinct}

-- a fault in no entry is a fact of all of them
pub all_from_none : {X F : Type 0} (f : X → Option F) (xs : List X) → first_in f xs ≡ None → All (λ x. f x ≡ None) xs
all_from_none f [] h = All-nil (λ x. f x ≡ None)
all_from_none f (x ∷ xs) h =
    let parts = first_none (f x) (first_in f xs) h in
    All-cons (λ x. f x ≡ None) x xs parts.0 (all_from_none f xs parts.1)

pub none_from_all : {X F : Type 0} (f : X → Option F) (xs : List X) → All (λ x. f x ≡ None) xs → first_in f xs ≡ None
none_from_all f [] h = refl
none_from_all f (x ∷ xs) h =
    rw (All-head (λ x. f x ≡ None) x xs h) (none_from_all f xs (All-tail (λ x. f x ≡ None) x xs h))

-- entries in another order have no fault either
pub none_permuted : {X F : Type 0} (f : X → Option F) (xs ys : List X) → IsPermutation xs ys → first_in f xs ≡ None → first_in f ys ≡ None
none_permuted f xs ys moved h = none_from_all f ys (All-permutation (λ x. f x ≡ None) xs ys moved (all_from_none f xs h))

all_new : {X : Type 0} (number : X → ℕ) (xs : List X) → AllByRecursion (λ y. list_any (λ z. eqb (number z) (number y)) [] ≡ false) xs
all_new number [] = tt
all_new number (x ∷ xs) = (refl, all_new number xs)

rest_rises : (e : ℕ × Window) (es : List (ℕ × Window)) → IsNonDecreasingBy (λ e. e.0) (e ∷ es) → IsNonDecreasingBy (λ e. e.0) es
rest_rises e es h = λ i j d below inside. h (suc i) (suc j) d (omega arith) (omega arith)

-- weekdays that don't fall and differ rise
pub ascends_from_distinct : (es : List (ℕ × Window)) → IsNonDecreasingBy (λ e. e.0) es → IsDistinct (same (λ e. e.0)) es → Ascends es
ascends_from_distinct [] h k = tt
ascends_from_distinct (e ∷ []) h k = tt
ascends_from_distinct (e ∷ f ∷ es) h k =
    let apart : eqb e.0 f.0 ≡ false = (IsDistinct-head (same (λ e. e.0)) e (f ∷ es) k).0 in
    let up : e.0 ≤ f.0 = h 0 1 e (omega arith) (omega arith) in
    (grind (arith, nat_tests), ascends_from_distinct (f ∷ es) (rest_rises e (f ∷ es) h) (IsDistinct-tail (same (λ e. e.0)) e (f ∷ es) k))

-- a list without a double, once it is in order, ascends and has no double either
pub distinct_ordered : (fault : ℕ → DaypartFault) (es fs : List (ℕ × Window)) → double_of (λ (e : ℕ × Window). e.0) fault [] es ≡ None → IsPermutation es fs → IsNonDecreasingBy (λ e. e.0) fs
    → (double_of (λ (e : ℕ × Window). e.0) fault [] fs ≡ None) × Ascends fs
distinct_ordered fault es fs h moved up =
    let apart = IsDistinct-IsPermutation (same (λ (e : ℕ × Window). e.0)) (same_flips (λ (e : ℕ × Window). e.0)) es fs moved (distinct_from_none (λ (e : ℕ × Window). e.0) fault [] es h) in
    (none_from_distinct (λ (e : ℕ × Window). e.0) fault [] fs (all_new (λ (e : ℕ × Window). e.0) fs) apart, ascends_from_distinct fs up apart)

-- two lists without a fault make a daypart once they are in order
pub daypart_ordered : (id : DaypartId) (w : Window) (es fs ds gs : List (ℕ × Window)) → daypart_fault w es ds ≡ None
    → IsPermutation es fs → IsNonDecreasingBy (λ e. e.0) fs → IsPermutation ds gs → IsNonDecreasingBy (λ e. e.0) gs
    → IsDaypart (record { id = id; window = w; exceptions = fs; dates = gs })
daypart_ordered id w es fs ds gs h moved up shifted rising =
    let parts = first_none (times_fault w es ds) (first_of (weekdays_fault es) (dates_fault ds)) h in
    let times = first_none (window_fault w) (first_of (windows_fault es) (windows_fault ds)) parts.0 in
    let windows = first_none (windows_fault es) (windows_fault ds) times.1 in
    let lists = first_none (weekdays_fault es) (dates_fault ds) parts.1 in
    let weekdays = first_none (first_in weekday_fault es) (double_fault es) lists.0 in
    let few = if_none (nat_lt MAX_DATES (length ds)) (ManyDates (length ds)) (first_of (first_in date_fault ds) (double_date_fault ds)) lists.1 in
    let dates = first_none (first_in date_fault ds) (double_date_fault ds) few.1 in
    let one = distinct_ordered (λ day. DoubleWeekday day) es fs weekdays.1 moved up in
    let two = distinct_ordered (λ day. DoubleDate day) ds gs dates.1 shifted rising in
    let long : nat_lt MAX_DATES (length gs) ≡ false = rw (length_permutation ds gs shifted) few.0 in
    record {
      sound = rw (times.0, none_permuted (λ (e : ℕ × Window). window_fault e.1) es fs moved windows.0, none_permuted (λ (e : ℕ × Window). window_fault e.1) ds gs shifted windows.1, none_permuted weekday_fault es fs moved weekdays.0, one.0, long, none_permuted date_fault ds gs shifted dates.0, two.0) refl;
      ordered = one.1;
      dates_ordered = two.1;
    }

-- what rises above a weekday rises above an earlier one
still_below : (e f : ℕ × Window) (gs : List (ℕ × Window)) → e.0 < f.0 → AllByRecursion (λ g. f.0 < g.0) gs → AllByRecursion (λ g. e.0 < g.0) gs
still_below e f [] below h = tt
still_below e f (g ∷ gs) below h = (omega (arith, h.0), still_below e f gs below h.1)

-- the first weekday is below the others
first_below : (e : ℕ × Window) (es : List (ℕ × Window)) → Ascends (e ∷ es) → AllByRecursion (λ f. e.0 < f.0) es
first_below e [] h = tt
first_below e (f ∷ es) h = (h.0, still_below e f es h.0 (first_below f es h.1))

rest_ascends : (e : ℕ × Window) (es : List (ℕ × Window)) → Ascends (e ∷ es) → Ascends es
rest_ascends e [] h = tt
rest_ascends e (f ∷ es) h = h.1

above : (e : ℕ × Window) (es : List (ℕ × Window)) → Ascends (e ∷ es) → (z : ℕ × Window) → Contains es z → e.0 < z.0
above e es h z within = All-contains (λ f. e.0 < f.0) es z (All-from_recursion (λ f. e.0 < f.0) es (first_below e es h)) within

-- an entry of a list is its first, or one of the rest
first_or_rest : {X : Type 0} (x : X) (xs : List X) (z : X) → Contains (x ∷ xs) z → (x ≡ z) ⊎ Contains xs z
first_or_rest x xs z within = at within.0 within.1 within.2
  where
    at : (k : ℕ) → k < length (x ∷ xs) → get_or (x ∷ xs) k z ≡ z → (x ≡ z) ⊎ Contains xs z
    at zero inside is = inl is
    at (suc k) inside is = inr (k, omega arith, is)

has_first : {X : Type 0} (x : X) (xs : List X) → Contains (x ∷ xs) x
has_first x xs = (0, omega arith, refl)

-- two ascending lists with the same first entry have the same rest
rest_within : (e : ℕ × Window) (es fs : List (ℕ × Window)) → Ascends (e ∷ es) → ((z : ℕ × Window) → Contains (e ∷ es) z → Contains (e ∷ fs) z) → (z : ℕ × Window) → Contains es z → Contains fs z
rest_within e es fs up within z there =
    elim (first_or_rest e fs z (within z (in_rest there))) [ inl is ↦ absurd (omega (arith, above e es up z there, ap (λ (x : ℕ × Window). x.0) is)) | inr rest ↦ rest ]
  where
    in_rest : Contains es z → Contains (e ∷ es) z
    in_rest h = (suc h.0, omega (arith, h.1), h.2)

-- the first entries of two ascending lists with the same entries
same_first : (e f : ℕ × Window) (es fs : List (ℕ × Window)) → Ascends (e ∷ es) → Ascends (f ∷ fs) → Contains (f ∷ fs) e → Contains (e ∷ es) f → e ≡ f
same_first e f es fs up down there back =
    elim (first_or_rest f fs e there) [
      | inl is ↦ sym is
      | inr late ↦
          elim (first_or_rest e es f back) [ inl is ↦ is | inr later ↦ absurd (omega (arith, above f fs down e late, above e es up f later)) ]
    ]

-- two ascending lists with the same entries are one
one_order : (es fs : List (ℕ × Window)) → Ascends es → Ascends fs → ((z : ℕ × Window) → Contains es z → Contains fs z) → ((z : ℕ × Window) → Contains fs z → Contains es z) → es ≡ fs
one_order [] [] up down there back = refl
one_order [] (f ∷ fs) up down there back = absurd (omega (arith, (back f (has_first f fs)).1))
one_order (e ∷ es) [] up down there back = absurd (omega (arith, (there e (has_first e es)).1))
one_order (e ∷ es) (f ∷ fs) up down there back =
    let first : e ≡ f = same_first e f es fs up down (there e (has_first e es)) (back f (has_first f fs)) in
    let P : ℕ × Window → Type 0 = λ x. Ascends (x ∷ fs) → ((z : ℕ × Window) → Contains (e ∷ es) z → Contains (x ∷ fs) z) → ((z : ℕ × Window) → Contains (x ∷ fs) z → Contains (e ∷ es) z) → e ∷ es ≡ x ∷ fs in
    subst P first (λ d t b. ap (λ l. e ∷ l) (one_order es fs (rest_ascends e es up) (rest_ascends e fs d) (rest_within e es fs up t) (rest_within e fs es d b))) down there back

-- exceptions have one ascending order
pub order_is_one : (es fs gs : List (ℕ × Window)) → IsPermutation es fs → IsPermutation es gs → Ascends fs → Ascends gs → fs ≡ gs
order_is_one es fs gs moved moves up down =
    let across : IsPermutation fs gs = IsPermutation-trans fs es gs (IsPermutation-sym es fs moved) moves in
    one_order fs gs up down (λ z h. Contains-permutation fs gs z across h) (λ z h. Contains-permutation gs fs z (IsPermutation-sym fs gs across) h)
