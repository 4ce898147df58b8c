-- The weekdays of a repeat and the bits that stand for them.
use Rattle.std.proofs.Common.{◌≡◌, ◌≢◌, ℕ, zero, suc, ◌+◌, ◌-◌, ◌/◌, ◌%◌, ◌^◌, ◌<◌, ◌≤◌, ◌==◌, ◌&&◌, nat_le, Bool, true, false, List, [], ◌∷◌, ◌++◌, filter, take, get_or, Result, Ok, Err, refl, sym, ap, subst, cond, ◌∙◌, arith, eqb-true}
use Rattle.std.proofs.lemmas.Bool.{and_parts, eqb-false}
use Rattle.std.proofs.lemmas.List.{append-nil}
use Rattle.std.proofs.lemmas.List.Elements.{filter_more}
use borrow.Author.Tests.{leb-true}
use Rattle.sg_rows.specs.declared.fault.RowFault.{RowFault}
use Rattle.sg_rows.specs.Text.{whole, list_of, weekdays}
use Rattle.sg_rows.specs.Reading.{days_at}

-- what passes below a bound
unfoldable pub passes_below : (ℕ → Bool) → ℕ → Bool
passes_below p zero = true
passes_below p (suc n) = p n && passes_below p n

here_or_below : (p : ℕ → Bool) (n k : ℕ) (b : Bool) → (n == k) ≡ b → p k ≡ true → (n < k → p n ≡ true) → n < suc k → p n ≡ true
here_or_below p n k true e here below h = ap p (eqb-true n k e) ∙ here
here_or_below p n k false e here below h = let other : n ≢ k = eqb-false n k e in below (omega arith)

pub passes_at : (p : ℕ → Bool) (bound n : ℕ) → passes_below p bound ≡ true → n < bound → p n ≡ true
unfolding passes_below
passes_at p zero n e h = absurd (omega arith)
passes_at p (suc k) n e h =
    let parts = and_parts (p k) (passes_below p k) e in
    here_or_below p n k (n == k) refl parts.0 (λ lt. passes_at p k n parts.1 lt) h

-- the bits by place
abbrev pub bits : List ℕ
bits = 1 ∷ 2 ∷ 4 ∷ 8 ∷ 16 ∷ 32 ∷ 64 ∷ []

pub bit_at : (i : ℕ) → i < 7 → get_or bits i 0 ≡ 2 ^ i
unfolding passes_below
bit_at i h = eqb-true _ _ (passes_at (λ n. get_or bits n 0 == 2 ^ n) 7 i refl h)

pub bit_low : (i : ℕ) → i < 7 → get_or bits i 0 ≤ 64
unfolding passes_below
bit_low i h = leb-true _ _ (passes_at (λ n. nat_le (get_or bits n 0) 64) 7 i refl h)

-- the reading gave this number
is_this : ℕ → Result ℕ RowFault → Bool
is_this n (Ok m) = m == n
is_this n (Err e) = false

this_is : (n : ℕ) (r : Result ℕ RowFault) → is_this n r ≡ true → r ≡ Ok n
unfolding is_this
this_is n (Ok m) e = ap Ok (eqb-true m n e)
this_is n (Err f) e = absurd (cc)

-- seven bits are read again from the weekdays that they make
pub days_again : (days : ℕ) → days < 2 ^ 7 → days_at (list_of whole (weekdays days)) ≡ Ok days
unfolding passes_below is_this
days_again days h = this_is days (days_at (list_of whole (weekdays days))) (passes_at (λ n. is_this n (days_at (list_of whole (weekdays n)))) 128 days refl h)

-- ---- for the function that writes weekdays

abbrev pub week : List ℕ
week = 1 ∷ 2 ∷ 3 ∷ 4 ∷ 5 ∷ 6 ∷ 7 ∷ []

abbrev pub is_chosen : ℕ → ℕ → Bool
is_chosen days w = days / 2 ^ (w - 1) % 2 == 1

day_at : (i : ℕ) → i < 7 → get_or week i 0 ≡ i + 1
unfolding passes_below
day_at i h = eqb-true _ _ (passes_at (λ n. get_or week n 0 == n + 1) 7 i refl h)

week_more : (days i w : ℕ) → i < 7 → w ≡ i + 1 → filter (is_chosen days) (take (i + 1) week) ≡ filter (is_chosen days) (take i week) ++ cond (is_chosen days w) (w ∷ []) []
week_more days i w h e =
    let at : get_or week i 0 ≡ w = day_at i h ∙ sym e in
    subst (λ (x : ℕ). filter (is_chosen days) (take (i + 1) week) ≡ filter (is_chosen days) (take i week) ++ cond (is_chosen days x) (x ∷ []) []) at (filter_more (is_chosen days) week i 0 h)

-- a chosen weekday is put behind the others
pub day_put : (days w k : ℕ) (ds : List ℕ) → k ≡ w → 1 ≤ w → w < 8 → is_chosen days w ≡ true
    → ds ≡ filter (is_chosen days) (take (w - 1) week)
    → ds ++ w ∷ [] ≡ filter (is_chosen days) (take k week)
day_put days w k ds same some few e is =
    let low : w - 1 < 7 = omega arith in
    let next : w ≡ w - 1 + 1 = omega arith in
    let more = week_more days (w - 1) w low next in
    let chosen : filter (is_chosen days) (take (w - 1 + 1) week) ≡ filter (is_chosen days) (take (w - 1) week) ++ (w ∷ []) = rw e at more in
    let here : filter (is_chosen days) (take w week) ≡ filter (is_chosen days) (take (w - 1) week) ++ (w ∷ []) = subst (λ (k : ℕ). filter (is_chosen days) (take k week) ≡ filter (is_chosen days) (take (w - 1) week) ++ (w ∷ [])) (sym next) chosen in
    rw (same, is) (sym here)

-- another is left out
pub day_left : (days w k : ℕ) (ds : List ℕ) → k ≡ w → 1 ≤ w → w < 8 → is_chosen days w ≡ false
    → ds ≡ filter (is_chosen days) (take (w - 1) week)
    → ds ≡ filter (is_chosen days) (take k week)
day_left days w k ds same some few e is =
    let low : w - 1 < 7 = omega arith in
    let next : w ≡ w - 1 + 1 = omega arith in
    let more = week_more days (w - 1) w low next in
    let left : filter (is_chosen days) (take (w - 1 + 1) week) ≡ filter (is_chosen days) (take (w - 1) week) ++ [] = rw e at more in
    let here : filter (is_chosen days) (take w week) ≡ filter (is_chosen days) (take (w - 1) week) = subst (λ (k : ℕ). filter (is_chosen days) (take k week) ≡ filter (is_chosen days) (take (w - 1) week)) (sym next) (left ∙ append-nil _) in
    rw same (is ∙ sym here)

-- all are looked at
pub week_done : (days w : ℕ) (ds : List ℕ) → w ≡ 8 → ds ≡ filter (is_chosen days) (take (w - 1) week) → ds ≡ weekdays days
week_done days w ds e is = is ∙ ap (λ (k : ℕ). filter (is_chosen days) (take (k - 1) week)) e
