-- A page whose rows come one after another.
use Rattle.std.proofs.Common.{ℕ, ◌+◌, ◌<◌, ◌≤◌, List, [], ◌∷◌, ◌++◌, length, arith, length-append}
use Rattle.std.specs.List.{AllByRecursion}
use Rattle.sg_base.specs.declared.key.Key.{Key}
use Rattle.sg_base.specs.Rising.{IsRising}
use Rattle.sg_keeper.specs.Pages.{number_at, HasPageForm}

all_pushed : {A : Type 0} (P : A → Type 0) (x : A) (xs : List A) → AllByRecursion P xs → P x → AllByRecursion P (xs ++ x ∷ [])
all_pushed P x [] a p = (p, tt)
all_pushed P x (y ∷ ys) a p = (a.0, all_pushed P x ys a.1 p)

all_so : {A : Type 0} (P Q : A → Type 0) → ((x : A) → P x → Q x) → (xs : List A) → AllByRecursion P xs → AllByRecursion Q xs
all_so P Q f [] a = tt
all_so P Q f (x ∷ xs) a = (f x a.0, all_so P Q f xs a.1)

rising_pushed : {A : Type 0} (rank : A → ℕ) (x : A) (xs : List A) → IsRising rank xs → AllByRecursion (λ y. rank y < rank x) xs → IsRising rank (xs ++ x ∷ [])
rising_pushed rank x [] s a = (tt, tt)
rising_pushed rank x (y ∷ ys) s a = (all_pushed (λ z. rank y < rank z) x ys s.0 a.0, rising_pushed rank x ys s.1 a.1)

-- the same page, within more
pub page_wider : (start from end limit : ℕ) (page : List (Key × List ℕ)) → from ≤ end → HasPageForm start from limit page → HasPageForm start end limit page
page_wider start from end limit page le form = record {
  few = form.few;
  rising = form.rising;
  within = all_so (λ row. (start ≤ number_at row) × (number_at row < from)) (λ row. (start ≤ number_at row) × (number_at row < end))
      (λ row p. (p.0, (let h = p.1 in omega (arith, h, le)))) page form.within;
}

-- a row that comes after all of a page
pub page_pushed : (start from limit : ℕ) (row : Key × List ℕ) (page : List (Key × List ℕ)) → start ≤ from → from ≤ number_at row → length page < limit
    → HasPageForm start from limit page → HasPageForm start (number_at row + 1) limit (page ++ row ∷ [])
page_pushed start from limit row page low later room form = record {
  few = let e = length-append page (row ∷ []) in omega (arith, e, room);
  rising = rising_pushed number_at row page form.rising
      (all_so (λ r. (start ≤ number_at r) × (number_at r < from)) (λ r. number_at r < number_at row) (λ r p. (let h = p.1 in omega (arith, h, later))) page form.within);
  within = all_pushed (λ r. (start ≤ number_at r) × (number_at r < number_at row + 1)) row page
      (page_wider start from (number_at row + 1) limit page (omega (arith, later)) form).within
      ((omega (arith, low, later)), (omega arith));
}
