-- What is free is clear of what is taken.
use Rattle.std.proofs.Common.{◌≡◌, inl, inr, ℕ, zero, suc, ◌+◌, ◌*◌, ◌<◌, Bool, true, false, List, [], ◌∷◌, ◌++◌, get_or, if◌then◌else◌, All, AllPairs, refl, sym, ◌∙◌, arith}
use Rattle.std.proofs.lemmas.Bool.{cases_lt}
use Rattle.std.proofs.lemmas.Bool.Decides.{nat_tests}
use Rattle.std.proofs.lemmas.List.Elements.{All-nil, All-push}
use Rattle.std.proofs.lemmas.List.Quantifiers.{all_pairs_push}
use Rattle.std.proofs.lemmas.List.Folds.{list_any_at}
use Rattle.sg_disk.specs.Contents.{Segment, IsClear, IsInside, page_at}
use Rattle.sg_disk.specs.declared.places.TheConstants.{DATA, PAGE}
use Rattle.sg_pages.specs.Pages.{touches, is_taken, free_pages}

-- the next page, where it is free or taken
each_step : (P : ℕ → Type 0) (taken : List Segment) (n : ℕ) (b : Bool) → is_taken taken n ≡ b → All P (free_pages taken n) → (is_taken taken n ≡ false → P n) → All P (if b then free_pages taken n else free_pages taken n ++ n ∷ [])
each_step P taken n true is earlier here = earlier
each_step P taken n false is earlier here = All-push P (free_pages taken n) n earlier (here is)

-- what holds of each page of which nothing is taken holds of the free ones
pub each_free : (P : ℕ → Type 0) (taken : List Segment) (n : ℕ) → ((page : ℕ) → page < n → is_taken taken page ≡ false → P page) → All P (free_pages taken n)
each_free P taken zero holds = All-nil P
each_free P taken (suc n) holds = each_step P taken n (is_taken taken n) refl (each_free P taken n (λ page lt free. holds page (omega (arith, lt)) free)) (holds n (omega arith))

ascend_step : (taken : List Segment) (n : ℕ) (b : Bool) → AllPairs (λ p q. p < q) (free_pages taken n) → AllPairs (λ p q. p < q) (if b then free_pages taken n else free_pages taken n ++ n ∷ [])
ascend_step taken n true earlier = earlier
ascend_step taken n false earlier = all_pairs_push (λ (p q : ℕ). p < q) (free_pages taken n) n earlier (each_free (λ p. p < n) taken n (λ page lt free. lt))

-- they ascend
pub free_ascend : (taken : List Segment) (n : ℕ) → AllPairs (λ p q. p < q) (free_pages taken n)
free_ascend taken zero = λ i j d lt below. absurd (omega (arith, below))
free_ascend taken (suc n) = ascend_step taken n (is_taken taken n) (free_ascend taken n)

-- a segment that takes no byte of a page is clear of it
pub clear_of_page : (page : ℕ) (s : Segment) → touches page s ≡ false → IsClear (DATA + PAGE * page) PAGE s
clear_of_page page s free = elim (cases_lt s.place (DATA + PAGE * page + PAGE)) [
  | inl starts ↦ elim (cases_lt (DATA + PAGE * page) (s.place + s.size)) [
    | inl ends ↦ absurd (both starts ends)
    | inr before ↦ inl before
  ]
  | inr behind ↦ inr behind
]
  where
    both : s.place < DATA + PAGE * page + PAGE → DATA + PAGE * page < s.place + s.size → ⊥
    both starts ends = grind (arith, nat_tests)

-- a free page is clear of each of them
pub clear_of_all : (taken : List Segment) (page : ℕ) → is_taken taken page ≡ false → All (IsClear (DATA + PAGE * page) PAGE) taken
clear_of_all taken page free k d lt = clear_of_page page (get_or taken k d) (one (touches page (get_or taken k d)) refl)
  where
    one : (b : Bool) → touches page (get_or taken k d) ≡ b → touches page (get_or taken k d) ≡ false
    one false is = is
    one true is = let clash : true ≡ false = sym (list_any_at (touches page) taken k d lt is) ∙ free in absurd (cc)

-- a page of a data area lies in it
pub page_inside : (n page : ℕ) → page < n → IsInside (PAGE * n) (page_at page)
page_inside n page lt = (omega arith, omega (arith, lt))
