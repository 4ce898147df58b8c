-- A page of the first rows of a kind is right.
use Rattle.std.proofs.Common.{◌≡◌, ℕ, suc, ◌<◌, ◌≤◌, min, Bool, true, false, cond, eqb, List, [], ◌∷◌, length, map, take, refl, ap, sym, subst, ◌∙◌, ◌⊎◌, ⊎_elim, inl, inr, arith, length-take}
use Rattle.std.specs.Prelude.{Option, None, Some, option_map}
use Rattle.std.specs.List.{AllByRecursion}
use Rattle.std.proofs.lemmas.Bool.{cases_order}
use Rattle.std.proofs.lemmas.List.{length-map, take_all}
use Rattle.sg_base.specs.declared.key.Key.{Key}
use Rattle.sg_base.specs.Rising.{IsRising, found}
use Rattle.sg_base.proofs.RisingLemmas.{found-take, rising-take, all_take}
use Rattle.sg_keeper.specs.declared.map.Entry.{Entry}
use Rattle.sg_keeper.specs.Pages.{number_at, IsPage, HasPageForm}
use Rattle.sg_keeper.specs.Map.{entry_number, pair_of, rows_in}

-- what is found in a page, by what is found among the rows
found_pair : (n : ℕ) (xs : List Entry) → option_map (λ (row : Key × List ℕ). row.1) (found number_at n (map pair_of xs)) ≡ rows_in xs n
found_pair n [] = refl
found_pair n (x ∷ xs) = elim (eqb (entry_number x) n) as (λ b. option_map (λ (row : Key × List ℕ). row.1) (cond b (Some (pair_of x)) (found number_at n (map pair_of xs))) ≡ option_map (λ (e : Entry). e.bytes) (cond b (Some x) (found entry_number n xs))) [
  | true ↦ refl
  | false ↦ found_pair n xs
]

all_pairs : (P : ℕ → Type 0) (xs : List Entry) → AllByRecursion (λ x. P (entry_number x)) xs → AllByRecursion (λ row. P (number_at row)) (map pair_of xs)
all_pairs P [] a = tt
all_pairs P (x ∷ xs) a = (a.0, all_pairs P xs a.1)

rising_pairs : (xs : List Entry) → IsRising entry_number xs → IsRising number_at (map pair_of xs)
rising_pairs [] s = tt
rising_pairs (x ∷ xs) s = (all_pairs (λ n. entry_number x < n) xs s.0, rising_pairs xs s.1)

pub page_form : (start end limit m : ℕ) (xs : List Entry) → IsRising entry_number xs → AllByRecursion (λ x. (start ≤ entry_number x) × (entry_number x < end)) xs → m ≤ limit → HasPageForm start end limit (map pair_of (take m xs))
page_form start end limit m xs rising within le = record {
  few = let e = length-map (take m xs) pair_of in let f = length-take m xs in omega (arith, e, f);
  rising = rising_pairs (take m xs) (rising-take entry_number xs m rising);
  within = all_pairs (λ n. (start ≤ n) × (n < end)) (take m xs) (all_take (λ x. (start ≤ entry_number x) × (entry_number x < end)) xs m within);
}

-- a front of the rows between two numbers, which is full or has all of them
pub page_exact : (start end limit m : ℕ) (xs all : List Entry) → IsRising entry_number xs → ((n : ℕ) → start ≤ n → n < end → found entry_number n xs ≡ found entry_number n all) → m ≡ min limit (length xs) → IsPage start end limit (rows_in all) (map pair_of (take m xs))
page_exact start end limit m xs all rising same is = record {
  exact = λ n low high.
      let here : found entry_number n (take m xs) ≡ found entry_number n xs → option_map (λ (row : Key × List ℕ). row.1) (found number_at n (map pair_of (take m xs))) ≡ rows_in all n = (λ e.
      found_pair n (take m xs) ∙ ap (option_map (λ (x : Entry). x.bytes)) (e ∙ same n low high)) in
      ⊎_elim
      (λ e. inl (here e))
      (λ below. elim (cases_order (length xs) limit) [
        | inl e ↦ inl (here (ap (λ l. found entry_number n l) (take_all m xs (omega arith))))
        | inr (inl less) ↦ inl (here (ap (λ l. found entry_number n l) (take_all m xs (omega arith))))
        | inr (inr more) ↦ inr (
          (let e = length-map (take m xs) pair_of in let f = length-take m xs in omega (arith, e, f)),
          all_pairs (λ k. k < n) (take m xs) below,
        )
      ])
      (found-take entry_number n xs m rising);
}
