-- Elements of a list that rises by a number of each: those that stand between two numbers are those that pass a test which
-- the number decides.
use Rattle.std.proofs.Common.{◌≡◌, ℕ, ◌+◌, ◌^◌, ◌<◌, ◌≤◌, Bool, true, false, cond, eqb, ltb, ◌&&◌, List, [], ◌∷◌, refl, ap, sym, ◌∙◌, arith, inl, inr}
use Rattle.std.specs.Prelude.{Some, filter, slice_get}
use Rattle.std.specs.List.{AllByRecursion, find}
use Rattle.std.proofs.lemmas.Bool.{and_parts, cases_order, eq-eqb, eqb-true, eqb-false, lt-ltb, ltb-true}
use Rattle.sg_base.specs.declared.kind.Kind.{Kind}
use Rattle.sg_base.specs.declared.kind.Kind.TheVariants as kind
use Rattle.sg_base.specs.Keys.{number}
use Rattle.sg_base.specs.Rising.{IsRising, found}
use Rattle.sg_base.specs.Rows.{kind_of}
use Rattle.sg_base.proofs.RisingLemmas.{found_later, found_outside, same_rising}
use Rattle.sg_tables.specs.Counts.{IsBounded}
use Rattle.sg_tables.specs.Entries.{Kept, number_of_kept}
use Rattle.sg_tables.specs.Refusals.{is_of}
use Rattle.sg_tables.specs.Rows.{code_of, id_in}
use Rattle.sg_tables.specs.Tables.{is_above}

-- a test of an element that its number decides, by whether it is between two
pub record Decides {A : Type 0} (rank : A → ℕ) (p : A → Bool) (start end : ℕ) (e : A) : Type 0 where
  pub yes : p e ≡ true → (start ≤ rank e) × (rank e < end)
  pub no : p e ≡ false → start ≤ rank e → rank e < end → ⊥

all_filter : {A : Type 0} (p : A → Bool) (P : A → Type 0) (rows : List A) → AllByRecursion P rows → AllByRecursion P (filter p rows)
all_filter p P [] a = tt
all_filter p P (e ∷ es) a = elim (p e) as (λ b. AllByRecursion P (cond b (e ∷ filter p es) (filter p es))) [
  | true ↦ (a.0, all_filter p P es a.1)
  | false ↦ all_filter p P es a.1
]

rising-filter : {A : Type 0} (rank : A → ℕ) (p : A → Bool) (rows : List A) → IsRising rank rows → IsRising rank (filter p rows)
rising-filter rank p [] s = tt
rising-filter rank p (e ∷ es) s = elim (p e) as (λ b. IsRising rank (cond b (e ∷ filter p es) (filter p es))) [
  | true ↦ (all_filter p (λ x. rank e < rank x) es s.0, rising-filter rank p es s.1)
  | false ↦ rising-filter rank p es s.1
]

all_within : {A : Type 0} (rank : A → ℕ) (p : A → Bool) (start end : ℕ) (rows : List A) → AllByRecursion (Decides rank p start end) rows → AllByRecursion (λ e. (start ≤ rank e) × (rank e < end)) (filter p rows)
all_within rank p start end [] a = tt
all_within rank p start end (e ∷ es) a = elim (p e) as (λ b. p e ≡ b → AllByRecursion (λ x. (start ≤ rank x) × (rank x < end)) (cond b (e ∷ filter p es) (filter p es))) [
  | true ↦ λ yes. (a.0.yes yes, all_within rank p start end es a.1)
  | false ↦ λ _. all_within rank p start end es a.1
] refl

-- between both numbers the same is found among those that pass
found-filter : {A : Type 0} (rank : A → ℕ) (p : A → Bool) (start end n : ℕ) (rows : List A) → AllByRecursion (Decides rank p start end) rows → start ≤ n → n < end → found rank n (filter p rows) ≡ found rank n rows
found-filter rank p start end n [] a low high = refl
found-filter rank p start end n (e ∷ es) a low high = elim (p e) as (λ b. p e ≡ b → found rank n (cond b (e ∷ filter p es) (filter p es)) ≡ found rank n (e ∷ es)) [
  | true ↦ λ _. ap (λ r. cond (eqb (rank e) n) (Some e) r) (found-filter rank p start end n es a.1 low high)
  | false ↦ λ no. found-filter rank p start end n es a.1 low high ∙ sym (found_later rank n e es (λ at. a.0.no no (omega arith) (omega arith)))
] refl

-- what lies between two numbers is what passes a test that they decide
pub between_filter : {A : Type 0} (rank : A → ℕ) (p : A → Bool) (start end : ℕ) (some rows : List A) → IsRising rank some → AllByRecursion (λ e. (start ≤ rank e) × (rank e < end)) some
    → ((n : ℕ) → start ≤ n → n < end → found rank n some ≡ found rank n rows) → IsRising rank rows → AllByRecursion (Decides rank p start end) rows → some ≡ filter p rows
between_filter rank p start end some rows rising within all up decides =
    let IsIn : ℕ → Type 0 = λ n. (start ≤ n) × (n < end) in
    let inside : (n : ℕ) → start ≤ n → n < end → found rank n some ≡ found rank n (filter p rows) = (λ n low high. all n low high ∙ sym (found-filter rank p start end n rows decides low high)) in
    let outside : (n : ℕ) → (IsIn n → ⊥) → found rank n some ≡ found rank n (filter p rows) = (λ n out.
    found_outside rank IsIn n some within out ∙ sym (found_outside rank IsIn n (filter p rows) (all_within rank p start end rows decides) out)) in
    same_rising rank some (filter p rows) rising (rising-filter rank p rows up) (λ n.
    elim (cases_order n start) [
      | inl e ↦ elim (cases_order n end) [
        | inl q ↦ outside n (λ w. let h = w.1 in omega arith)
        | inr (inl below) ↦ inside n (omega arith) below
        | inr (inr high) ↦ outside n (λ w. let h = w.1 in omega arith)
      ]
      | inr (inl below) ↦ outside n (λ w. let h = w.0 in omega arith)
      | inr (inr above) ↦ elim (cases_order n end) [
        | inl e ↦ outside n (λ w. let h = w.1 in omega arith)
        | inr (inl below) ↦ inside n (omega arith) below
        | inr (inr high) ↦ outside n (λ w. let h = w.1 in omega arith)
      ]
    ])

-- the first of those that pass
pub first_passes : {A : Type 0} (p : A → Bool) (rows : List A) → slice_get (filter p rows) 0 ≡ find p rows
first_passes p [] = refl
first_passes p (e ∷ es) = elim (p e) as (λ b. slice_get (cond b (e ∷ filter p es) (filter p es)) 0 ≡ cond b (Some e) (find p es)) [
  | true ↦ refl
  | false ↦ first_passes p es
]
