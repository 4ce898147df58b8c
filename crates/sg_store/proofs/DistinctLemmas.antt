-- No two of the files that a store has are the same.
use Rattle.std.proofs.Common.{◌≡◌, inl, inr, ℕ, zero, suc, ◌<◌, Bool, false, cond, List, [], ◌∷◌, ◌++◌, length, get_or, map, find, filter, is_some, Option, None, Some, All, AllPairs, refl, sym, ◌∙◌, ap, subst, arith, append_assoc}
use Rattle.std.proofs.lemmas.Bool.{cases_Bool, ne_eqb, true≢false}
use Rattle.std.proofs.lemmas.List.{append-nil, length-map, get_or-map}
use Rattle.std.proofs.lemmas.List.Quantifiers.{all_pairs_push}
use Rattle.sg_base.specs.declared.file.Listed.{Listed}
use Rattle.sg_placing.specs.Placing.{same_file, AreAscending, AreDistinct}
use Rattle.sg_placing.specs.declared.placed.Placed.{Placed}
use Rattle.sg_store.specs.Halves.{half_files}
use Rattle.sg_store.specs.Ready.{placed_as}
use Rattle.sg_store.specs.declared.store.Half.{Half}
use Rattle.sg_store.proofs.StageLemmas.{pairs_front, pairs_fewer}

-- whether two files differ, by their ids
other_file : (p q : Placed) → p.file.media.0 < q.file.media.0 → same_file p.file q.file ≡ false
other_file p q below = grind (arith, ne_eqb p.file.media.0 q.file.media.0 (λ same. omega (arith, below, same)))

-- files by id
pub ascending_distinct : (files : List Placed) → AreAscending files → AreDistinct files
ascending_distinct files up i j d lt below = other_file (get_or files i d) (get_or files j d) (up i j d lt below)

-- after an opening, or a switch
pub distinct_alone : (current staged : List Placed) (half : Option Half) → staged ≡ [] → half ≡ None → AreAscending current → AreDistinct (current ++ staged ++ half_files half)
distinct_alone current staged half none idle up =
    let all : current ++ staged ++ half_files half ≡ current = ap (λ (h : Option Half). current ++ staged ++ half_files h) idle ∙ append-nil (current ++ staged) ∙ ap (λ (l : List Placed). current ++ l) none ∙ append-nil current in
    subst AreDistinct (sym all) (ascending_distinct current up)

-- a file that isn't found is another one than each
none_same : (files : List Placed) (f : Listed) → is_some (placed_as files f) ≡ false → All (λ p. same_file p.file f ≡ false) files
none_same [] f none k d lt = absurd (omega (arith, lt))
none_same (p ∷ files) f none k d lt = elim (cases_Bool (same_file p.file f)) [
  | inl here ↦
      let found : placed_as (p ∷ files) f ≡ Some p = ap (λ (b : Bool). cond b (Some p) (placed_as files f)) here in
      absurd (true≢false (sym (ap is_some found) ∙ none))
  | inr other ↦ rest (λ later. none_same files f later) k other lt
]
  where
    rest : (is_some (placed_as files f) ≡ false → All (λ q. same_file q.file f ≡ false) files) → (k : ℕ) → same_file p.file f ≡ false → k < length (p ∷ files) → same_file (get_or (p ∷ files) k d).file f ≡ false
    rest more zero other lt = other
    rest more (suc k) other lt =
        let later : placed_as (p ∷ files) f ≡ placed_as files f = ap (λ (b : Bool). cond b (Some p) (placed_as files f)) other in
        more (sym (ap is_some later) ∙ none) k d (omega (arith, lt))

-- a file is begun that isn't held
pub distinct_begun : (current staged : List Placed) (half : Option Half) (p : Placed) → half ≡ None → is_some (placed_as (current ++ staged) p.file) ≡ false → AreDistinct (current ++ staged ++ half_files half) → AreDistinct (current ++ staged ++ p ∷ [])
distinct_begun current staged half p idle new distinct =
    let before : current ++ staged ++ half_files half ≡ current ++ staged = ap (λ (h : Option Half). current ++ staged ++ half_files h) idle ∙ append-nil (current ++ staged) in
    all_pairs_push (λ q r. same_file q.file r.file ≡ false) (current ++ staged) p (subst AreDistinct before distinct) (none_same (current ++ staged) p.file new)

-- the half staged file is sealed
pub distinct_sealed : (current staged new : List Placed) (half : Option Half) (p : Placed) → half_files half ≡ p ∷ [] → new ≡ staged ++ p ∷ [] → AreDistinct (current ++ staged ++ half_files half) → AreDistinct (current ++ new ++ [])
distinct_sealed current staged new half p is pushed distinct =
    let all : current ++ new ++ [] ≡ current ++ staged ++ half_files half =
    append-nil (current ++ new) ∙ ap (λ (l : List Placed). current ++ l) pushed ∙ sym (append_assoc current staged (p ∷ [])) ∙ ap (λ (l : List Placed). current ++ staged ++ l) (sym is) in
    subst AreDistinct (sym all) distinct

-- the half staged file is given up
pub distinct_dropped : (current staged : List Placed) (half : Option Half) → AreDistinct (current ++ staged ++ half_files half) → AreDistinct (current ++ staged ++ [])
distinct_dropped current staged half distinct =
    subst AreDistinct (sym (append-nil (current ++ staged))) (pairs_front (λ p q. same_file p.file q.file ≡ false) (current ++ staged) (half_files half) distinct)

-- some of the sealed files are given up
pub distinct_fewer : (current staged new : List Placed) (half : Option Half) (test : Placed → Bool) → new ≡ filter test staged → AreDistinct (current ++ staged ++ half_files half) → AreDistinct (current ++ new ++ half_files half)
distinct_fewer current staged new half test is distinct =
    let Other : Placed → Placed → Type 0 = λ p q. same_file p.file q.file ≡ false in
    let all : AllPairs Other (current ++ (staged ++ half_files half)) = subst (AllPairs Other) (append_assoc current staged (half_files half)) distinct in
    let fewer : AllPairs Other (current ++ filter test staged ++ half_files half) = subst (AllPairs Other) (sym (append_assoc current (filter test staged) (half_files half))) (pairs_fewer Other test current staged (half_files half) all) in
    subst (λ (l : List Placed). AreDistinct (current ++ l ++ half_files half)) (sym is) fewer

-- files that are the listed ones, by id
pub ascending_files : (placed : List Placed) (listed : List Listed) → map (λ p. p.file) placed ≡ listed → AllPairs (λ f g. f.media.0 < g.media.0) listed → AreAscending placed
ascending_files placed listed is up i j d lt below =
    let near : i < length placed = omega (arith, lt, below) in
    let one : (k : ℕ) → k < length placed → get_or listed k d.file ≡ (get_or placed k d).file = λ k lt. ap (λ (l : List Listed). get_or l k d.file) (sym is) ∙ get_or-map (λ (p : Placed). p.file) placed k d d.file lt in
    omega (arith, up i j d.file lt (omega (arith, below, length-map placed (λ (p : Placed). p.file), ap length is)), ap (λ (f : Listed). f.media.0) (one i near), ap (λ (f : Listed). f.media.0) (one j below))
