-- Segments, one after another.
use Rattle.std.proofs.Common.{◌≡◌, ℕ, zero, suc, ◌+◌, ◌<◌, ◌≤◌, ◌&&◌, Bool, true, false, not, cond, List, [], ◌∷◌, length, get_or, take, drop, refl, ap, sym, ◌∙◌, arith, add-one}
use Rattle.std.proofs.Math.Dec.{ltb}
use Rattle.std.specs.Prelude.{None, Some, position}
use Rattle.std.specs.List.{after_first, before_first, onto_first, position_or_len}
use Rattle.std.proofs.lemmas.Bool.{ltb-false}
use Rattle.std.proofs.lemmas.List.{drop_all, take_all}
use Rattle.std.proofs.Math.Seq.{drop-cons}
use Rattle.std.proofs.lemmas.Grind.{common_steps}
use Rattle.sg_routes.specs.Paths.{fits, fits_one, is_slash, segment, segments}

-- ---- the first slash

position_by : (n place : ℕ) (b : Bool) → cond b (Some n) None ≡ Some place → n ≡ place
position_by n place true e = cc
position_by n place false e = absurd (cc)

no_position_by : (n m : ℕ) (b : Bool) → ltb n m ≡ b → cond b (Some n) None ≡ None → m ≤ n
no_position_by n m true here e = absurd (cc)
no_position_by n m false here e = ltb-false n m here

pub front_none : (path : List ℕ) → position is_slash path ≡ None → path ≡ before_first is_slash path
front_none path e = sym (take_all (position_or_len is_slash path) path (no_position_by (position_or_len is_slash path) (length path) _ refl e))

pub front_some : (path : List ℕ) (place : ℕ) → position is_slash path ≡ Some place → take place path ≡ before_first is_slash path
front_some path place e = ap (λ n. take n path) (sym (position_by (position_or_len is_slash path) place _ e))

pub behind_none : (path : List ℕ) → position is_slash path ≡ None → [] ≡ after_first is_slash path
behind_none path e =
    let past = no_position_by (position_or_len is_slash path) (length path) _ refl e in
    sym (drop_all (position_or_len is_slash path + 1) path (omega arith))

pub behind_some : (path : List ℕ) (place : ℕ) → position is_slash path ≡ Some place → drop (place + 1) path ≡ after_first is_slash path
behind_some path place e = ap (λ n. drop (n + 1) path) (sym (position_by (position_or_len is_slash path) place _ e))

-- ---- segments

none_behind : (k : ℕ) → get_or {A = List ℕ} ([] ∷ []) k [] ≡ []
none_behind zero = refl
none_behind (suc k) = refl

onto_behind : (x : ℕ) (parts : List (List ℕ)) (k : ℕ) → get_or (onto_first x parts) (suc k) [] ≡ get_or parts (suc k) []
onto_behind x [] k = refl
onto_behind x (part ∷ parts) k = refl

onto_front : (x : ℕ) (parts : List (List ℕ)) → get_or (onto_first x parts) 0 [] ≡ x ∷ get_or parts 0 []
onto_front x [] = refl
onto_front x (part ∷ parts) = refl

-- the other segments are those of what stands behind the first slash
behind_first : (path : List ℕ) (k : ℕ) → get_or (segments path) (suc k) [] ≡ get_or (segments (after_first is_slash path)) k []
behind_first [] k = sym (none_behind k)
behind_first (x ∷ path) k =
    elim (is_slash x) as (λ b. get_or (cond b ([] ∷ segments path) (onto_first x (segments path))) (suc k) []
    ≡ get_or (segments (drop (cond (not b) (1 + position_or_len is_slash path) 0 + 1) (x ∷ path))) k []) [
      | true ↦ refl
      | false ↦ onto_behind x (segments path) k ∙ (behind_first path k ∙ (
          let e : 1 + position_or_len is_slash path + 1 ≡ suc (position_or_len is_slash path + 1) = omega arith in
          ap (λ n. get_or (segments (drop n (x ∷ path))) k []) (sym e)))
    ]

-- the first segment is what stands before the first slash
pub front_segment : (path : List ℕ) → segment 0 (segments path) ≡ before_first is_slash path
front_segment [] = refl
front_segment (x ∷ path) =
    elim (is_slash x) as (λ b. get_or (cond b ([] ∷ segments path) (onto_first x (segments path))) 0 []
    ≡ take (cond (not b) (1 + position_or_len is_slash path) 0) (x ∷ path)) [
      | true ↦ refl
      | false ↦ onto_front x (segments path) ∙ (
          let e : 1 + position_or_len is_slash path ≡ suc (position_or_len is_slash path) = omega arith in
          ap (λ l. x ∷ l) (front_segment path) ∙ ap (λ n. take n (x ∷ path)) (sym e))
    ]

pub segment_step : (n m : ℕ) (path : List ℕ) → n ≡ m + 1 → segment n (segments path) ≡ segment m (segments (after_first is_slash path))
segment_step n m path e = ap (λ k. segment k (segments path)) (e ∙ add-one m) ∙ behind_first path m

-- two paths fit from a segment on, if they fit there and behind it
pub fits_step : (ps ss : List (List ℕ)) (k : ℕ) → k < length ps → k < length ss
    → fits (drop k ps) (drop k ss) ≡ (fits_one (get_or ps k []) (get_or ss k []) && fits (drop (k + 1) ps) (drop (k + 1) ss))
fits_step ps ss k there here =
    rw (drop-cons ps k [], drop-cons ss k [], add-one k) refl

-- paths of different lengths don't fit
pub fits_length : (ps ss : List (List ℕ)) → fits ps ss ≡ true → length ps ≡ length ss
fits_length [] [] e = refl
fits_length [] (s ∷ ss) e = absurd (cc)
fits_length (p ∷ ps) [] e = absurd (cc)
fits_length (p ∷ ps) (s ∷ ss) e = ap suc (fits_length ps ss (grind (arith, common_steps)))
