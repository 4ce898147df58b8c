-- What changes make of a keeper's rows.
use Rattle.std.proofs.Common.{◌≡◌, ◌∙◌, ℕ, zero, suc, ◌+◌, ◌^◌, ◌<◌, ◌≤◌, List, [], ◌∷◌, ◌++◌, length, Option, Some, None, refl, ap, sym, arith, inl, inr}
use Rattle.std.proofs.lemmas.Bool.{cases_order, eq-eqb, ne_eqb}
use Rattle.sg_base.specs.declared.play.PlayBody.{PlayBody}
use Rattle.sg_steps.specs.Calls.{with_plays_from, without_pieces}
use Rattle.sg_steps.proofs.NumberLemmas.{piece_same}
use Rattle.sg_keeper.specs.declared.keeper.Change.{Change}
use Rattle.sg_keeper.specs.Changes.{applied, changed, with_row}
use Rattle.sg_records.specs.Numbers.{piece_number, play_bytes, play_number}

pub applied_append : (xs ys : List Change) (rows : ℕ → Option (List ℕ)) → applied (xs ++ ys) rows ≡ applied ys (applied xs rows)
applied_append [] ys rows = refl
applied_append (x ∷ xs) ys rows = applied_append xs ys (changed x rows)

pub row_here : (k : ℕ) (v : Option (List ℕ)) (rows : ℕ → Option (List ℕ)) (n : ℕ) → k ≡ n → with_row k v rows n ≡ v
row_here k v rows n e = rw (eq-eqb k n e) refl

pub row_other : (k : ℕ) (v : Option (List ℕ)) (rows : ℕ → Option (List ℕ)) (n : ℕ) → (k ≡ n → ⊥) → with_row k v rows n ≡ rows n
row_other k v rows n ne = rw (ne_eqb k n ne) refl

-- all rows but the first pieces of a medium stay
pub pieces_other : (m count : ℕ) (rows : ℕ → Option (List ℕ)) (n : ℕ) → ((i : ℕ) → i < count → piece_number m i ≡ n → ⊥) → without_pieces m count rows n ≡ rows n
pieces_other m zero rows n ne = refl
pieces_other m (suc count) rows n ne =
    row_other (piece_number m count) None (without_pieces m count rows) n (ne count (omega arith))
    ∙ pieces_other m count rows n (λ i lt. ne i (omega arith))

-- and these are gone
pub pieces_here : (m count : ℕ) (rows : ℕ → Option (List ℕ)) (i : ℕ) → i < count → without_pieces m count rows (piece_number m i) ≡ None
pieces_here m zero rows i lt = absurd (omega arith)
pieces_here m (suc count) rows i lt = elim (cases_order i count) [
  | inl e ↦ row_here (piece_number m count) None (without_pieces m count rows) (piece_number m i) (ap (piece_number m) (sym e))
  | inr (inl less) ↦
      row_other (piece_number m count) None (without_pieces m count rows) (piece_number m i) (λ same. let is = piece_same m count i same in omega arith)
      ∙ pieces_here m count rows i less
  | inr (inr more) ↦ absurd (omega arith)
]

-- all rows but those of the plays stay
pub plays_other : (d e first : ℕ) (ps : List PlayBody) (rows : ℕ → Option (List ℕ)) (n : ℕ) → ((i : ℕ) → first ≤ i → i < first + length ps → play_number d e i ≡ n → ⊥) → with_plays_from d e first ps rows n ≡ rows n
plays_other d e first [] rows n ne = refl
plays_other d e first (p ∷ ps) rows n ne =
    plays_other d e (first + 1) ps (with_row (play_number d e first) (Some (play_bytes p)) rows) n (λ i low high. ne i (omega arith) (omega arith))
    ∙ row_other (play_number d e first) (Some (play_bytes p)) rows n (ne first (omega arith) (omega arith))
