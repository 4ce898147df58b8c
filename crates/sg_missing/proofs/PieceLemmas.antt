-- The missing pieces of one file.
use Rattle.std.proofs.Common.{◌≡◌, ◌↔◌, inl, inr, ℕ, zero, suc, ◌+◌, ◌-◌, ◌*◌, ◌/◌, ◌%◌, ◌≤◌, ◌<◌, [], ◌∷◌, length, drop, refl, sym, ◌∙◌, ap, subst, arith}
use Rattle.std.specs.List.{Contains}
use Rattle.std.proofs.lemmas.List.Elements.{Contains-append_right}
use Rattle.sg_base.specs.declared.limits.TheConstants.{PIECE_LEN}
use Rattle.sg_missing.specs.Pieces.{IsMissingAt, begins_from, missing_from, piece_end}

length-begins_from : (piece more : ℕ) → length (begins_from piece more) ≡ more
length-begins_from piece zero = refl
length-begins_from piece (suc more) = ap suc (length-begins_from (piece + 1) more)

pub length-missing_from : (here n : ℕ) → here < n → length (missing_from here n) ≡ (n + (PIECE_LEN - 1)) / PIECE_LEN - here / PIECE_LEN
length-missing_from here n lt =
    ap suc (length-begins_from (here / PIECE_LEN + 1) ((n + (PIECE_LEN - 1)) / PIECE_LEN - (here / PIECE_LEN + 1))) ∙ one_less here n lt
  where
    one_less : (here n : ℕ) → here < n
        → suc ((n + (PIECE_LEN - 1)) / PIECE_LEN - (here / PIECE_LEN + 1)) ≡ (n + (PIECE_LEN - 1)) / PIECE_LEN - here / PIECE_LEN
    one_less here n lt = omega (arith, lt)

-- a file whose last piece is the one that is missing
pub missing_last : (here n : ℕ) → here < n → n ≤ PIECE_LEN * (here / PIECE_LEN + 1) → missing_from here n ≡ here ∷ []
missing_last here n lt le = ap (λ (more : ℕ). here ∷ begins_from (here / PIECE_LEN + 1) more) (none here n le)
  where
    none : (here n : ℕ) → n ≤ PIECE_LEN * (here / PIECE_LEN + 1) → (n + (PIECE_LEN - 1)) / PIECE_LEN - (here / PIECE_LEN + 1) ≡ 0
    none here n le = omega (arith, le)

-- a file with later pieces that are missing
pub missing_more : (here n : ℕ) → PIECE_LEN * (here / PIECE_LEN + 1) < n
    → missing_from here n ≡ here ∷ missing_from (PIECE_LEN * (here / PIECE_LEN + 1)) n
missing_more here n lt =
    ap (λ (more : ℕ). here ∷ begins_from (here / PIECE_LEN + 1) more) (count (here / PIECE_LEN) n lt)
    ∙ ap (λ (piece : ℕ). here ∷ PIECE_LEN * (here / PIECE_LEN + 1) ∷ begins_from (piece + 1) ((n + (PIECE_LEN - 1)) / PIECE_LEN - (piece + 1)))
    (sym (quotient (here / PIECE_LEN + 1)))
  where
    quotient : (piece : ℕ) → (PIECE_LEN * piece) / PIECE_LEN ≡ piece
    quotient piece = omega arith

    count : (piece n : ℕ) → PIECE_LEN * (piece + 1) < n
        → (n + (PIECE_LEN - 1)) / PIECE_LEN - (piece + 1) ≡ suc ((n + (PIECE_LEN - 1)) / PIECE_LEN - (piece + 1 + 1))
    count piece n lt = omega (arith, lt)

-- bytes that end ahead of their piece
pub missing_rest : (here count n : ℕ) → here + count < piece_end here n → missing_from (here + count) n ≡ (here + count) ∷ drop 1 (missing_from here n)
missing_rest here count n lt =
    ap (λ (piece : ℕ). (here + count) ∷ begins_from (piece + 1) ((n + (PIECE_LEN - 1)) / PIECE_LEN - (piece + 1))) (same here count n lt)
  where
    same : (here count n : ℕ) → here + count < piece_end here n → (here + count) / PIECE_LEN ≡ here / PIECE_LEN
    same here count n lt = omega (arith, lt)

-- ---- which places these are

-- the pieces from one to another begin at their multiples
among : (piece more j : ℕ) → j < more → Contains (begins_from piece more) (PIECE_LEN * (piece + j))
among piece (suc more) zero lt = (0, omega arith, ap (λ (k : ℕ). PIECE_LEN * k) (none piece))
  where
    none : (n : ℕ) → n ≡ n + 0
    none n = omega arith
among piece (suc more) (suc j) lt =
    let rest = among (piece + 1) more j (omega (arith, lt)) in
    Contains-append_right (PIECE_LEN * piece ∷ []) (begins_from (piece + 1) more) (PIECE_LEN * (piece + suc j))
    (subst (λ (k : ℕ). Contains (begins_from (piece + 1) more) (PIECE_LEN * k)) (over piece j) rest)
  where
    over : (a b : ℕ) → a + 1 + b ≡ a + suc b
    over a b = omega arith
among piece zero j lt = absurd (omega (arith, lt))

-- and nothing else stands there
only_among : (piece more at : ℕ) → Contains (begins_from piece more) at → (j : ℕ) × (j < more) × (at ≡ PIECE_LEN * (piece + j))
only_among piece zero at (k, lt, is) = absurd (omega (arith, lt))
only_among piece (suc more) at (zero, lt, is) = (0, omega arith, sym is ∙ ap (λ (k : ℕ). PIECE_LEN * k) (none piece))
  where
    none : (n : ℕ) → n ≡ n + 0
    none n = omega arith
only_among piece (suc more) at (suc k, lt, is) =
    let rest = only_among (piece + 1) more at (k, omega (arith, lt), is) in
    (suc rest.0, omega (arith, rest.1), rest.2 ∙ ap (λ (k : ℕ). PIECE_LEN * k) (over piece rest.0))
  where
    over : (a b : ℕ) → a + 1 + b ≡ a + suc b
    over a b = omega arith

later : (here n at j : ℕ) → j < (n + (PIECE_LEN - 1)) / PIECE_LEN - (here / PIECE_LEN + 1) → at ≡ PIECE_LEN * (here / PIECE_LEN + 1 + j)
    → (here < at) × (at < n) × (at % PIECE_LEN ≡ 0)
later here n at j lt is = (omega (arith, lt, is), omega (arith, lt, is), omega (arith, is))

multiple : (here at : ℕ) → here < at → at % PIECE_LEN ≡ 0 → PIECE_LEN * (here / PIECE_LEN + 1 + (at / PIECE_LEN - (here / PIECE_LEN + 1))) ≡ at
multiple here at after whole = omega (arith, after, whole)

fits : (here n at : ℕ) → here < at → at < n → at % PIECE_LEN ≡ 0
    → at / PIECE_LEN - (here / PIECE_LEN + 1) < (n + (PIECE_LEN - 1)) / PIECE_LEN - (here / PIECE_LEN + 1)
fits here n at after before whole = omega (arith, after, before, whole)

there : (here n at : ℕ) → Contains (missing_from here n) at → IsMissingAt here n at
there here n at (zero, within, is) = inl (sym is)
there here n at (suc k, within, is) =
    let one = only_among (here / PIECE_LEN + 1) ((n + (PIECE_LEN - 1)) / PIECE_LEN - (here / PIECE_LEN + 1)) at (k, omega (arith, within), is) in
    inr (later here n at one.0 one.1 one.2)

back : (here n at : ℕ) → IsMissingAt here n at → Contains (missing_from here n) at
back here n at (inl is) = (0, omega arith, sym is)
back here n at (inr (after, before, whole)) =
    Contains-append_right (here ∷ []) (begins_from (here / PIECE_LEN + 1) ((n + (PIECE_LEN - 1)) / PIECE_LEN - (here / PIECE_LEN + 1))) at
    (subst (λ (place : ℕ). Contains (begins_from (here / PIECE_LEN + 1) ((n + (PIECE_LEN - 1)) / PIECE_LEN - (here / PIECE_LEN + 1))) place) (multiple here at after whole)
    (among (here / PIECE_LEN + 1) ((n + (PIECE_LEN - 1)) / PIECE_LEN - (here / PIECE_LEN + 1)) (at / PIECE_LEN - (here / PIECE_LEN + 1))
    (fits here n at after before whole)))

pub places : (here n at : ℕ) → here < n → Contains (missing_from here n) at ↔ IsMissingAt here n at
places here n at lt = (there here n at, back here n at)
