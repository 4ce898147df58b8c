-- The nearest number that passes, downward and upward: through turns, by steps, and by one that passes alone.
use Rattle.std.proofs.Common.{◌≡◌, ◌≢◌, ℕ, ◌+◌, ◌-◌, ◌*◌, ◌/◌, ◌%◌, ◌<◌, ◌≤◌, Bool, true, Option, Some, None, refl, inl, inr, arith}
use Rattle.std.proofs.lemmas.Bool.{cases_lt}
use Rattle.std.proofs.lemmas.Nat.{le-div, div-add-mod'}
use Rattle.std.proofs.Math.Nat.{mul-le-mul_right, mul-mod_left}
use Rattle.sg_calendar.specs.Nearest.{IsGreatest, IsLatest, IsLeast, IsNext}

-- each number that passes falls in one turn, and turns never fall
pub record IsTurns (passes : ℕ → Bool) (turn : ℕ → ℕ) (inside : ℕ → ℕ → Bool) : Type 0 where
  pub has : (k r : ℕ) → passes r ≡ true → turn r ≡ k → inside k r ≡ true
  pub is : (k r : ℕ) → inside k r ≡ true → passes r ≡ true
  pub at : (k r : ℕ) → inside k r ≡ true → turn r ≡ k
  pub rises : (a b : ℕ) → a ≤ b → turn a ≤ turn b

-- what passes up to `last` lies before the turn k
pub record IsBefore (passes : ℕ → Bool) (turn : ℕ → ℕ) (last k : ℕ) : Type 0 where
  pub before : (r : ℕ) → passes r ≡ true → r ≤ last → turn r < k

-- what passes from `first` on and below `end` lies in the turn k or after it
pub record IsAfter (passes : ℕ → Bool) (turn : ℕ → ℕ) (first end k : ℕ) : Type 0 where
  pub after : (r : ℕ) → passes r ≡ true → first ≤ r → r < end → k ≤ turn r

module _ (P : ℕ → Bool) (turn : ℕ → ℕ) (inside : ℕ → ℕ → Bool) (turns : IsTurns P turn inside) where
  -- the walk down begins after the last turn, goes past a turn with nothing, and ends with what it finds
  pub down_begins : (last n : ℕ) → n ≡ turn last → IsBefore P turn last (n + 1)
  down_begins last n e = record { before = λ r p le. omega (arith, turns.rises r last le) }

  pub down_goes : (last k : ℕ) → 0 < k → IsBefore P turn last k → IsLatest (inside (k - 1)) last None → IsBefore P turn last (k - 1)
  down_goes last k some walk none = record {
    before = λ r p le.
        let apart : turn r ≢ k - 1 = λ e. absurd (omega (arith, none r (turns.has (k - 1) r p e))) in
        omega (arith, walk.before r p le);
  }

  pub down_finds : (last k d : ℕ) → 0 < k → IsBefore P turn last k → IsLatest (inside (k - 1)) last (Some d) → IsGreatest P last d
  down_finds last k d some walk found = record {
    is = turns.is (k - 1) d found.is;
    within = found.within;
    greatest = λ r p le.
        elim (cases_lt d r) [
          | inl lt ↦
              let here : turn r ≡ k - 1 = omega (arith, turns.at (k - 1) d found.is, turns.rises d r (omega arith), walk.before r p le) in
              found.greatest r (turns.has (k - 1) r p here) le
          | inr ge ↦ ge
        ];
  }

  pub down_ends : (last k : ℕ) → k ≤ 0 → IsBefore P turn last k → IsLatest P last None
  down_ends last k end walk = λ r p.
      elim (cases_lt last r) [ inl lt ↦ lt | inr ge ↦ absurd (omega (arith, walk.before r p ge)) ]

  -- the walk up begins in the first turn, goes past a turn with nothing, and ends with what it finds
  pub up_begins : (first end n : ℕ) → n ≡ turn first → IsAfter P turn first end n
  up_begins first end n e = record { after = λ r p from below. omega (arith, turns.rises first r from) }

  pub up_goes : (first end k : ℕ) → IsAfter P turn first end k → IsNext (inside k) first end None → IsAfter P turn first end (k + 1)
  up_goes first end k walk none = record {
    after = λ r p from below.
        let apart : turn r ≢ k = λ e. absurd (omega (arith, none r (turns.has k r p e) from)) in
        omega (arith, walk.after r p from below);
  }

  pub up_finds : (first end k d : ℕ) → IsAfter P turn first end k → IsNext (inside k) first end (Some d) → IsLeast P first end d
  up_finds first end k d walk found = record {
    is = turns.is k d found.is;
    from = found.from;
    below = found.below;
    least = λ r p from.
        elim (cases_lt r d) [
          | inl lt ↦
              let early : r < end = omega (arith, found.below) in
              let here : turn r ≡ k = omega (arith, turns.at k d found.is, turns.rises r d (omega arith), walk.after r p from early) in
              found.least r (turns.has k r p here) from
          | inr ge ↦ ge
        ];
  }

  pub up_ends : (first end k : ℕ) → turn end < k → IsAfter P turn first end k → IsNext P first end None
  up_ends first end k late walk = λ r p from.
      elim (cases_lt r end) [
        | inl lt ↦ absurd (omega (arith, walk.after r p from lt, turns.rises r end (omega arith)))
        | inr ge ↦ ge
      ]

-- a multiple of n up to x is at most the greatest one
multiple_le : (n a x : ℕ) → 0 < n → a % n ≡ 0 → a ≤ x → a ≤ x / n * n
multiple_le n a x some h le =
    let whole = div-add-mod' a n in
    let fits : a / n * n ≤ x = omega (arith, whole) in
    omega (arith, whole, mul-le-mul_right n (le-div (a / n) x n some fits))

-- each n-th number from the base on
module _ (P : ℕ → Bool) (n base : ℕ) (some : 0 < n) (down : (r : ℕ) → P r ≡ true → (base ≤ r) × ((r - base) % n ≡ 0)) (up : (r : ℕ) → base ≤ r → (r - base) % n ≡ 0 → P r ≡ true) where
  step_is : (m : ℕ) → P (base + m * n) ≡ true
  step_is m =
      let moved : base + m * n - base ≡ m * n = omega arith in
      up _ (omega arith) (rw (moved, mul-mod_left) refl)

  pub step_latest : (last : ℕ) → base ≤ last → IsGreatest P last (base + (last - base) / n * n)
  step_latest last order =
      let whole = div-add-mod' (last - base) n in
      record {
        is = step_is ((last - base) / n);
        within = omega (arith, whole);
        greatest = λ r q le.
            let parts = down r q in
            omega (arith, parts.0, multiple_le n (r - base) (last - base) some parts.1 (omega arith));
      }
