-- The nearest number that passes a test, downward and upward.
use Rattle.std.specs.Prelude.{◌≡◌, ℕ, ◌<◌, ◌≤◌, Bool, true, Option, Some, None}

-- s passes, is at most `last`, and nothing between passes
pub record IsGreatest (passes : ℕ → Bool) (last s : ℕ) : Type 0 where
  pub is : passes s ≡ true
  pub within : s ≤ last
  pub greatest : (r : ℕ) → passes r ≡ true → r ≤ last → r ≤ s

-- the greatest number that passes up to `last`, and None where there is none
abbrev pub IsLatest : (ℕ → Bool) → ℕ → Option ℕ → Type 0
IsLatest passes last None = (r : ℕ) → passes r ≡ true → last < r
IsLatest passes last (Some s) = IsGreatest passes last s

-- s passes, is at least `first` and below `end`, and nothing between passes
pub record IsLeast (passes : ℕ → Bool) (first end s : ℕ) : Type 0 where
  pub is : passes s ≡ true
  pub from : first ≤ s
  pub below : s < end
  pub least : (r : ℕ) → passes r ≡ true → first ≤ r → s ≤ r

-- the least number that passes from `first` on and below `end`, and None where there is none
abbrev pub IsNext : (ℕ → Bool) → ℕ → ℕ → Option ℕ → Type 0
IsNext passes first end None = (r : ℕ) → passes r ≡ true → first ≤ r → end ≤ r
IsNext passes first end (Some s) = IsLeast passes first end s

-- the only number that passes, and None where there is none
abbrev pub IsOnly : (ℕ → Bool) → Option ℕ → Type 0
IsOnly passes None = (r : ℕ) → passes r ≡ true → ⊥
IsOnly passes (Some s) = (passes s ≡ true) × ((r : ℕ) → passes r ≡ true → r ≡ s)
