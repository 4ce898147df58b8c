-- A stop: how many calls of a disk or a keeper still pass, where it tells that.
use Rattle.std.specs.Prelude.{◌≡◌, ◌⊎◌, ℕ, ◌+◌, ◌≤◌, Option, None, Some}

-- at least n calls passed, and a stop is told exactly where one was
pub record Lowers (n : ℕ) (before now : Option ℕ) : Type 0 where
  pub none : before ≡ None → now ≡ None
  pub some : (k : ℕ) → before ≡ Some k → (j : ℕ) × (now ≡ Some j) × (j + n ≤ k)

-- a call failed: the stop is no higher, or is told no more
pub record Falls (before now : Option ℕ) : Type 0 where
  pub none : before ≡ None → now ≡ None
  pub some : (k : ℕ) → before ≡ Some k → (now ≡ None) ⊎ ((j : ℕ) × (now ≡ Some j) × (j ≤ k))

-- a call lowers a stop above 0 by one
abbrev pub LowersByOne : Option ℕ → Option ℕ → Type 0
LowersByOne before now = (k : ℕ) → before ≡ Some (k + 1) → now ≡ Some k
