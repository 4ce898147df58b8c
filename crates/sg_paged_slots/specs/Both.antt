-- Writes inside two ranges.
use Rattle.std.specs.Prelude.{ℕ, List}
use Rattle.sg_disk.specs.View.{View, Torn}
use Rattle.sg_disk.specs.Runs.{After, LeavesOnly}

-- any bytes in two ranges, and the same elsewhere
abbrev pub TornBoth : ℕ → ℕ → ℕ → ℕ → List ℕ → List ℕ → Type 0
TornBoth a n b m old new = (mid : List ℕ) × Torn a n old mid × Torn b m mid new

-- only these n bytes at a and these m at b were written, at every moment since old
pub record WithinBoth (a n b m : ℕ) (old new : View) : Type 0 where
  pub moments : LeavesOnly (After (TornBoth a n b m) old) old new
  pub bytes : old.told → TornBoth a n b m old.bytes new.bytes
