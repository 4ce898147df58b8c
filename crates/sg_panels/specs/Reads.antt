-- A disk while pictures are read from it.
use Rattle.std.specs.Prelude.{◌≡◌, ℕ, Bool, true, false, List}
use Rattle.sg_disk.specs.View.{View}
use Rattle.sg_disk.specs.Runs.{LeavesOnly, Broke, Quiet}

-- calls that only read: all passed, or the last one failed
pub record OnlyReads (failed : Bool) (old new : View) : Type 0 where
  pub size : new.size ≡ old.size
  pub moments : LeavesOnly old.images old new
  pub quiet : failed ≡ false → (n : ℕ) × Quiet n old new
  pub broke : failed ≡ true → Broke old new

-- what is known of the bytes of media, by their ids
abbrev pub Known : Type 1
Known = (ℕ → List ℕ) → Type 0

-- all that was known still is
abbrev pub StaysKnown : Known → Known → Type 0
StaysKnown known later = (bytes : ℕ → List ℕ) → known bytes → later bytes
