-- Runs of calls: what a crash at any moment of them may leave.
use Rattle.std.specs.Prelude.{◌≡◌, ◌⊎◌, ℕ, ◌≤◌, List}
use Rattle.sg_base.specs.Causes.{Rose}
use Rattle.sg_base.specs.Stops.{Lowers, Falls}
use Rattle.sg_disk.specs.View.{View, range, Torn}

-- a crash at any moment since old leaves a disk that has P
pub record LeavesOnly (P : List ℕ → Type 0) (old new : View) : Type 0 where
  pub later : old.moment ≤ new.moment
  pub each : (c : List ℕ) → new.since old.moment c → P c
  -- for a run that began earlier
  pub before : (t : ℕ) (c : List ℕ) → t ≤ old.moment → new.since t c → old.since t c ⊎ P c

-- what each image of old may be after a step
abbrev pub After : (List ℕ → List ℕ → Type 0) → View → List ℕ → Type 0
After step old c = (d : List ℕ) × old.images d × step d c

-- at least n calls were made, and all passed
pub record Ran (n : ℕ) (old new : View) : Type 0 where
  pub told : old.told → new.told
  pub faults : new.faults ≡ old.faults
  pub stop : Lowers n old.stop new.stop

-- a call failed
pub record Broke (old new : View) : Type 0 where
  pub told : old.told → new.told
  pub faults : Rose old.faults new.faults
  pub stop : Falls old.stop new.stop

-- at least n calls were made, all passed, and none changed the disk
pub record Quiet (n : ℕ) (old new : View) : Type 0 where
  pub ran : Ran n old new
  pub size : new.size ≡ old.size
  pub bytes : old.told → new.bytes ≡ old.bytes
  pub moments : LeavesOnly old.images old new

-- only these n bytes at a place were written, at every moment since old
pub record Within (place n : ℕ) (old new : View) : Type 0 where
  pub moments : LeavesOnly (After (Torn place n) old) old new
  pub bytes : old.told → Torn place n old.bytes new.bytes

-- every image has at a place the n bytes that a read gives there
abbrev pub HasOne : ℕ → ℕ → View → Type 0
HasOne place n v = (c : List ℕ) → v.images c → range c place n ≡ range v.bytes place n

-- At every moment since old each image has at a place the n bytes that some image of old has there, and a read gives there
-- what it gave
pub record Keeps (place n : ℕ) (old new : View) : Type 0 where
  pub moments : LeavesOnly (λ c. (d : List ℕ) × old.images d × (range c place n ≡ range d place n)) old new
  pub bytes : old.told → range new.bytes place n ≡ range old.bytes place n
