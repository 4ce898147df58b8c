-- A keeper as contracts see it, and what its calls do to it.
use Rattle.std.specs.Prelude.{◌≡◌, ℕ, List, Option}
use Rattle.sg_base.specs.Causes.{Rose}
use Rattle.sg_base.specs.Stops.{Lowers, Falls}
use Rattle.sg_keeper.specs.declared.keeper.KeeperFail.{KeeperFail}
use Rattle.sg_keeper.specs.declared.keeper.KeeperFail.TheVariants as fail

-- all that a contract can say of a keeper
pub record View : Type 1 where
  -- whether it tells its rows: a keeper in memory does, one over a file can't
  pub told : Type 0
  -- the bytes of each row by the number of its key, where that is told
  pub rows : ℕ → Option (List ℕ)
  -- how often a call has failed
  pub faults : ℕ
  -- how many calls still pass, where that is told
  pub stop : Option ℕ

-- at least n calls passed, and none failed. At a stop of 0 no call passes
pub record Ran (n : ℕ) (old new : View) : Type 0 where
  pub told : old.told → new.told
  pub faults : new.faults ≡ old.faults
  pub stop : Lowers n old.stop new.stop

-- a call failed
pub record Broke (old new : View) : Type 0 where
  pub told : old.told → new.told
  pub faults : Rose old.faults new.faults
  pub stop : Falls old.stop new.stop

-- what is known after a refusal: a keeper that is out of memory has no fault
abbrev pub Refused : KeeperFail → View → View → Type 0
Refused fail.Failed old new = Broke old new
Refused fail.Memory old new = Ran 0 old new

-- the rows are as they were, where they are told
abbrev pub Same : View → View → Type 0
Same old new = old.told → new.rows ≡ old.rows
