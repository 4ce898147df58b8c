-- Whom a run of calls blames, where its answer is no `Result` of theirs.
use Rattle.std.specs.Prelude.{◌≡◌, ℕ, ◌≤◌, Bool, true, false}
use Rattle.sg_base.specs.Causes.{Rose}

-- An object's count of faults over some of its calls, of which one failed or none: it never falls, rises where one failed,
-- and stays as it was where none did.
pub record CountsFault (failed : Bool) (before now : ℕ) : Type 0 where
  pub later : before ≤ now
  pub rose : failed ≡ true → Rose before now
  pub kept : failed ≡ false → now ≡ before
