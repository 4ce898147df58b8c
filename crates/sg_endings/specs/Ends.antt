-- How a command ends.
use Rattle.std.specs.Prelude.{◌≡◌, ◌≢◌, ℕ, List}
use Rattle.std.specs.declared.option.Option.{Option}
use Rattle.std.specs.Io.KnownBytes.{Appends}
use Rattle.sg_base.specs.Causes.{Rose}
use Rattle.sg_outside.specs.Streams.{AppendsPart}

-- the whole of an output with this status was written
pub record Writes (Output : ℕ → List ℕ → Type 0) (status : ℕ) (old new : Option (List ℕ)) : Type 0 where
  pub text : List ℕ
  pub is : Output status text
  pub put : Appends old new text

-- the sink failed, and has got the front of an output with another status
pub record BreaksOff (Output : ℕ → List ℕ → Type 0) (old new : Option (List ℕ)) (faults faults' : ℕ) : Type 0 where
  pub rose : Rose faults faults'
  pub status : ℕ
  pub text : List ℕ
  pub is : Output status text
  pub put : AppendsPart old new text

-- A command ends: with its status and output, and no put has failed; or with 5, and the sink failed.
pub record Ends (Output : ℕ → List ℕ → Type 0) (status : ℕ) (old new : Option (List ℕ)) (faults faults' : ℕ) : Type 0 where
  pub done : status ≢ 5 → Writes Output status old new
  pub quiet : status ≢ 5 → faults' ≡ faults
  pub write : status ≡ 5 → BreaksOff Output old new faults faults'

-- a last text with its status: written whole, or the sink failed in it
pub record Finishes (status : ℕ) (text : List ℕ) (result : ℕ) (old new : Option (List ℕ)) (faults faults' : ℕ) : Type 0 where
  pub done : result ≢ 5 → (result ≡ status) × Appends old new text
  pub quiet : result ≢ 5 → faults' ≡ faults
  pub write : result ≡ 5 → Rose faults faults' × AppendsPart old new text
