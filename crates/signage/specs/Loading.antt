-- For private clauses: what is known where an input couldn't be used.
use Rattle.std.specs.Prelude.{◌≡◌, ◌≢◌, ℕ, ◌+◌, ◌≤◌, List, length, ◌⊎◌, Err}
use Rattle.std.specs.declared.option.Option.{Option}
use Rattle.std.specs.Io.KnownBytes.{Consumes, IsAtEnd}
use Rattle.sg_base.specs.declared.limits.TheConstants.{MANIFEST_TEXT}
use Rattle.sg_base.specs.Causes.{Rose}
use Rattle.sg_lines.specs.Reading.{Input}
use Rattle.sg_manifest.specs.Reading.{manifest_at}
use Rattle.signage.specs.declared.stop.Stop.{Stop}
use Rattle.signage.specs.declared.stop.Stop.TheVariants.{Usage, TooLong, NoManifest, Read, Memory}
use Rattle.signage.specs.Preview.{IsLong, IsRefused}

-- these bytes were taken: all that there was, or one more than an input may have
pub record ReadsSome (old new : Option (List ℕ)) (bytes : List ℕ) : Type 0 where
  pub taken : Consumes old new bytes
  pub whole : (length bytes ≡ MANIFEST_TEXT + 2) ⊎ ((length bytes ≤ MANIFEST_TEXT + 1) × IsAtEnd new)

-- the cause of each stop but want of memory
abbrev pub StopsBy : Input → Input → Stop → Type 0
StopsBy before after Usage = ⊥
StopsBy before after TooLong = IsLong before after
StopsBy before after (NoManifest fault) = IsRefused before after fault
StopsBy before after Read = Rose before.faults after.faults
StopsBy before after Memory = Unit {0}

-- the stop has its cause, and no take has failed but one that is the cause
pub record Stops (before after : Input) (stop : Stop) : Type 0 where
  pub cause : StopsBy before after stop
  pub quiet : stop ≢ Read → after.faults ≡ before.faults

-- why bytes are no manifest
abbrev pub Refused : List ℕ → Stop → Type 0
Refused bytes Usage = ⊥
Refused bytes TooLong = ⊥
Refused bytes (NoManifest fault) = manifest_at bytes ≡ Err fault
Refused bytes Read = ⊥
Refused bytes Memory = Unit {0}
