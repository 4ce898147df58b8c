-- What `preview` does: it reads one manifest and writes one line for each moment.
use Rattle.std.specs.Prelude.{◌≡◌, ◌≢◌, ℕ, ◌+◌, ◌-◌, ◌≤◌, ◌==◌, if◌then◌else◌, ◌⊎◌, List, [], ◌∷◌, length, take, Contains, slice_index, Err}
use Rattle.std.specs.declared.option.Option.{Option}
use Rattle.std.specs.Io.KnownBytes.{Consumes, IsAtEnd}
use Rattle.sg_base.specs.declared.limits.TheConstants.{MANIFEST_TEXT}
use Rattle.sg_base.specs.Causes.{Rose}
use Rattle.sg_lines.specs.Reading.{Input}
use Rattle.sg_manifest.specs.Snapshot.{SnapshotRow}
use Rattle.sg_manifest.specs.declared.fault.ManifestFault.{ManifestFault}
use Rattle.sg_manifest.specs.Reading.{manifest_at}
use Rattle.sg_manifest.specs.Text.{IsManifest}
use Rattle.sg_endings.specs.Texts.{too_long, read_fault, memory_fault}
use Rattle.signage.specs.Texts.{no_manifest}
use Rattle.signage.specs.Lines.{lines_of}

-- one final line feed is dropped
abbrev pub body_of : List ℕ → List ℕ
body_of input = if slice_index input (length input - 1) == 10 then take (length input - 1) input else input

-- these bytes were taken, and nothing is left
pub record TakesAll (before after : Input) (input : List ℕ) : Type 0 where
  pub taken : Consumes before.left after.left input
  pub end : IsAtEnd after.left
  pub short : length input ≤ MANIFEST_TEXT + 1

-- the whole input was read, and it is the manifest of this snapshot
pub record Reads (before after : Input) (s : SnapshotRow) : Type 0 where
  pub quiet : after.faults ≡ before.faults
  pub input : List ℕ
  pub taken : TakesAll before after input
  pub is : IsManifest (body_of input) s

-- the line of each moment, by the snapshot whose text was read, and nothing else
pub record Shows (before after : Input) (moments output : List ℕ) : Type 0 where
  pub snapshot : SnapshotRow
  pub reads : Reads before after snapshot
  pub lines : output ≡ lines_of snapshot moments

-- the input is too long: one byte more was taken than an input may have, and no further one
pub record IsLong (before after : Input) : Type 0 where
  pub input : List ℕ
  pub taken : Consumes before.left after.left input
  pub long : length input ≡ MANIFEST_TEXT + 2

-- the whole input was read, and this is its first fault as a manifest
pub record IsRefused (before after : Input) (fault : ManifestFault) : Type 0 where
  pub input : List ℕ
  pub taken : TakesAll before after input
  pub first : manifest_at (body_of input) ≡ Err fault

-- the reason for which an input is refused, with its text
abbrev pub Refuses : Input → Input → List ℕ → Type 0
Refuses before after output =
    (IsLong before after × (output ≡ too_long)) ⊎ ((fault : ManifestFault) × IsRefused before after fault × (output ≡ no_manifest fault))

-- a preview's status and output; a take that failed isn't tried again, but told, and memory runs out before any line
pub record IsPreview (before after : Input) (moments : List ℕ) (status : ℕ) (output : List ℕ) : Type 0 where
  pub known : Contains (0 ∷ 3 ∷ 4 ∷ 9 ∷ []) status
  pub quiet : status ≢ 4 → after.faults ≡ before.faults
  pub shown : status ≡ 0 → Shows before after moments output
  pub refused : status ≡ 3 → Refuses before after output
  pub read : status ≡ 4 → Rose before.faults after.faults × (output ≡ read_fault)
  pub memory : status ≡ 9 → output ≡ memory_fault
