-- A manifest that was read.
use Rattle.std.specs.Prelude.{◌≡◌, ◌⊎◌, ℕ, List, Result, Ok, Err}
use Rattle.sg_manifest.specs.declared.fault.ManifestFault.{ManifestFault}
use Rattle.sg_manifest.specs.declared.fault.ManifestFault.TheVariants.{Memory}
use Rattle.sg_manifest.specs.Reading.{manifest_at}
use Rattle.sg_manifest.specs.Snapshot.{SnapshotRow}

-- a text, and the snapshot that it says
pub record Plan : Type 0 where
  pub text : List ℕ
  pub snapshot : SnapshotRow

abbrev pub plan : List ℕ → SnapshotRow → Plan
plan text snapshot = record { text = text; snapshot = snapshot }

-- What a text is read as: its plan, or its first fault. Memory may run out instead.
abbrev pub ReadsAs : List ℕ → Result Plan ManifestFault → Type 0
ReadsAs text (Ok p) = (p.text ≡ text) × (manifest_at text ≡ Ok p.snapshot)
ReadsAs text (Err fault) = (fault ≡ Memory) ⊎ (manifest_at text ≡ Err fault)
