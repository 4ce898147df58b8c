-- For private clauses: how the lines of a snapshot are written.
use Rattle.std.specs.Prelude.{◌≡◌, ℕ, List, [], ◌∷◌, Contains}
use Rattle.std.specs.declared.option.Option.{Option}
use Rattle.sg_manifest.specs.Snapshot.{SnapshotRow}
use Rattle.sg_endings.specs.Ends.{Ends}
use Rattle.sg_endings.specs.Texts.{memory_fault}
use Rattle.signage.specs.Lines.{lines_of}

-- every line, or none where memory ran out
pub record IsTimeline (s : SnapshotRow) (moments : List ℕ) (status : ℕ) (output : List ℕ) : Type 0 where
  pub known : Contains (0 ∷ 9 ∷ []) status
  pub all : status ≡ 0 → output ≡ lines_of s moments
  pub memory : status ≡ 9 → output ≡ memory_fault

abbrev pub Prints : SnapshotRow → List ℕ → ℕ → Option (List ℕ) → Option (List ℕ) → ℕ → ℕ → Type 0
Prints s moments status old new faults faults' = Ends (IsTimeline s moments) status old new faults faults'
