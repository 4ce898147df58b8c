-- A gate that a crash may meet while it is written is open or closed, and the slots stand for the old snapshot or the new.
use Rattle.std.proofs.Common.{◌⊎◌, inl, inr, ℕ, ◌+◌, ◌≤◌, List, arith}
use Rattle.sg_disk.specs.View.{Torn}
use Rattle.sg_disk.specs.Contents.{StoredFile, IsSnapshot}
use Rattle.sg_disk.specs.StandsFor.{HasFields, IsOpen, IsOther, IsCurrent}
use Rattle.sg_disk.proofs.Areas.{fields_kept}
use Rattle.sg_disk.proofs.Standing.{open_cases}

-- a closed slot may hold anything
pub closed_other : (room number : ℕ) (slot : List ℕ) → (IsOpen slot → ⊥) → IsOther room number slot
closed_other room number slot closed opened = absurd (closed opened)

-- the closing of an open slot
pub other_torn : (room number n : ℕ) (slot new : List ℕ) → n ≤ 4 → IsOpen slot → Torn 0 n slot new → IsOther room number slot → IsOther room number new
other_torn room number n slot new le was torn other opened =
    let o = other was in
    (o.0, o.1, o.2, o.3, fields_kept o.0 o.1 o.2 0 n slot new (omega (arith, le)) torn o.4, o.5)

-- the opening of a slot that holds the next snapshot
pub opened_torn : (room number : ℕ) (text next_text : List ℕ) (files next_files : List StoredFile) (current slot new : List ℕ) → IsSnapshot room number text files → HasFields (number + 1) next_text next_files slot → Torn 0 1 slot new → IsCurrent room number text files current slot → IsCurrent room number text files current new ⊎ IsCurrent room (number + 1) next_text next_files new current
opened_torn room number text next_text files next_files current slot new snapshot has torn is = elim (open_cases new) [
  | inl opened ↦ inr record {
    gate = opened;
    fields = fields_kept (number + 1) next_text next_files 0 1 slot new (omega arith) torn has;
    rest = λ _. (number, text, files, omega arith, is.fields, snapshot);
  }
  | inr closed ↦ inl record { gate = is.gate; fields = is.fields; rest = closed_other room number new closed }
]

-- the opening of the first slot of all
pub first_torn : (room : ℕ) (text : List ℕ) (files : List StoredFile) (slot new other : List ℕ) → HasFields 1 text files slot → Torn 0 1 slot new → (IsOpen other → ⊥) → (IsOpen new → ⊥) ⊎ IsCurrent room 1 text files new other
first_torn room text files slot new other has torn closed = elim (open_cases new) [
  | inl opened ↦ inr record { gate = opened; fields = fields_kept 1 text files 0 1 slot new (omega arith) torn has; rest = closed_other room 1 other closed }
  | inr shut ↦ inl shut
]
