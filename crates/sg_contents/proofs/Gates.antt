-- The slots and their maps, as gates are closed and opened.
use Rattle.std.proofs.Common.{◌≡◌, ℕ, ◌+◌, ◌≤◌, List, [], Option, None, Some, MatchOption, arith}
use Rattle.sg_disk.specs.View.{Torn}
use Rattle.sg_disk.specs.Contents.{StoredFile}
use Rattle.sg_disk.specs.StandsFor.{IsOpen}
use Rattle.sg_disk.proofs.Areas.{fields_kept}
use Rattle.sg_contents.specs.Lawful.{IsSnapshot}
use Rattle.sg_contents.specs.StandsFor.{HasSlot, IsOther, IsCurrent}

-- a snapshot in the one slot beside the other, or both closed
abbrev pub Stand : ℕ → ℕ → Option (List ℕ) → List StoredFile → List ℕ → List ℕ → List ℕ → List ℕ → Type 0
Stand room number text files a a_map b b_map = MatchOption text ((IsOpen a → ⊥) × (IsOpen b → ⊥)) (λ t. IsCurrent room number t files a a_map b b_map)

-- the gate and the three bytes behind it aren't of the fields
pub slot_kept : (number : ℕ) (text : List ℕ) (files : List StoredFile) (n : ℕ) (slot new map : List ℕ) → n ≤ 4 → Torn 0 n slot new → HasSlot number text files slot map → HasSlot number text files new map
slot_kept number text files n slot new map le torn has = record {
  fields = fields_kept number text files 0 n slot new (omega (arith, le)) torn has.fields;
  pages = has.pages;
}

-- a closed slot may hold anything
pub closed_other : (room number : ℕ) (slot map : List ℕ) → (IsOpen slot → ⊥) → IsOther room number slot map
closed_other room number slot map closed opened = absurd (closed opened)

-- the closing of an open slot
pub other_torn : (room number n : ℕ) (slot new map : List ℕ) → n ≤ 4 → IsOpen slot → Torn 0 n slot new → IsOther room number slot map → IsOther room number new map
other_torn room number n slot new map le was torn other opened =
    let o = other was in
    (o.0, o.1, o.2, o.3, slot_kept o.0 o.1 o.2 n slot new map le torn o.4, o.5)

-- what stands, as the gate of the other slot is torn, or closed
pub closing_stands : (room number : ℕ) (text : Option (List ℕ)) (files : List StoredFile) (a a_map b b_map new : List ℕ) → IsOpen b → Torn 0 1 b new → Stand room number text files a a_map b b_map → Stand room number text files a a_map new b_map
closing_stands room number None files a a_map b b_map new opened torn stand = absurd (stand.1 opened)
closing_stands room number (Some t) files a a_map b b_map new opened torn stand = record { gate = stand.gate; slot = stand.slot; rest = other_torn room number 1 b new b_map (omega arith) opened torn stand.rest }

-- a closed slot and its map may be written
pub shut_stands : (room number : ℕ) (text : Option (List ℕ)) (files : List StoredFile) (a a_map b b_map new new_map : List ℕ) → (IsOpen new → ⊥) → Stand room number text files a a_map b b_map → Stand room number text files a a_map new new_map
shut_stands room number None files a a_map b b_map new new_map shut stand = (stand.0, shut)
shut_stands room number (Some t) files a a_map b b_map new new_map shut stand = record { gate = stand.gate; slot = stand.slot; rest = closed_other room number new new_map shut }

-- the next snapshot, whose gate is opened
pub next_stands : (room number : ℕ) (text : Option (List ℕ)) (files : List StoredFile) (next : List ℕ) (next_files : List StoredFile) (a a_map b b_map new : List ℕ) → MatchOption text ((number ≡ 0) × (files ≡ [])) (λ t. IsSnapshot room number t files) → HasSlot (number + 1) next next_files b b_map → Torn 0 1 b new → IsOpen new → Stand room number text files a a_map b b_map → IsCurrent room (number + 1) next next_files new b_map a a_map
next_stands room number None files next next_files a a_map b b_map new none has torn opened stand = record { gate = opened; slot = slot_kept (number + 1) next next_files 1 b new b_map (omega arith) torn has; rest = closed_other room (number + 1) a a_map stand.0 }
next_stands room number (Some t) files next next_files a a_map b b_map new snapshot has torn opened stand = record { gate = opened; slot = slot_kept (number + 1) next next_files 1 b new b_map (omega arith) torn has; rest = λ _. (number, t, files, omega arith, stand.slot, snapshot) }
