-- A store and the disk that it was opened on.
use Rattle.std.specs.Prelude.{◌≡◌, ◌↔◌, ℕ, List, [], ◌∷◌, ◌++◌, length, take, map, find, Option, None, Some, MatchOption, IfSome, All, unwrap_or, option_map, is_some, Bool, true}
use Rattle.std.specs.List.{flat_map}
use Rattle.md5.specs.Md5.{md5, Holds}
use Rattle.sg_base.specs.declared.file.Listed.{Listed}
use Rattle.sg_disk.specs.View.{View, range}
use Rattle.sg_disk.specs.Runs.{HasOne}
use Rattle.sg_disk.specs.Contents.{Segment, StoredFile, Contents, switched}
use Rattle.sg_disk.specs.Contents.{Extent}
use Rattle.sg_disk.specs.StandsFor.{IsOpen, IsCurrent, Settled}
use Rattle.sg_disk.specs.declared.places.TheConstants.{JOURNAL}
use Rattle.sg_placing.specs.Placing.{segments_of_placed, placed_of, AreApart, same_file}
use Rattle.sg_placing.specs.declared.placed.Placed.{Placed}
use Rattle.sg_slots.specs.Slots.{slot_of, opposite}
use Rattle.sg_store.specs.Halves.{half_files}
use Rattle.sg_store.specs.declared.store.Store.{Store}
use Rattle.sg_store.specs.declared.store.Half.{Half}

-- the placed files whose bytes are whole: those of the current snapshot, and those that are staged and sealed
abbrev pub whole_files : Store → List Placed
whole_files s = s.current ++ s.staged

-- what takes room in the data area
abbrev pub taken_files : Store → List Placed
taken_files s = whole_files s ++ half_files s.half

-- the bytes of these segments, one behind another
abbrev pub bytes_in : List ℕ → List Segment → List ℕ
bytes_in c segments = flat_map (λ s. range c s.place s.size) segments

-- a file's bytes stand at its place, and have the listed MD5
abbrev pub IsWhole : List ℕ → Placed → Type 0
IsWhole c p = md5 (bytes_in c (segments_of_placed p)) ≡ p.file.md5

-- the bytes that have come of a half staged file: the first of those that stand in its range
abbrev pub bytes_so_far : List ℕ → Half → List ℕ
bytes_so_far c half = take half.count (bytes_in c (segments_of_placed half.placed))

-- they are the bytes of its digest
abbrev pub IsBegun : List ℕ → Half → Type 0
IsBegun c half = Holds half.hasher (bytes_so_far c half)

abbrev pub text_length : Option (List ℕ) → ℕ
text_length None = 0
text_length (Some text) = length text

-- the snapshot stands in the slot that isn't spare
abbrev pub IsInSlot : Store → Contents → List ℕ → Type 0
IsInSlot s p c = MatchOption p.text (Unit {0})
    (λ text. IsCurrent p.room p.number text p.files (slot_of (opposite s.spare) c)
    (slot_of s.spare c))

-- what the store keeps in memory is what the disk stands for
pub record Knows (s : Store) (p : Contents) (c : List ℕ) : Type 0 where
  pub display : s.display ≡ p.display
  pub epoch : s.epoch ≡ p.epoch
  pub room : s.room ≡ p.room
  pub number : s.number ≡ p.number
  pub text : s.text ≡ text_length p.text
  pub files : s.current ≡ map placed_of p.files
  pub slot : IsInSlot s p c
  -- how the gate of the spare slot stands
  pub gate : (s.spare_open ≡ true) ↔ IsOpen (slot_of s.spare c)

-- what is staged stands on the disk
pub record HasStaged (s : Store) (c : List ℕ) : Type 0 where
  pub whole : All (IsWhole c) (whole_files s)
  pub begun : IfSome s.half (IsBegun c)
  pub apart : AreApart (taken_files s)

-- a placed file with the bytes that stand there
abbrev pub file_at : List ℕ → Placed → StoredFile
file_at c p = record { listed = p.file; stand = Extent p.place; bytes = bytes_in c (segments_of_placed p) }

-- the files that are staged and sealed, in the order in which they were sealed
abbrev pub sealed_files : Store → List ℕ → List StoredFile
sealed_files s c = map (file_at c) s.staged

-- the half staged file, with the bytes that have come so far
abbrev pub half_file : Store → List ℕ → Option StoredFile
half_file s c = option_map (λ h. record (file_at c h.placed) { bytes = bytes_so_far c h }) s.half

-- The disk is settled with these contents, and the store knows them and what is staged beside them.
-- Every image has the header and the slots that a read gives
pub record IsReady (v : View) (s : Store) (p : Contents) : Type 0 where
  pub settled : Settled v p
  pub front : HasOne 0 JOURNAL v
  pub knows : Knows s p v.bytes
  pub staged : HasStaged s v.bytes

-- the placed file that is a listed one
abbrev pub placed_as : List Placed → Listed → Option Placed
placed_as files listed = find (λ p. same_file p.file listed) files

-- where a listed file stands, if it is among these
abbrev pub chosen : List Placed → Listed → Placed
chosen files listed = unwrap_or (placed_as files listed) (record { file = listed; place = 0 })

-- the current snapshot, or what is sealed, has a file of this id, length and MD5
abbrev pub is_held : Store → Listed → Bool
is_held s listed = is_some (placed_as (whole_files s) listed)

-- the file of the contents that a listed file among these becomes
abbrev pub stored_file : List Placed → List ℕ → Listed → StoredFile
stored_file files c listed =
    let placed = chosen files listed in
    record { listed = listed; stand = Extent placed.place; bytes = bytes_in c (segments_of_placed placed) }

-- the files of a new snapshot
abbrev pub stored_files : Store → List ℕ → List Listed → List StoredFile
stored_files s c listed = map (stored_file (whole_files s) c) listed

-- the contents after a switch
abbrev pub after_switch : Store → List ℕ → Contents → List ℕ → List Listed → Contents
after_switch s c p text listed = switched p text (stored_files s c listed)

-- the snapshot, and what is known of the disk's slots, stay
pub record KeepsSnapshot (old new : Store) : Type 0 where
  pub display : new.display ≡ old.display
  pub epoch : new.epoch ≡ old.epoch
  pub room : new.room ≡ old.room
  pub number : new.number ≡ old.number
  pub text : new.text ≡ old.text
  pub current : new.current ≡ old.current
  pub spare : new.spare ≡ old.spare
  pub spare_open : new.spare_open ≡ old.spare_open

-- a file is half staged at a place, with these bytes so far
pub record IsHalf (s : Store) (placed : Placed) (bytes : List ℕ) : Type 0 where
  pub half : Half
  pub is : s.half ≡ Some half
  pub placed_is : half.placed ≡ placed
  pub count : half.count ≡ length bytes
  pub holds : Holds half.hasher bytes
