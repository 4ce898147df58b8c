-- A store and the disk that it was opened on.
use Rattle.std.specs.Prelude.{◌≡◌, ◌↔◌, ℕ, ◌+◌, ◌*◌, List, length, take, map, Option, None, Some, MatchOption, IfSome, All, option_map, true}
use Rattle.std.specs.List.{flat_map}
use Rattle.md5.specs.Md5.{md5, Holds}
use Rattle.sg_base.specs.declared.file.Listed.{Listed}
use Rattle.sg_disk.specs.View.{View, range}
use Rattle.sg_disk.specs.Runs.{HasOne}
use Rattle.sg_disk.specs.Contents.{Segment, StoredFile, Contents, parts_at, switched}
use Rattle.sg_disk.specs.Contents.{Pages}
use Rattle.sg_disk.specs.StandsFor.{IsOpen}
use Rattle.sg_disk.specs.declared.places.TheConstants.{DATA, HEADER_LEN, JOURNAL}
use Rattle.sg_pages.specs.Shelves.{FileAt, stands}
use Rattle.sg_pages.specs.declared.maps.TheConstants.{MAP_LEN}
use Rattle.sg_slots.specs.Slots.{slot_of}
use Rattle.sg_contents.specs.StandsFor.{IsNew, Settled}
use Rattle.sg_soundness.specs.Shelved.{file_at_of}
use Rattle.sg_switching.specs.Switching.{IsBesideSlot}
use Rattle.sg_staging.specs.Staged.{HalfStaged, half_at, chosen}
use Rattle.sg_store_state.specs.State.{State, whole_stands}

-- the bytes of these segments, one behind another
abbrev pub bytes_in : List ℕ → List Segment → List ℕ
bytes_in c segments = flat_map (λ s. range c s.place s.size) segments

-- the bytes that stand where a file does
abbrev pub bytes_here : List ℕ → FileAt → List ℕ
bytes_here c f = bytes_in c (parts_at f.file.length f.stand)

-- they have the listed MD5
abbrev pub IsWhole : List ℕ → FileAt → Type 0
IsWhole c f = md5 (bytes_here c f) ≡ f.file.md5

-- the bytes that have come of a half staged file: the first of those that stand in its pages
abbrev pub bytes_so_far : List ℕ → HalfStaged → List ℕ
bytes_so_far c half = take half.count (bytes_here c (half_at half))

-- they are the bytes of its digest
abbrev pub IsBegun : List ℕ → HalfStaged → Type 0
IsBegun c half = Holds half.hasher (bytes_so_far c half)

abbrev pub text_length : Option (List ℕ) → ℕ
text_length None = 0
text_length (Some text) = length text

-- what the store keeps in memory is what the disk stands for
pub record Knows (s : State) (p : Contents) (c : List ℕ) : Type 0 where
  pub display : s.display ≡ p.display
  pub epoch : s.epoch ≡ p.epoch
  pub room : s.room ≡ p.room
  pub number : s.number ≡ p.number
  pub text : s.text ≡ text_length p.text
  pub files : stands s.current ≡ map file_at_of p.files
  pub slot : IsBesideSlot s.spare p c
  -- how the gate of the spare slot stands
  pub gate : (s.spare_open ≡ true) ↔ IsOpen (slot_of s.spare c)

-- what is staged stands on the disk
pub record HasStaged (s : State) (c : List ℕ) : Type 0 where
  pub whole : All (IsWhole c) (whole_stands s)
  pub begun : IfSome s.staged.half (IsBegun c)

-- a file with the bytes that stand there
abbrev pub file_here : List ℕ → FileAt → StoredFile
file_here c f = record { listed = f.file; stand = f.stand; bytes = bytes_here c f }

-- the files that are staged and sealed, in the order in which they were sealed
abbrev pub sealed_files : State → List ℕ → List StoredFile
sealed_files s c = map (file_here c) (stands s.staged.sealed)

-- the half staged file, with the bytes that have come so far
abbrev pub half_file : State → List ℕ → Option StoredFile
half_file s c = option_map (λ h. record { listed = h.file; stand = Pages h.pages; bytes = bytes_so_far c h }) s.staged.half

-- The disk is settled with these contents and of the new format, and the store knows them and what is staged beside them.
-- Every image has the header, the slots and the maps that a read gives
pub record IsReady (v : View) (s : State) (p : Contents) : Type 0 where
  pub settled : Settled v p
  pub front : HasOne 0 JOURNAL v
  pub maps : HasOne (DATA + p.room) (2 * MAP_LEN) v
  pub format : IsNew (range v.bytes 0 HEADER_LEN)
  pub knows : Knows s p v.bytes
  pub staged : HasStaged s v.bytes

-- the file of the contents that a listed file among these becomes
abbrev pub stored_file : List FileAt → List ℕ → Listed → StoredFile
stored_file files c listed = record (file_here c (chosen files listed)) { listed = listed }

-- the files of a new snapshot
abbrev pub stored_files : State → List ℕ → List Listed → List StoredFile
stored_files s c listed = map (stored_file (whole_stands s) c) listed

-- the contents after a switch
abbrev pub after_switch : State → List ℕ → Contents → List ℕ → List Listed → Contents
after_switch s c p text listed = switched p text (stored_files s c listed)

-- the snapshot, and what is known of the disk's slots, stay
pub record KeepsSnapshot (old new : State) : Type 0 where
  pub display : new.display ≡ old.display
  pub epoch : new.epoch ≡ old.epoch
  pub room : new.room ≡ old.room
  pub number : new.number ≡ old.number
  pub text : new.text ≡ old.text
  pub current : new.current ≡ old.current
  pub spare : new.spare ≡ old.spare
  pub spare_open : new.spare_open ≡ old.spare_open
