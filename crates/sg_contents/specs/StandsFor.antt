-- What the bytes of a disk stand for, in both formats. Each clause reads one area of the disk, as a list of bytes of its own.
use Rattle.std.specs.Prelude.{◌≡◌, ◌≢◌, ◌⊎◌, ℕ, ◌+◌, ◌*◌, ◌<◌, List, [], ◌∷◌, length, Option, MatchOption, All, slice_index, codes}
use Rattle.std.specs.List.{flat_map}
use Rattle.sg_disk.specs.View.{View, range}
use Rattle.sg_disk.specs.Runs.{LeavesOnly}
use Rattle.sg_disk.specs.Contents.{StoredFile, Contents, Change, IsExtent, Along}
use Rattle.sg_disk.specs.StandsFor.{le32, le64, HasFields, IsOpen, AreFiles, IsJournal, journal_of, AreSlots as AreOldSlots}
use Rattle.sg_disk.specs.declared.places.TheConstants.{HEADER_LEN, VERSION, MARK, DISPLAY, EPOCH, ROOM, SLOT_ZERO, SLOT_ONE, SLOT_LEN, DATA}
use Rattle.sg_pages.specs.Maps.{le16}
use Rattle.sg_pages.specs.declared.maps.TheConstants.{MAP_LEN, MAP_ENTRY_LEN}
use Rattle.sg_upgrade.specs.declared.places.TheConstants.{SECOND_MARK, WHOLE}
use Rattle.sg_contents.specs.Lawful.{IsSnapshot, IsLawful, all_pages}
use Rattle.sg_contents.specs.declared.places.TheConstants.{SEALS, SEAL_LEN, SEALS_LEN}

-- the header of either format: an open gate, the mark, and the fields
pub record IsHeader (display epoch room : ℕ) (header : List ℕ) : Type 0 where
  pub gate : slice_index header 0 ≡ 1
  pub mark : range header MARK 8 ≡ codes "SGNSTORE"
  pub display_is : range header DISPLAY 4 ≡ le32 display
  pub epoch_is : range header EPOCH 4 ≡ le32 epoch
  pub room_is : range header ROOM 8 ≡ le64 room

-- the version of the old format is 1
abbrev pub IsOld : List ℕ → Type 0
IsOld header = range header VERSION 4 ≡ le32 1

-- That of the new one is any other of one byte, and there is a second mark. So a torn byte of the version is one or the other
pub record IsNew (header : List ℕ) : Type 0 where
  pub other : slice_index header VERSION ≢ 1
  pub small : range header (VERSION + 1) 3 ≡ 0 ∷ 0 ∷ 0 ∷ []
  pub second : range header SECOND_MARK 8 ≡ codes "SGNSTOR2"

-- the areas behind the data: a map for each slot, and the seals
abbrev pub map_zero : ℕ → List ℕ → List ℕ
map_zero room c = range c (DATA + room) MAP_LEN

abbrev pub map_one : ℕ → List ℕ → List ℕ
map_one room c = range c (DATA + room + MAP_LEN) MAP_LEN

abbrev pub seals_of : ℕ → List ℕ → List ℕ
seals_of room c = range c (DATA + room + 2 * MAP_LEN) SEALS_LEN

-- the fields of a slot, and the pages of its files in its map
pub record HasSlot (number : ℕ) (text : List ℕ) (files : List StoredFile)
    (slot map : List ℕ) : Type 0 where
  pub fields : HasFields number text files slot
  pub pages : range map 0 (MAP_ENTRY_LEN * length (all_pages files)) ≡ flat_map le16 (all_pages files)

-- The slot that isn't current: where it is open it has a lower number, and an opening finds no fault in it
abbrev pub IsOther : ℕ → ℕ → List ℕ → List ℕ → Type 0
IsOther room number slot map = IsOpen slot
    → (lower : ℕ) × (text : List ℕ) × (files : List StoredFile) × (lower < number)
    × HasSlot lower text files slot map × IsSnapshot room lower text files

-- the current slot and the other one, each with its map
pub record IsCurrent (room number : ℕ) (text : List ℕ) (files : List StoredFile)
    (current current_map other other_map : List ℕ) : Type 0 where
  pub gate : IsOpen current
  pub slot : HasSlot number text files current current_map
  pub rest : IsOther room number other other_map

-- the current snapshot is that of the open slot with the greater number; without one no slot is open
abbrev pub AreSlots : ℕ → ℕ → Option (List ℕ) → List StoredFile → List ℕ → List ℕ → List ℕ → List ℕ → Type 0
AreSlots room number text files zero zero_map one one_map =
    MatchOption text
    ((IsOpen zero → ⊥) × (IsOpen one → ⊥))
    (λ t. IsCurrent room number t files zero zero_map one one_map ⊎ IsCurrent room number t files one one_map zero zero_map)

-- the length of a disk of the new format whose data area has this length
abbrev pub disk_len : ℕ → ℕ
disk_len room = WHOLE + room

-- the records of seals: each gate is closed, and there are no seals
pub record AreSealed (seals : List StoredFile) (area : List ℕ) : Type 0 where
  pub none : seals ≡ []
  pub shut : (k : ℕ) → k < SEALS → slice_index area (SEAL_LEN * k) ≢ 1

-- The old format: files stand in ranges. The disk may have the length of the new one already
pub record IsFormat1 (room number : ℕ) (text : Option (List ℕ)) (files seals : List StoredFile)
    (c : List ℕ) : Type 0 where
  pub version : IsOld (range c 0 HEADER_LEN)
  pub size : (length c ≡ DATA + room) ⊎ (length c ≡ disk_len room)
  pub extents : All IsExtent files
  pub slots : AreOldSlots room number text files (range c SLOT_ZERO SLOT_LEN)
      (range c SLOT_ONE SLOT_LEN)
  pub sealed : seals ≡ []

-- the new format
pub record IsFormat2 (room number : ℕ) (text : Option (List ℕ)) (files seals : List StoredFile)
    (c : List ℕ) : Type 0 where
  pub version : IsNew (range c 0 HEADER_LEN)
  pub size : length c ≡ disk_len room
  pub slots : AreSlots room number text files (range c SLOT_ZERO SLOT_LEN) (map_zero room c)
      (range c SLOT_ONE SLOT_LEN) (map_one room c)
  pub sealed : AreSealed seals (seals_of room c)

abbrev pub IsFormat : ℕ → ℕ → Option (List ℕ) → List StoredFile → List StoredFile → List ℕ → Type 0
IsFormat room number text files seals c =
    IsFormat1 room number text files seals c ⊎ IsFormat2 room number text files seals c

-- the bytes of a disk stand for these contents, which are lawful
pub record StandsFor (p : Contents) (c : List ℕ) : Type 0 where
  pub lawful : IsLawful p
  pub header : IsHeader p.display p.epoch p.room (range c 0 HEADER_LEN)
  pub format : IsFormat p.room p.number p.text p.files p.seals c
  pub journal : IsJournal p.epoch p.plays p.floor (journal_of c)
  pub files : AreFiles p.files (range c DATA p.room)

-- they stand for the ones or for the others
abbrev pub Either : Contents → Contents → List ℕ → Type 0
Either p q c = StandsFor p c ⊎ StandsFor q c

-- they stand for one of a set of contents
abbrev pub StandsForOne : (Contents → Type 0) → List ℕ → Type 0
StandsForOne P c = (p : Contents) × P p × StandsFor p c

-- each image stands for these contents, and the disk tells what a read gives
pub record Settled (v : View) (p : Contents) : Type 0 where
  pub told : v.told
  pub each : (c : List ℕ) → v.images c → StandsFor p c

-- each image, what a read gives among them, stands for one of a set of contents
pub record Between (v : View) (P : Contents → Type 0) : Type 0 where
  pub told : v.told
  pub each : (c : List ℕ) → v.images c → StandsForOne P c

-- At every moment since old each image stands for the contents along these changes
pub record Made (changes : List Change) (old new : View) (p : Contents) : Type 0 where
  pub moments : LeavesOnly (StandsForOne (Along p changes)) old new
  pub told : old.told → new.told
