-- A snapshot that takes the place of the current one.
use Rattle.std.specs.Prelude.{◌≡◌, ◌↔◌, ℕ, ◌+◌, ◌*◌, ◌==◌, not, Bool, true, List, length, map, MatchOption}
use Rattle.sg_disk.specs.View.{View, range, Only}
use Rattle.sg_disk.specs.Runs.{HasOne}
use Rattle.sg_disk.specs.Contents.{StoredFile, Contents, switched}
use Rattle.sg_disk.specs.StandsFor.{IsOpen, AreFiles}
use Rattle.sg_disk.specs.declared.places.TheConstants.{DATA, HEADER_LEN, JOURNAL}
use Rattle.sg_placing.specs.Placing.{placed_of}
use Rattle.sg_placing.specs.declared.placed.Placed.{Placed}
use Rattle.sg_pages.specs.Maps.{map_bytes}
use Rattle.sg_pages.specs.declared.maps.TheConstants.{MAP_LEN}
use Rattle.sg_slots.specs.Bytes.{head_fields, table_bytes}
use Rattle.sg_slots.specs.Slots.{slot_of, opposite}
use Rattle.sg_slots.specs.declared.slots.Slot.{Slot}
use Rattle.sg_paged_slots.specs.PagedDamage.{map_place}
use Rattle.sg_contents.specs.Lawful.{IsLawful, all_pages}
use Rattle.sg_contents.specs.StandsFor.{IsNew, IsCurrent, StandsFor, Settled}

-- the map of a slot
abbrev pub map_of : ℕ → Slot → List ℕ → List ℕ
map_of room slot c = range c (map_place room slot) MAP_LEN

-- the snapshot of contents, if there is one, stands in the slot beside this one
abbrev pub IsBesideSlot : Slot → Contents → List ℕ → Type 0
IsBesideSlot spare p c = MatchOption p.text (Unit {0})
    (λ text. IsCurrent p.room p.number text p.files
    (slot_of (opposite spare) c) (map_of p.room (opposite spare) c)
    (slot_of spare c) (map_of p.room spare c))

-- A disk of the new format is settled with contents, of which the snapshot isn't in the spare slot. Every image has the header, the
-- slots and the maps that a read gives
pub record HasSpare (v : View) (spare : Slot) (opened : Bool) (p : Contents) : Type 0 where
  pub settled : Settled v p
  pub front : HasOne 0 JOURNAL v
  pub maps : HasOne (DATA + p.room) (2 * MAP_LEN) v
  pub format : IsNew (range v.bytes 0 HEADER_LEN)
  pub slot : IsBesideSlot spare p v.bytes
  -- how the gate of the spare slot stands
  pub gate : (opened ≡ true) ↔ IsOpen (slot_of spare v.bytes)

-- files without their bytes, as a table has them
abbrev pub placed_files : List StoredFile → List Placed
placed_files files = map placed_of files

-- these bytes are those of a snapshot that may follow: its files stand on the disk, and contents with it are lawful
pub record IsNext (v : View) (p : Contents) (files : List StoredFile) (head table text map : List ℕ) : Type 0 where
  pub head_is : head ≡ head_fields (p.number + 1) (length text) (length files)
  pub table_is : table ≡ table_bytes (placed_files files)
  pub map_is : map ≡ map_bytes (all_pages files)
  pub held : AreFiles files (range v.bytes DATA p.room)
  pub lawful : IsLawful (switched p text files)

-- A crash leaves contents with the next snapshot, which stands in the slot that was spare
pub record IsSwitched (v : View) (spare : Slot) (p : Contents) (text : List ℕ) (files : List StoredFile) : Type 0 where
  pub told : v.told
  pub only : Only v.bytes v
  pub format : IsNew (range v.bytes 0 HEADER_LEN)
  pub standing : StandsFor (switched p text files) v.bytes
  pub slot : IsBesideSlot (opposite spare) (switched p text files) v.bytes
  -- the slot beside it is open if it was the current one
  pub gate : (not (p.number == 0) ≡ true) ↔ IsOpen (slot_of (opposite spare) v.bytes)
