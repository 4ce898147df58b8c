-- What an opening refuses. Each check names the place that it looks at and the number that it finds there.
use Rattle.std.specs.Prelude.{ℕ, ◌+◌, ◌%◌, ◌==◌, nat_lt, nat_le, ◌&&◌, ◌||◌, Bool, true, false, List, [], ◌∷◌, ◌++◌, Option, None, Some, if◌then◌else◌, codes}
use Rattle.std.specs.List.{list_all}
use Rattle.std.specs.Int.{w64, from_le_bytes}
use Rattle.sg_base.specs.declared.limits.TheConstants.{MANIFEST_FILES, MANIFEST_TEXT, MAX_FILE_LEN, ROOM_UNIT, MAX_ROOM}
use Rattle.sg_disk.specs.declared.places.TheConstants.{COUNT, DATA, DISPLAY, ENTRY_LEN, EPOCH, MARK, NUMBER, ROOM, SLOT_ONE, TABLE, TEXT_LEN, VERSION}
use Rattle.sg_placing.specs.Placing.{end_of}
use Rattle.sg_placing.specs.declared.placed.Placed.{Placed}
use Rattle.sg_slots.specs.Bytes.{u32_at, u64_at}
use Rattle.sg_slots.specs.Slots.{slot_place, head_at, files_at}
use Rattle.sg_slots.specs.declared.slots.Slot.{Slot}
use Rattle.sg_slots.specs.declared.slots.Slot.TheVariants.{Zero, One}
use Rattle.sg_slots.specs.declared.slots.Head.{Head}
use Rattle.sg_slots.specs.declared.formats.Format.{Format}

pub record Damage : Type 0 where
  pub place : ℕ
  pub found : ℕ

-- a check that fails at a place, with what it found there
abbrev pub check : Bool → ℕ → ℕ → Option Damage
check true place found = None
check false place found = Some (record { place = place; found = found })

-- the first of two checks that fails
abbrev pub or_else : Option Damage → Option Damage → Option Damage
or_else (Some damage) later = Some damage
or_else None later = later

-- the length of a data area: a multiple of its unit, within its limits
abbrev pub is_room : ℕ → Bool
is_room room = nat_le ROOM_UNIT room && (nat_le room MAX_ROOM && (room % ROOM_UNIT == 0))

-- the version and the mark of a header
abbrev pub mark_damage : ℕ → ℕ → Option Damage
mark_damage version mark = or_else (check (version == 1) VERSION version)
    (check (mark == from_le_bytes w64 (codes "SGNSTORE")) MARK mark)

-- display, epoch and data area of a header, on a disk of this length
abbrev pub format_damage : ℕ → Format → Option Damage
format_damage size f =
    or_else (check (nat_le 1 f.display) DISPLAY f.display)
    (or_else (check (nat_le 1 f.epoch) EPOCH f.epoch)
    (check (is_room f.room && (size == DATA + f.room)) ROOM f.room))

-- the fields of a header
abbrev pub format_at : List ℕ → Format
format_at c = record { display = u32_at c DISPLAY; epoch = u32_at c EPOCH; room = u64_at c ROOM }

abbrev pub header_damage : ℕ → List ℕ → Option Damage
header_damage size c = or_else (mark_damage (u32_at c VERSION) (u64_at c MARK))
    (format_damage size (format_at c))

-- the fields of an open slot
abbrev pub fields_damage : ℕ → Option Head → Option Damage
fields_damage place None = None
fields_damage place (Some head) =
    or_else (check (nat_le 1 head.number) (place + NUMBER) head.number)
    (or_else (check (nat_le 1 head.text && nat_le head.text MANIFEST_TEXT)
    (place + TEXT_LEN) head.text)
    (check (nat_le head.count MANIFEST_FILES) (place + COUNT) head.count))

-- an entry has a medium above the one before, a length within its limit, and a range in the data area
abbrev pub is_entry : ℕ → ℕ → Placed → Bool
is_entry room before p =
    nat_lt before p.file.media.0 &&
    (nat_le 1 p.file.length &&
    (nat_le p.file.length MAX_FILE_LEN &&
    (nat_le DATA p.place && nat_le (end_of p) (DATA + room))))

-- the entries from a place on
abbrev pub entries_damage : ℕ → ℕ → ℕ → List Placed → Option Damage
entries_damage room place before [] = None
entries_damage room place before (p ∷ files) =
    if is_entry room before p then entries_damage room (place + ENTRY_LEN) p.file.media.0 files
    else Some (record { place = place; found = p.file.media.0 })

-- the fields of a slot, and then its entries
abbrev pub slot_damage : ℕ → Slot → List ℕ → Option Damage
slot_damage room slot c = or_else (fields_damage (slot_place slot) (head_at slot c))
    (entries_damage room (slot_place slot + TABLE) 0 (files_at slot c))

-- two open slots have different numbers
abbrev pub twin_damage : Option Head → Option Head → Option Damage
twin_damage (Some zero) (Some one) = check (if zero.number == one.number then false else true)
    (SLOT_ONE + NUMBER) one.number
twin_damage zero one = None

-- a file overlaps none of these
abbrev pub is_apart : List Placed → Placed → Bool
is_apart earlier p = list_all (λ e. nat_le (end_of e) p.place || nat_le (end_of p) e.place) earlier

-- the entries from a place on, none of which overlaps an earlier one
abbrev pub overlap_damage : ℕ → List Placed → List Placed → Option Damage
overlap_damage place earlier [] = None
overlap_damage place earlier (p ∷ files) =
    if is_apart earlier p then overlap_damage (place + ENTRY_LEN) (earlier ++ p ∷ []) files
    else Some (record { place = place; found = p.file.media.0 })

-- the slots of a store whose data area has this length: slot 0, slot 1, both together, and then what overlaps in each
abbrev pub slots_damage : ℕ → List ℕ → Option Damage
slots_damage room c =
    or_else (slot_damage room Zero c)
    (or_else (slot_damage room One c)
    (or_else (twin_damage (head_at Zero c) (head_at One c))
    (or_else (overlap_damage (slot_place Zero + TABLE) [] (files_at Zero c))
    (overlap_damage (slot_place One + TABLE) [] (files_at One c)))))

-- the first fault of a formatted disk of this length
abbrev pub damage_of : ℕ → List ℕ → Option Damage
damage_of size c = or_else (header_damage size c) (slots_damage (u64_at c ROOM) c)
