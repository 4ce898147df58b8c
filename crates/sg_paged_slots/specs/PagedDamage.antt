-- What an opening refuses in the table and the map of a slot, where files stand in pages or in ranges.
use Rattle.std.specs.Prelude.{ℕ, ◌+◌, ◌*◌, ◌/◌, ◌==◌, nat_lt, nat_le, ◌&&◌, ◌||◌, Bool, List, [], ◌∷◌, ◌++◌, sum_by, Option, None, Some, option_map, if◌then◌else◌}
use Rattle.std.specs.List.{list_all, flat_map}
use Rattle.sg_base.specs.declared.limits.TheConstants.{MAX_FILE_LEN}
use Rattle.sg_disk.specs.declared.places.TheConstants.{DATA, ENTRY_LEN, PAGE}
use Rattle.sg_placing.specs.Placing.{end_of}
use Rattle.sg_placing.specs.declared.placed.Placed.{Placed}
use Rattle.sg_pages.specs.Maps.{bad_entry}
use Rattle.sg_pages.specs.Shelves.{pages_for, extent_of}
use Rattle.sg_pages.specs.declared.maps.BadEntry.{BadEntry}
use Rattle.sg_pages.specs.declared.maps.TheConstants.{MAP_ENTRY_LEN, MAP_LEN}
use Rattle.sg_slots.specs.Damage.{Damage}
use Rattle.sg_slots.specs.declared.slots.Slot.{Slot}
use Rattle.sg_slots.specs.declared.slots.Slot.TheVariants.{Zero, One}

-- the maps stand behind the data area
abbrev pub map_place : ℕ → Slot → ℕ
map_place room Zero = DATA + room
map_place room One = DATA + room + MAP_LEN

-- a file in a range overlaps none of these that stand in one
abbrev pub is_beside : List Placed → Placed → Bool
is_beside earlier p = list_all (λ e. e.place == 0 || (nat_le (end_of e) p.place || nat_le (end_of p) e.place)) earlier

-- The files so far have no more pages than the data area, and a file in a range has it there, beside those before it
abbrev pub has_room : ℕ → List Placed → Placed → Bool
has_room room earlier p =
    nat_le (sum_by pages_for earlier + pages_for p) (room / PAGE) &&
    (p.place == 0 || (nat_le DATA p.place && (nat_le (end_of p) (DATA + room) && is_beside earlier p)))

-- an entry has a medium above the one before, a length within its limit, and room
abbrev pub is_file_entry : ℕ → ℕ → List Placed → Placed → Bool
is_file_entry room before earlier p =
    nat_lt before p.file.media.0 &&
    (nat_le 1 p.file.length &&
    (nat_le p.file.length MAX_FILE_LEN && has_room room earlier p))

-- the entries from a place on, after earlier ones of which the last has a medium
abbrev pub files_damage : ℕ → ℕ → ℕ → List Placed → List Placed → Option Damage
files_damage room place before earlier [] = None
files_damage room place before earlier (p ∷ files) =
    if is_file_entry room before earlier p
    then files_damage room (place + ENTRY_LEN) p.file.media.0 (earlier ++ p ∷ []) files
    else Some (record { place = place; found = p.file.media.0 })

-- the entry of a map at which an opening stops
abbrev pub entry_damage : ℕ → BadEntry → Damage
entry_damage place entry = record { place = place + MAP_ENTRY_LEN * entry.index; found = entry.page }

-- the map of a slot with these files and these pages: each is a page of the data area, which no earlier one is and no range touches
abbrev pub map_damage : ℕ → Slot → List Placed → List ℕ → Option Damage
map_damage room slot files pages = option_map (entry_damage (map_place room slot))
    (bad_entry (room / PAGE) (flat_map extent_of files) 0 pages)
