-- What a slot of the new format says, and what an opening refuses in both.
use Rattle.std.specs.Prelude.{ℕ, ◌+◌, ◌*◌, List, [], Option, sum_by}
use Rattle.sg_disk.specs.View.{range}
use Rattle.sg_disk.specs.declared.places.TheConstants.{TABLE}
use Rattle.sg_placing.specs.declared.placed.Placed.{Placed}
use Rattle.sg_pages.specs.Maps.{pages_of}
use Rattle.sg_pages.specs.Shelves.{Shelved, pages_for}
use Rattle.sg_pages.specs.declared.maps.TheConstants.{MAP_ENTRY_LEN}
use Rattle.sg_slots.specs.Slots.{slot_place, head_at, files_at}
use Rattle.sg_slots.specs.Damage.{Damage, or_else, fields_damage, twin_damage}
use Rattle.sg_slots.specs.declared.slots.Slot.{Slot}
use Rattle.sg_slots.specs.declared.slots.Slot.TheVariants.{Zero, One}
use Rattle.sg_paged_slots.specs.PagedDamage.{map_place, files_damage, map_damage}

-- the pages that the map of a slot gives these files
abbrev pub pages_in : ℕ → Slot → List ℕ → List Placed → List ℕ
pages_in room slot c files =
    pages_of (range c (map_place room slot) (MAP_ENTRY_LEN * sum_by pages_for files)) (sum_by pages_for files)

-- the files of an open slot, with their pages
abbrev pub shelf_at : ℕ → Slot → List ℕ → Shelved
shelf_at room slot c = record { files = files_at slot c; pages = pages_in room slot c (files_at slot c) }

-- the fields of a slot, then its entries, and then its map
abbrev pub paged_slot_damage : ℕ → Slot → List ℕ → Option Damage
paged_slot_damage room slot c =
    or_else (fields_damage (slot_place slot) (head_at slot c))
    (or_else (files_damage room (slot_place slot + TABLE) 0 [] (files_at slot c))
    (map_damage room slot (files_at slot c) (pages_in room slot c (files_at slot c))))

-- slot 0, slot 1, and then both together
abbrev pub paged_slots_damage : ℕ → List ℕ → Option Damage
paged_slots_damage room c =
    or_else (paged_slot_damage room Zero c)
    (or_else (paged_slot_damage room One c)
    (twin_damage (head_at Zero c) (head_at One c)))
