-- What an opening refuses in the header of a store of either format.
use Rattle.std.specs.Prelude.{ℕ, ◌+◌, ◌==◌, nat_le, ◌&&◌, ◌||◌, Bool, List, Option, codes}
use Rattle.std.specs.Int.{w64, from_le_bytes}
use Rattle.sg_disk.specs.declared.places.TheConstants.{DATA, DISPLAY, EPOCH, MARK, ROOM, VERSION}
use Rattle.sg_slots.specs.Bytes.{u32_at, u64_at}
use Rattle.sg_slots.specs.Damage.{Damage, check, or_else, is_room, format_at}
use Rattle.sg_upgrade.specs.declared.places.TheConstants.{SECOND_MARK, WHOLE}
use Rattle.sg_paged_slots.specs.declared.headers.Header.{Header}

abbrev pub header_at : List ℕ → Header
header_at c = record { format = format_at c; old = u32_at c VERSION == 1 }

-- the version of the old format is 1, and that of the new one any other of one byte, where the second mark stands
abbrev pub is_version : ℕ → ℕ → Bool
is_version version second = version == 1 || (nat_le version 255 && second == from_le_bytes w64 (codes "SGNSTOR2"))

abbrev pub is_store : ℕ → Bool
is_store mark = mark == from_le_bytes w64 (codes "SGNSTORE")

-- a disk of this length has all areas; in the old format it may be without those behind the data
abbrev pub fits_disk : ℕ → Header → Bool
fits_disk size h = size == WHOLE + h.format.room || (h.old && size == DATA + h.format.room)

-- display, epoch and data area
abbrev pub fields_damage_of : ℕ → Header → Option Damage
fields_damage_of size h =
    or_else (check (nat_le 1 h.format.display) DISPLAY h.format.display)
    (or_else (check (nat_le 1 h.format.epoch) EPOCH h.format.epoch)
    (check (is_room h.format.room && fits_disk size h) ROOM h.format.room))

abbrev pub any_header_damage : ℕ → List ℕ → Option Damage
any_header_damage size c =
    or_else (check (is_version (u32_at c VERSION) (u64_at c SECOND_MARK)) VERSION (u32_at c VERSION))
    (or_else (check (is_store (u64_at c MARK)) MARK (u64_at c MARK))
    (fields_damage_of size (header_at c)))
