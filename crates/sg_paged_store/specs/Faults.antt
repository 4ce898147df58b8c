-- What an opening refuses, on a disk that is long enough and whose gate is open.
use Rattle.std.specs.Prelude.{ℕ, List, Option, if◌then◌else◌}
use Rattle.sg_slots.specs.Damage.{Damage, or_else, slots_damage}
use Rattle.sg_paged_slots.specs.Headers.{header_at, any_header_damage}
use Rattle.sg_paged_slots.specs.PagedSlots.{paged_slots_damage}
use Rattle.sg_paged_slots.specs.declared.headers.Header.{Header}

-- the first fault of both slots, by the format that the header names
abbrev pub slots_damage_by : Header → List ℕ → Option Damage
slots_damage_by h c = if h.old then slots_damage h.format.room c else paged_slots_damage h.format.room c

-- the first fault of a disk of this length: that of its header, and then that of its slots
abbrev pub damage_of : ℕ → List ℕ → Option Damage
damage_of size c = or_else (any_header_damage size c) (slots_damage_by (header_at c) c)
