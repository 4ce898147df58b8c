use Rattle.std.proofs.Common.{◌≡◌, ◌*◌, ◌≤◌, take, vec_len, vec_capacity}
use Rattle.std.specs.List.{flat_map}
use Rattle.sg_slots.specs.Bytes.{placed_entry}
use Rattle.sg_slots.proofs.slot_writes.put_entries.Given as goal
use Rattle.sg_disk.specs.declared.places.TheConstants.{TABLE_LEN}

abbrev pub invariant-loop-placed : goal.invariant-loop-placed
invariant-loop-placed l = (l.table.items ≡ flat_map placed_entry (take l.placed-index l.files)) × (vec_len l.table ≡ 32 * l.placed-index) × (TABLE_LEN ≤ vec_capacity l.table)
