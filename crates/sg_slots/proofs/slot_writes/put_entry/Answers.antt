use Rattle.std.proofs.Common.{append_assoc}
use Rattle.sg_disk.specs.StandsFor.{le32, le64}
use Rattle.sg_slots.specs.Bytes.{placed_entry}
use Rattle.sg_slots.proofs.slot_writes.put_entry.Goals as goal

pub returns-clause-items : goal.returns-clause-items
unfolding placed_entry le32 le64
returns-clause-items c = rw (c.put_bytes-4.ensures.items, c.put_bytes-3.ensures.items, c.put_bytes-2.ensures.items, c.put_bytes.ensures.items, c.to_le_bytes.ensures, c.to_le_bytes-2.ensures, c.to_le_bytes-3.ensures) (simp append_assoc)
