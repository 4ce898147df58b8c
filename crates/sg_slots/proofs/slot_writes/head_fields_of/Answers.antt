use Rattle.sg_disk.specs.StandsFor.{le32}
use Rattle.sg_slots.specs.Bytes.{head_fields}
use Rattle.sg_slots.proofs.slot_writes.head_fields_of.Goals as goal

pub returns : goal.returns
unfolding head_fields le32
returns c = rw (c.to_le_bytes.ensures, c.to_le_bytes-2.ensures, c.to_le_bytes-3.ensures)
