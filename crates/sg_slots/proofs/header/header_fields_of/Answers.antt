use Rattle.sg_disk.specs.StandsFor.{le32, le64}
use Rattle.sg_slots.specs.Bytes.{header_fields}
use Rattle.sg_slots.proofs.header.header_fields_of.Goals as goal

pub returns : goal.returns
unfolding header_fields le32 le64
returns c = rw (c.to_le_bytes.ensures, c.to_le_bytes-2.ensures, c.to_le_bytes-3.ensures)
