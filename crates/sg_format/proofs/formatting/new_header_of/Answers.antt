use Rattle.sg_disk.specs.StandsFor.{le32, le64}
use Rattle.sg_format.specs.Formatting.{new_header}
use Rattle.sg_format.proofs.formatting.new_header_of.Goals as goal

pub returns : goal.returns
unfolding new_header le32 le64
returns c = rw (c.to_le_bytes.ensures, c.to_le_bytes-2.ensures, c.to_le_bytes-3.ensures)
