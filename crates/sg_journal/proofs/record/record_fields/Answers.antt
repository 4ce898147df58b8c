use Rattle.sg_disk.specs.StandsFor.{le32, fields}
use Rattle.sg_journal.proofs.record.record_fields.Goals as goal

pub returns-clause-fields : goal.returns-clause-fields
unfolding le32 fields
returns-clause-fields c = rw (c.to_le_bytes.ensures, c.to_le_bytes-2.ensures, c.to_le_bytes-3.ensures, c.to_le_bytes-4.ensures, c.seconds.ensures.value, c.to_le_bytes-5.ensures, c.seconds-2.ensures.value, c.to_le_bytes-6.ensures)
