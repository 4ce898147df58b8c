-- For private clauses: the writer of a table.
use Rattle.std.specs.Prelude.{◌≡◌, false}
use Rattle.csv.specs.declared.writer.Writer.{Writer}
use Rattle.csv.specs.Writing.{default_writer, fields_written, has_written, writer_setup}

-- it has written whole records, as csv does by default
pub record IsBetween {W : Type 0} (writer : Writer W) : Type 0 where
  pub setup : writer_setup writer ≡ default_writer
  pub fields : fields_written writer ≡ 0
  pub wrote : has_written writer ≡ false
