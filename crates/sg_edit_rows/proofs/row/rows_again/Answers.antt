use Rattle.sg_edit_rows.proofs.AgainEdits.{row_again}
use Rattle.sg_edit_rows.proofs.row.rows_again.Goals as goal

pub returns : goal.returns
returns c = row_again
