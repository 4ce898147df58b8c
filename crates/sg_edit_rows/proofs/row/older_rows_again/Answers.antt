use Rattle.sg_edit_rows.proofs.AgainEdits.{older_row_again}
use Rattle.sg_edit_rows.proofs.row.older_rows_again.Goals as goal

pub returns : goal.returns
returns c = older_row_again
