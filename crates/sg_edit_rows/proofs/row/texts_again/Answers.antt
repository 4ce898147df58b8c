use Rattle.sg_edit_rows.proofs.SoundEdits.{text_again, older_text_again}
use Rattle.sg_edit_rows.proofs.row.texts_again.Goals as goal

pub returns-clause-now : goal.returns-clause-now
returns-clause-now c = text_again

pub returns-clause-older : goal.returns-clause-older
returns-clause-older c = older_text_again
