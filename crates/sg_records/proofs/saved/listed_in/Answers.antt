use Rattle.std.proofs.Common.{◌∙◌, ap}
use Rattle.sg_rows.specs.Reading.{file_at}
use Rattle.sg_rows.proofs.AgainRows.{file_again}
use Rattle.sg_records.proofs.saved.listed_in.Goals as goal

pub returns-in-Ok-clause-again : goal.returns-in-Ok-clause-again
returns-in-Ok-clause-again c f h is =
    let said = ap file_at is ∙ file_again f h in
    let gives = c.in-Ok.ensures.gives in
    cc

pub returns-in_ok-unless_memory-in-Err-clause-again : goal.returns-in_ok-unless_memory-in-Err-clause-again
returns-in_ok-unless_memory-in-Err-clause-again c f h is =
    let said = ap file_at is ∙ file_again f h in
    let gives = c.in-Err.ensures.gives c.in_ok-unless_memory-in-Err.ensures in
    absurd (cc)
