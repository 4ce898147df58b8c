use Rattle.sg_records.proofs.SavedLemmas.{row_said}
use Rattle.sg_records.proofs.saved.row_in.Goals as goal

pub returns-in-Ok-clause-again : goal.returns-in-Ok-clause-again
returns-in-Ok-clause-again c r h kind said =
    let is = row_said r c.args.kind _ h kind said in
    let gives = c.in-Ok.ensures.gives in
    cc

pub returns-in_ok-unless_memory-in-Err-clause-again : goal.returns-in_ok-unless_memory-in-Err-clause-again
returns-in_ok-unless_memory-in-Err-clause-again c r h kind said =
    let is = row_said r c.args.kind _ h kind said in
    let gives = c.in-Err.ensures.gives c.in_ok-unless_memory-in-Err.ensures in
    absurd (cc)
