use Rattle.sg_connection.proofs.TurnLemmas.{on_err, part_after, part_before}
use Rattle.sg_connection.proofs.send.put_both.Goals as goal

pub returns-in-Err-clause-err : goal.returns-in-Err-clause-err
returns-in-Err-clause-err g c = part_before _ _ _ c.args.second.now c.in-Err.ensures.err

pub returns-in-Ok-clause-err : goal.returns-in-Ok-clause-err
returns-in-Ok-clause-err g c = on_err c.put_all-in-Ok.result (part_after _ _ _ c.args.first.now c.args.second.now c.in-Ok.ensures.ok) c.put_all-in-Ok.ensures.err
