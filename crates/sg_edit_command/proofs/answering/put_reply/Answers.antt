use Rattle.std.proofs.Common.{◌∙◌, ◌∷◌, []}
use Rattle.sg_edit_command.proofs.EndLemmas.{on_err_behind}
use Rattle.sg_endings.proofs.Endings.{part_more}
use Rattle.sg_edit_command.proofs.answering.put_reply.Goals as goal

pub returns-in-Ok-clause-err : goal.returns-in-Ok-clause-err
returns-in-Ok-clause-err g c =
    let before = rw (c.as_bytes.ensures ∙ c.reply_body-body.ensures) at c.in-Ok.ensures.ok in
    on_err_behind c.put_all-in-Ok.result _ _ _ _ _ before c.put_all-in-Ok.ensures.err

pub returns-in-Err-clause-err : goal.returns-in-Err-clause-err
returns-in-Err-clause-err g c =
    let part = rw (c.as_bytes.ensures ∙ c.reply_body-body.ensures) at c.in-Err.ensures.err in
    part_more _ _ _ (10 ∷ []) part
