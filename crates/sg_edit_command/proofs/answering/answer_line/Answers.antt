use Rattle.std.proofs.Common.{refl, sym, ◌∙◌}
use Rattle.sg_edit_command.proofs.EndLemmas.{ends_unanswered, reply_said}
use Rattle.sg_edit_command.specs.Answering.{EndsAt}
use Rattle.sg_edit_command.specs.Answering.EndsAt.{cut}
use Rattle.sg_edit_command.specs.Asking.{line_step, reply_if}
use Rattle.sg_endings.proofs.Endings.{stopped_first}
use Rattle.sg_endings.specs.Stops.{status_of, text_of}
use Rattle.sg_edit_command.proofs.answering.answer_line.Goals as goal

pub returns-in-Err-put_reply : goal.returns-in-Err-put_reply
returns-in-Err-put_reply g c = record {
  done = λ fine. absurd (fine refl);
  quiet = λ fine. absurd (fine refl);
  write = λ five. record {
    rose = c.in-Err-put_reply.ensures.cause.failed;
    status = 5;
    text = reply_if (line_step c.args.cms.now c.args.line.now);
    is = cut c.answer.new.cms c.in-Ok-Some.ensures.answered.0;
    put =
        rw (reply_said (line_step c.args.cms.now c.args.line.now) c.in-Ok-Some.reply (sym c.in-Ok-Some.field-0-is ∙ c.in-Ok-Some.ensures.answered.1))
        c.in-Err-put_reply.ensures.err;
  };
}

pub returns-in-Err : goal.returns-in-Err
returns-in-Err g c =
    stopped_first (EndsAt c.args.line.now c.args.number c.args.cms.now (g.K.Keeper.view c.args.keeper.now) (g.K.Keeper.view c.answer.new.keeper)) (status_of c.in-Err.stop) (text_of c.in-Err.stop)
    c.finish.result _ _ _ _ c.finish.ensures
    (ends_unanswered c.args.line.now c.args.number c.args.cms.now (g.K.Keeper.view c.args.keeper.now) (g.K.Keeper.view c.answer.new.keeper) c.in-Err.stop c.in-Err.ensures.stop c.in-Err.ensures.same)
