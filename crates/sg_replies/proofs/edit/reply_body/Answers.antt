use Rattle.std.proofs.Common.{◌∙◌, ap, sym}
use Rattle.sg_replies.specs.Bodies.{reply_body}
use Rattle.sg_records.specs.declared.reply.Reply.TheVariants as reply
use Rattle.sg_replies.proofs.BodyLemmas.{edit_parts_are}
use Rattle.sg_replies.proofs.edit.reply_body.Goals as goal

pub returns-in-Done : goal.returns-in-Done
returns-in-Done c = c.number.ensures ∙ edit_parts_are (reply.Done c.in-Done.seq) ∙ ap reply_body (sym c.in-Done.is)

pub returns-in-Unknown : goal.returns-in-Unknown
returns-in-Unknown c = c.row_text.ensures ∙ edit_parts_are (reply.Unknown c.in-Unknown.kind c.in-Unknown.id) ∙ ap reply_body (sym c.in-Unknown.is)

pub returns-in-Exists : goal.returns-in-Exists
returns-in-Exists c = c.row_text-in-Exists.ensures ∙ edit_parts_are (reply.Exists c.in-Exists.kind c.in-Exists.id) ∙ ap reply_body (sym c.in-Exists.is)

pub returns-in-InUse : goal.returns-in-InUse
returns-in-InUse c = c.in_use_text.ensures ∙ edit_parts_are (reply.InUse c.in-InUse.kind c.in-InUse.id c.in-InUse.by_kind c.in-InUse.by_id) ∙ ap reply_body (sym c.in-InUse.is)

pub returns-in-Full : goal.returns-in-Full
returns-in-Full c = c.full_text.ensures ∙ edit_parts_are (reply.Full c.in-Full.kind c.in-Full.limit) ∙ ap reply_body (sym c.in-Full.is)

pub returns-in-Sequence : goal.returns-in-Sequence
returns-in-Sequence c = c.number-in-Sequence.ensures ∙ edit_parts_are (reply.Sequence c.in-Sequence.expected) ∙ ap reply_body (sym c.in-Sequence.is)

pub returns-in-Invalid : goal.returns-in-Invalid
returns-in-Invalid c = c.invalid_text.ensures ∙ edit_parts_are (reply.Invalid c.in-Invalid.fault) ∙ ap reply_body (sym c.in-Invalid.is)
