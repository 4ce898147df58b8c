use Rattle.std.proofs.Common.{◌∙◌, append_assoc}
use Rattle.sg_http.proofs.reply.ReplyHead.push_form.Goals as goal

pub returns-clause-line : goal.returns-clause-line
returns-clause-line c =
    c.push_line.ensures.text ∙ rw (c.push.ensures.text, c.form_name.ensures.name) (simp append_assoc)
