use Rattle.sg_http.specs.Texts.{status_line, type_line, length_line, allow_lines, close_lines}
use Rattle.sg_http.proofs.TextLemmas.{head_made}
use Rattle.sg_http.proofs.reply.ReplyHead.new.Goals as goal

pub returns : goal.returns
returns c =
    head_made (status_line c.args.status) (type_line c.args.form) (length_line c.args.n) (allow_lines c.args.allow)
    (close_lines c.args.close) _ _ _ _ _ _ c.push_status.ensures.line c.push_form.ensures.line c.push_length.ensures.line
    c.push_allow.ensures.line c.push_close.ensures.line c.push_line.ensures.text
