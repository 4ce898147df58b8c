use Rattle.std.proofs.Common.{sym, ◌∙◌}
use Rattle.sg_http.proofs.ReadingLemmas.{empty_found, none_found, reads_none, reads_part, reads_head}
use Rattle.sg_http.proofs.reading.read_reply.Goals as goal

pub returns-then-not-may_be_http-clause-reads : goal.returns-then-not-may_be_http-clause-reads
returns-then-not-may_be_http-clause-reads c =
    reads_none c.args.bytes.now (sym c.may_be_http.ensures ∙ c.if-not-may_be_http.true)

pub returns-in-Ended-clause-reads : goal.returns-in-Ended-clause-reads
returns-in-Ended-clause-reads c =
    reads_head c.args.bytes.now c.in-Ended.end _ (sym c.may_be_http.ensures ∙ c.if-not-may_be_http.false)
    (empty_found c.args.bytes.now c.in-Ended.end c.in-Ended.ensures) c.read_head.ensures.reads

pub returns-in-GoesOn-clause-reads : goal.returns-in-GoesOn-clause-reads
returns-in-GoesOn-clause-reads c =
    reads_part c.args.bytes.now (sym c.may_be_http.ensures ∙ c.if-not-may_be_http.false)
    (none_found c.args.bytes.now _ c.in-GoesOn.ensures)
