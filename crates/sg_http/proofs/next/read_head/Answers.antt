use Rattle.sg_http.proofs.JudgeLemmas.{looks_whole, looks_none, overflows_none}
use Rattle.sg_http.proofs.next.read_head.Goals as goal

pub returns-in-Ok-Complete : goal.returns-in-Ok-Complete
returns-in-Ok-Complete c =
    let head = rw c.in-Ok-Complete.field-0-is at c.in-Ok-Complete.ensures.complete in
    looks_whole c.args.stream.now c.args.end c.parse_request.new.headers c.in-Ok-Complete.parts head.0 c.judge.result c.requires.end
    c.parse_request.auto.headers head.1 c.judge.ensures

pub returns-in-Ok-Partial : goal.returns-in-Ok-Partial
returns-in-Ok-Partial c =
    let none = rw c.in-Ok-Partial.field-0-is at c.in-Ok-Partial.ensures.partial in
    (looks_none c.args.stream.now c.args.end c.requires.end (λ h is. none h is.rest is.reads), tt, λ same. cc)

pub returns-in-Err : goal.returns-in-Err
returns-in-Err c =
    (looks_none c.args.stream.now c.args.end c.requires.end (overflows_none _ c.in-Err.ensures.no_room), tt, λ same. cc)
