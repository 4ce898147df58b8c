use Rattle.std.proofs.lemmas.Result.{err_from_is_err_and}
use Rattle.sg_lines.specs.Reading.{side}
use Rattle.sg_lines.proofs.ReadLemmas.{stops_later}
use Rattle.sg_lines.proofs.lines.Lines.find.Goals as goal

pub returns-in_err-take_more-in-None : goal.returns-in_err-take_more-in-None
returns-in_err-take_more-in-None g c =
    let p = err_from_is_err_and c.from_residual-in_err-take_more-in-None.result c.from_residual-in_err-take_more-in-None.ensures.1 in
    let start = side g.S.Ends.left g.S.Ends.take_faults c.args.source.now in
    let mid = side g.S.Ends.left g.S.Ends.take_faults c.more.source in
    let end = side g.S.Ends.left g.S.Ends.take_faults c.take_more.new.source in
    rw (p.1, p.2) (stops_later start mid end c.args.self.now c.more.self c.in_err-take_more-in-None.field-0.0 c.more.invariant c.in_err-take_more-in-None.ensures)
