use Rattle.sg_events.proofs.EdgeLemmas.{over_first, over_none}
use Rattle.sg_events.proofs.changes.next_over.Goals as goal

pub returns-in-Some : goal.returns-in-Some
returns-in-Some c =
    let a = c.args in
    let e = c.earlier_by-earlier in
    over_first a.from a.to a.repeat.now a.t c.requires.second.high e.result e.ensures.low e.ensures.one c.in-Some.start _ c.in-Some.ensures (rw (c.later_by.ensures, c.end.ensures) at c.sooner.ensures)

pub returns-in-None : goal.returns-in-None
returns-in-None c =
    let a = c.args in
    let e = c.earlier_by-earlier in
    rw c.end-in-None.ensures (over_none a.from a.to a.repeat.now a.t c.requires.second.high e.result e.ensures.low e.ensures.one c.in-None.ensures)
