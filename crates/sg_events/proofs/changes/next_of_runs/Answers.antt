use Rattle.sg_events.specs.Edges.{IsBegin, IsOver}
use Rattle.sg_events.proofs.EdgeLemmas.{first_of_both}
use Rattle.sg_events.proofs.changes.next_of_runs.Goals as goal

pub returns : goal.returns
returns c =
    let a = c.args in
    first_of_both (IsBegin a.from a.repeat.now) (IsOver a.from a.to a.repeat.now) a.t _ _ _ c.next_begin.ensures c.next_over.ensures c.sooner.ensures
