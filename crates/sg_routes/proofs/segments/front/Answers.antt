use Rattle.std.proofs.Common.{sym}
use Rattle.sg_routes.proofs.SegmentLemmas.{front_none, front_some}
use Rattle.sg_routes.proofs.segments.front.Goals as goal

pub returns-in-None : goal.returns-in-None
returns-in-None c = front_none c.args.path.now (sym c.in-None.ensures.place)

pub returns-in-Some : goal.returns-in-Some
returns-in-Some c = front_some c.args.path.now c.in-Some.place (sym c.in-Some.ensures.place)
