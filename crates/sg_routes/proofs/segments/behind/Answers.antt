use Rattle.std.proofs.Common.{◌+◌, ◌∙◌, sym}
use Rattle.std.proofs.lemmas.List.{take_rest}
use Rattle.sg_routes.proofs.SegmentLemmas.{behind_none, behind_some}
use Rattle.sg_routes.proofs.segments.behind.Goals as goal

pub returns-in-None : goal.returns-in-None
returns-in-None c = behind_none c.args.path.now (sym c.in-None.ensures.place)

pub returns-in-Some : goal.returns-in-Some
returns-in-Some c = take_rest c.args.path.now (c.in-Some.place + 1) ∙ behind_some c.args.path.now c.in-Some.place (sym c.in-Some.ensures.place)
