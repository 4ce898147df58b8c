use Rattle.std.proofs.Common.{◌≡◌, drop}
use Rattle.sg_base.specs.Faults.{first_in}
use Rattle.sg_manifest.specs.Reading.{missing_in_when}
use Rattle.sg_manifest.proofs.naming.in_whens.Given as goal

abbrev pub invariant-loop-event : goal.invariant-loop-event
invariant-loop-event l = first_in (missing_in_when l.dayparts) (drop l.event-index l.events) ≡ first_in (missing_in_when l.dayparts) l.events
