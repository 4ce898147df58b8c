use Rattle.std.proofs.Common.{◌≡◌, drop}
use Rattle.sg_base.specs.Faults.{first_in}
use Rattle.sg_manifest.specs.Reading.{missing_in_target}
use Rattle.sg_manifest.proofs.naming.in_targets.Given as goal

abbrev pub invariant-loop-event : goal.invariant-loop-event
invariant-loop-event l = first_in (missing_in_target l.layouts l.campaigns) (drop l.event-index l.events) ≡ first_in (missing_in_target l.layouts l.campaigns) l.events
