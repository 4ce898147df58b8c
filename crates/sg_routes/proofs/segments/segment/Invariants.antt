use Rattle.std.proofs.Common.{◌≡◌, ◌-◌}
use Rattle.sg_routes.specs.Paths.{segment, segments}
use Rattle.sg_routes.proofs.segments.segment.Given as goal

abbrev pub invariant-loop-i : goal.invariant-loop-i
invariant-loop-i l = segment (l.index - l._i) (segments l.rest) ≡ segment l.index (segments l.path)
