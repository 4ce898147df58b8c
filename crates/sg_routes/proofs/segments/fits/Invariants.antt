use Rattle.std.proofs.Common.{◌≡◌, drop}
use Rattle.sg_routes.specs.Paths.{fits, segments}
use Rattle.sg_routes.proofs.segments.fits.Given as goal

abbrev pub invariant-loop-index : goal.invariant-loop-index
invariant-loop-index l = fits (drop l.index (segments l.pattern)) (drop l.index (segments l.path)) ≡ fits (segments l.pattern) (segments l.path)
