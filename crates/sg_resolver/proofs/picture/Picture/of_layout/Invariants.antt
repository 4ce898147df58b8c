use Rattle.std.proofs.Common.{◌≡◌, map, take}
use Rattle.sg_base.specs.Layout.{medium_at}
use Rattle.sg_resolver.proofs.picture.Picture.of_layout.Given as goal

abbrev pub invariant-loop-i : goal.invariant-loop-i
invariant-loop-i l = l.picture ≡ map (λ r. (r.id, medium_at r l.offset)) (take l.i l.layout.regions)
