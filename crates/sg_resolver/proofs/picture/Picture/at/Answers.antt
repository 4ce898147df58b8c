use Rattle.std.proofs.Common.{◌<◌}
use Rattle.sg_resolver.proofs.Fixed.{length_front, front_at}
use Rattle.sg_resolver.proofs.picture.Picture.at.Goals as goal

pub returns : goal.returns
returns c =
    let inside : c.args.i < c.self.inside.count = rw (← length_front c.self.inside.count 16 c.self.inside.entries c.self.invariant.0 c.self.invariant.1, c.self.view_is) c.requires in
    rw (← c.self.view_is) (front_at c.self.inside.count 16 c.args.i c.self.inside.entries _ c.self.invariant.0 c.self.invariant.1 inside)
