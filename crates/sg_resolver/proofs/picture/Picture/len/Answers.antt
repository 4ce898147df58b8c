use Rattle.std.proofs.Common.{sym}
use Rattle.sg_resolver.proofs.Fixed.{length_front}
use Rattle.sg_resolver.proofs.picture.Picture.len.Goals as goal

pub returns-clause-value : goal.returns-clause-value
returns-clause-value c = rw (← c.self.view_is) (sym (length_front c.self.inside.count 16 c.self.inside.entries c.self.invariant.0 c.self.invariant.1))
