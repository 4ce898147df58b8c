use Rattle.std.proofs.Common.{◌+◌, ◌-◌, length}
use Rattle.sg_lines.specs.Reading.{TookSome, side}
use Rattle.sg_lines.proofs.lines.Lines.find.Given as goal

abbrev pub invariant-more : goal.invariant-more
invariant-more g l = TookSome (side g.S.Ends.left g.S.Ends.take_faults l.initial.source) (side g.S.Ends.left g.S.Ends.take_faults l.source) l.initial.self l.self

abbrev pub decreases-more : goal.decreases-more
decreases-more g l = (l.self.most + 1) - length l.self.held
