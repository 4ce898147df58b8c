use Rattle.std.proofs.Common.{◌≡◌, [], take, drop}
use Rattle.sg_base.specs.Faults.{double_of}
use Rattle.sg_base.proofs.daypart_rules.doubled.Given as goal

abbrev pub invariant-loop-i : goal.invariant-loop-i
invariant-loop-i g l =
    double_of (λ e. g.D.Day.number e.0) g.D.Day.twice (take l.i l.windows) (drop l.i l.windows)
    ≡ double_of (λ e. g.D.Day.number e.0) g.D.Day.twice [] l.windows
