use Rattle.std.proofs.Common.{◌≡◌, drop}
use Rattle.sg_base.specs.Faults.{first_in}
use Rattle.sg_base.specs.Daypart.{window_fault}
use Rattle.sg_base.proofs.daypart_rules.bad_time.Given as goal

abbrev pub invariant-loop-entry : goal.invariant-loop-entry
invariant-loop-entry g l =
    first_in (λ e. window_fault e.1) (drop l.entry-index l.windows) ≡ first_in (λ e. window_fault e.1) l.windows
