use Rattle.std.proofs.Common.{ℕ, ◌<◌, ◌≤◌, get_or}
use Rattle.sg_disk.specs.History.{room_of}
use Rattle.sg_disk.specs.declared.history.Call.{Call}
use Rattle.sg_disk.proofs.history.longest.Given as goal

abbrev pub invariant-loop-call : goal.invariant-loop-call
invariant-loop-call l = (k : ℕ) (d : Call) → k < l.call-index → room_of (get_or l.calls k d) ≤ l.most
