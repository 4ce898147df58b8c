use Rattle.std.proofs.Common.{ℕ, ◌+◌, ◌-◌, ◌≤◌, ◌++◌}
use Rattle.sg_disk.specs.declared.places.TheConstants.{DATA}
use Rattle.sg_placing.specs.Placing.{IsFree}
use Rattle.sg_placing.proofs.gaps.lowest_gap.Given as goal

abbrev pub invariant-loop-place : goal.invariant-loop-place
invariant-loop-place l = (DATA ≤ l.place) × (l.place ≤ DATA + l.room) × ((q : ℕ) → IsFree l.room (l.current ++ l.staged) l.need q → l.place ≤ q)

abbrev pub decreases-loop-place : goal.decreases-loop-place
decreases-loop-place l = DATA + l.room - l.place
