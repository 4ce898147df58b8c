use Rattle.std.proofs.Common.{◌≡◌, ℕ, ◌+◌, ◌≤◌, take}
use Rattle.sg_tables.specs.Counts.{counted, times}
use Rattle.sg_tables.proofs.counts.take_all.Given as goal

abbrev pub invariant-loop-row : goal.invariant-loop-row
invariant-loop-row l = ((n : ℕ) → counted n l.counts.items + times n (take l.row-index l.rows) ≡ counted n l.fn.counts.items) × (l.fn.counts.room ≤ l.counts.room)
