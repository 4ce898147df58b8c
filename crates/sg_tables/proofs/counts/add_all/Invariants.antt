use Rattle.std.proofs.Common.{◌≡◌, ℕ, ◌+◌, ◌≤◌, length, take}
use Rattle.sg_tables.specs.Counts.{counted, times}
use Rattle.sg_tables.proofs.counts.add_all.Given as goal

abbrev pub invariant-loop-row : goal.invariant-loop-row
invariant-loop-row l = ((n : ℕ) → counted n l.counts.items ≡ counted n l.fn.counts.items + times n (take l.row-index l.rows)) × (length l.rows ≤ l.counts.room + l.row-index)
