use Rattle.std.proofs.Common.{◌≡◌, ℕ, ◌+◌, ◌≤◌, length, slice_get, Some}
use Rattle.std.specs.VecDeque.{deque_capacity}
use Rattle.sg_base.specs.declared.play.PlayBody.{PlayBody}
use Rattle.sg_journal.specs.Entries.{held_by}
use Rattle.sg_journal.proofs.entries.fill.Given as goal
use Rattle.sg_base.specs.declared.limits.TheConstants.{MAX_PLAYS, JOURNAL_RECORDS}

abbrev pub invariant-loop : goal.invariant-loop
invariant-loop l = record {
  counted : length l.plays.items ≡ l.counter;
  room : JOURNAL_RECORDS ≤ deque_capacity l.plays;
  fits : l.first + length l.plays.items ≤ MAX_PLAYS + 1;
  each : (i : ℕ) (play : PlayBody) → slice_get l.plays.items i ≡ Some play → held_by l.entries (l.first + i) ≡ Some play;
}
