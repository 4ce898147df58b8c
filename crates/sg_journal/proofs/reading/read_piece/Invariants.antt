use Rattle.std.proofs.Common.{◌≡◌, ℕ, ◌+◌, ◌*◌, List, ◌++◌, length}
use Rattle.sg_disk.specs.declared.places.TheConstants.{RECORD_LEN}
use Rattle.sg_journal.specs.Entries.{AreRead}
use Rattle.sg_journal.proofs.reading.read_piece.Given as goal

abbrev pub invariant-loop-i : goal.invariant-loop-i
invariant-loop-i l = (area : List ℕ) → length area ≡ RECORD_LEN * l.from → AreRead l.epoch l.from area l.initial.entries.items → AreRead l.epoch (l.from + l.i) (area ++ l.buffer) l.entries.items
