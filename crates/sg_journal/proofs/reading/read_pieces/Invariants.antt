use Rattle.std.proofs.Common.{◌≡◌, ℕ, ◌*◌, List, length}
use Rattle.sg_disk.specs.View.{range}
use Rattle.sg_disk.specs.Runs.{Quiet}
use Rattle.sg_disk.specs.declared.places.TheConstants.{JOURNAL}
use Rattle.sg_journal.specs.declared.reading.TheConstants.{PIECE_LEN, PIECE_RECORDS}
use Rattle.sg_journal.specs.Entries.{AreRead}
use Rattle.sg_journal.proofs.reading.read_pieces.Given as goal

abbrev pub invariant-loop-piece : goal.invariant-loop-piece
invariant-loop-piece g l = record {
  long : length l.buffer ≡ PIECE_LEN;
  quiet : Quiet l.piece (g.D.Disk.view l.initial.disk) (g.D.Disk.view l.disk);
  read : (area : List ℕ) × ((g.D.Disk.view l.initial.disk).told → area ≡ range (g.D.Disk.view l.initial.disk).bytes JOURNAL (PIECE_LEN * l.piece)) × (length area ≡ PIECE_LEN * l.piece) × AreRead l.epoch (PIECE_RECORDS * l.piece) area l.entries.items;
}
