use Rattle.std.proofs.Common.{◌*◌}
use Rattle.sg_format.proofs.FormatLemmas.{Cleared}
use Rattle.sg_format.proofs.formatting.clear_area.Given as goal

abbrev pub invariant-loop-piece : goal.invariant-loop-piece
invariant-loop-piece g l = Cleared l.place (16384 * l.pieces) (16384 * l.piece) (g.D.Disk.view l.fn.disk) (g.D.Disk.view l.disk)
