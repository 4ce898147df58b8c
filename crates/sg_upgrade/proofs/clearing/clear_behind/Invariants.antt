use Rattle.std.proofs.Common.{◌+◌, ◌*◌}
use Rattle.sg_disk.specs.declared.places.TheConstants.{DATA}
use Rattle.sg_upgrade.proofs.ClearLemmas.{Cleared}
use Rattle.sg_upgrade.proofs.clearing.clear_behind.Given as goal

abbrev pub invariant-loop-piece : goal.invariant-loop-piece
invariant-loop-piece g l = Cleared (DATA + l.room) (16384 * l.piece) (g.D.Disk.view l.fn.disk) (g.D.Disk.view l.disk)
