use Rattle.std.proofs.Common.{◌*◌}
use Rattle.sg_store.proofs.FreshLemmas.{Cleared}
use Rattle.sg_store.proofs.fresh.clear_journal.Given as goal

abbrev pub invariant-loop-piece : goal.invariant-loop-piece
invariant-loop-piece g l = Cleared (16384 * l.piece) (g.D.Disk.view l.fn.disk) (g.D.Disk.view l.disk)
