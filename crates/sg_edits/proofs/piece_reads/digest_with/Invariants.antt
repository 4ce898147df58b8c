use Rattle.std.proofs.Common.{ℕ, List, ◌*◌, take}
use Rattle.md5.specs.Md5.{Holds as Absorbed}
use Rattle.sg_edits.specs.Pieces.{Holds}
use Rattle.sg_keeper.specs.View.{Ran, Same}
use Rattle.sg_edits.proofs.piece_reads.digest_with.Given as goal

-- no call has failed, the rows are as they were, and the pieces up to the index are in the digest
abbrev pub invariant-loop-index : goal.invariant-loop-index
invariant-loop-index g l = record {
  ran : Ran 0 (g.K.Keeper.view l.fn.keeper) (g.K.Keeper.view l.keeper);
  same : Same (g.K.Keeper.view l.fn.keeper) (g.K.Keeper.view l.keeper);
  absorbed : (g.K.Keeper.view l.fn.keeper).told → (stored : List ℕ) → Holds l.media.0 stored l.received (g.K.Keeper.view l.fn.keeper).rows → Absorbed l.hasher (take (l.index * 65536) stored);
}
