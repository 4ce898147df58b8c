use Rattle.std.proofs.Common.{◌≡◌, ◌≤◌, length}
use Rattle.std.specs.Vec.Iter.{into_iter_items, into_iter_len}
use Rattle.sg_keeper.specs.Changes.{applied}
use Rattle.sg_keeper.specs.Map.{rows_in}
use Rattle.sg_keeper.proofs.MapLemmas.{CommitsTo}
use Rattle.sg_keeper.proofs.map.commit.Given as goal

abbrev pub invariant-loop-change : goal.invariant-loop-change
invariant-loop-change l = CommitsTo (applied l.fn.changes.items (rows_in l.fn.entries.items)) (into_iter_items l.rest) l.entries

abbrev pub decreases-loop-change : goal.decreases-loop-change
decreases-loop-change l = into_iter_len l.rest
