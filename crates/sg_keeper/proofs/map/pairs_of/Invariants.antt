use Rattle.std.proofs.Common.{◌≡◌, map, take}
use Rattle.sg_keeper.specs.Map.{pair_of}
use Rattle.sg_keeper.proofs.map.pairs_of.Given as goal

abbrev pub invariant-loop-entry : goal.invariant-loop-entry
invariant-loop-entry l = l.pairs.items ≡ map pair_of (take l.entry-index l.entries)
