use Rattle.sg_store.proofs.DistinctLemmas.{distinct_dropped}
use Rattle.sg_store.proofs.store.Store.keep_half.Goals as goal

pub invariant_of-self-clause-distinct : goal.invariant_of-self-clause-distinct
invariant_of-self-clause-distinct c = let s = c.args.self.now in distinct_dropped s.current s.staged s.half s.distinct
