use Rattle.std.proofs.Common.{◌++◌, Option, sym, subst}
use Rattle.sg_placing.specs.Placing.{AreDistinct}
use Rattle.sg_store.specs.Halves.{half_files}
use Rattle.sg_store.specs.declared.store.Half.{Half}
use Rattle.sg_store.proofs.store.Store.take_in.Goals as goal

pub invariant_of-self-clause-distinct : goal.invariant_of-self-clause-distinct
invariant_of-self-clause-distinct c = let s = c.args.self.now in subst (λ (h : Option Half). AreDistinct (s.current ++ s.staged ++ half_files h)) (sym c.in-Some.ensures.value) s.distinct
