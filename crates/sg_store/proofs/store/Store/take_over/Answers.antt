use Rattle.std.proofs.Common.{None, All, refl, sym, subst}
use Rattle.sg_placing.specs.Placing.{IsPlaced, AreAscending}
use Rattle.sg_store.proofs.DistinctLemmas.{distinct_alone}
use Rattle.sg_store.proofs.store.Store.take_over.Goals as goal

pub invariant_of-self-clause-distinct : goal.invariant_of-self-clause-distinct
invariant_of-self-clause-distinct c =
    distinct_alone c.swap.new.x c.clear.new.self None c.clear.ensures refl (subst AreAscending (sym c.swap.ensures.x_after) c.requires.ascending)

pub invariant_of-self-clause-ascending : goal.invariant_of-self-clause-ascending
invariant_of-self-clause-ascending c = subst AreAscending (sym c.swap.ensures.x_after) c.requires.ascending

pub invariant_of-self-clause-current_placed : goal.invariant_of-self-clause-current_placed
invariant_of-self-clause-current_placed c = subst (All (IsPlaced c.args.self.now.room)) (sym c.swap.ensures.x_after) c.requires.placed
