use Rattle.std.proofs.Common.{◌∙◌, ap, sym, subst}
use Rattle.sg_base.specs.Rising.{IsRising}
use Rattle.sg_base.proofs.RisingLemmas.{without_at, without_missing, rising-without}
use Rattle.sg_base.proofs.sorted.Sorted.remove.Goals as goal

pub returns-in-Ok-clause-items : goal.returns-in-Ok-clause-items
returns-in-Ok-clause-items g c =
    let f = c.in-Ok.ensures.found in
    let x = c.remove.result in
    let here = ap (λ v. v.items) c.self.view_is in
    c.remove.ensures.items ∙ rw here (sym (without_at _ _ _ _ x c.search.ensures.rising f.1 f.0 (f.2 x)))

pub invariant_of-self : goal.invariant_of-self
invariant_of-self g c = subst (IsRising g.T.Ranked.rank) (sym (returns-in-Ok-clause-items g c)) (rising-without _ _ _ c.search.ensures.rising)

pub returns-in_default-clause-items : goal.returns-in_default-clause-items
returns-in_default-clause-items g c = sym (without_missing _ _ _ c.in_default.ensures.missing.1)
