use Rattle.std.proofs.Common.{◌∙◌, ap, sym, subst}
use Rattle.sg_base.specs.Rising.{IsRising, IsFirstFrom}
use Rattle.sg_base.proofs.RisingLemmas.{put_over, rising-put}
use Rattle.sg_base.proofs.sorted.Sorted.replace.Goals as goal

pub returns-in-Ok-clause-items : goal.returns-in-Ok-clause-items
returns-in-Ok-clause-items g c =
    let f = c.in-Ok.ensures.found in
    let here = ap (λ v. v.items) c.self.view_is in
    let first = subst (λ k. IsFirstFrom g.T.Ranked.rank k c.args.self.now.items c.in-Ok.index) c.rank.ensures f.1 in
    rw here (sym (put_over _ c.args.element _ _ c.args.element first f.0 (f.2 c.args.element ∙ c.rank.ensures)))

pub invariant_of-self : goal.invariant_of-self
invariant_of-self g c = subst (IsRising g.T.Ranked.rank) (sym (returns-in-Ok-clause-items g c)) (rising-put _ c.args.element _ c.search.ensures.rising)
