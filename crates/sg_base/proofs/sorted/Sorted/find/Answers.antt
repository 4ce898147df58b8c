use Rattle.std.proofs.Common.{◌∙◌, ap, sym, Some}
use Rattle.sg_base.proofs.RisingLemmas.{found_at}
use Rattle.sg_base.proofs.sorted.Sorted.find.Goals as goal

pub returns-in-Ok-clause-element : goal.returns-in-Ok-clause-element
returns-in-Ok-clause-element g c =
    let f = c.in-Ok.ensures.found in
    let x = c.index.result.now in
    let here = ap (λ v. v.items) c.self.view_is in
    ap Some c.index.ensures ∙ rw here (sym (found_at _ _ _ _ x f.1 f.0 (f.2 x)))
