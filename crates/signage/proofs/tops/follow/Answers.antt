use Rattle.sg_endings.proofs.Endings.{retold}
use Rattle.signage.proofs.tops.follow.Goals as goal

pub returns-in-Serve-clause-run : goal.returns-in-Serve-clause-run
returns-in-Serve-clause-run g c =
    let served = rw c.as_slice-in-Serve.ensures at c.serve.ensures in
    rw c.in-Serve.is (retold _ _ c.serve.result _ _ _ _ (λ status text is. is) served)
