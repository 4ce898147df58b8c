use Rattle.sg_disk.specs.Contents.{Contents}
use Rattle.sg_disk.specs.StandsFor.{Settled}
use Rattle.sg_disk.proofs.Moments.{unchanged_failed}
use Rattle.sg_disk.proofs.Standing.{settled_unchanged}
use Rattle.sg_store.proofs.FreshLemmas.{on_err}
use Rattle.sg_store.proofs.store.Store.read_manifest.Goals as goal

pub returns-in_err-read-clause-settled : goal.returns-in_err-read-clause-settled
returns-in_err-read-clause-settled g c =
    let v = g.D.Disk.view c.args.disk.now in
    let w = g.D.Disk.view c.read.new.self in
    on_err c.from_residual.result ((p : Contents) → Settled v p → Settled w p) (λ p settled.
    settled_unchanged v w p (unchanged_failed v w c.in_err-read.ensures.failed) c.in_err-read.ensures.failed.told settled)
