use Rattle.sg_store_runs.specs.declared.call.Call.TheVariants.{Open}
use Rattle.sg_store_runs.proofs.StepLemmas.{unchanged_moments, opens}
use Rattle.sg_store_runs.proofs.steps.open_again.Goals as goal

pub returns-clause-any_moment : goal.returns-clause-any_moment
returns-clause-any_moment g c old at = unchanged_moments (g.D.Disk.view c.args.disk.now) (g.D.Disk.view c.open.new.disk) c.args.store.now old Open at c.open.ensures.any_moment

pub returns-clause-stepped : goal.returns-clause-stepped
returns-clause-stepped g c old at =
    opens (g.D.Disk.view c.args.disk.now) (g.D.Disk.view c.open.new.disk) c.args.store.now c.in_ok-store.field-0 old (c.in_ok-store.ensures.ready old.contents) c.in_ok-store.ensures.sealed c.in_ok-store.ensures.idle at
