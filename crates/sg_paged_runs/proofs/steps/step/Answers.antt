use Rattle.std.proofs.Common.{OnOk, sym, subst}
use Rattle.sg_paged_runs.specs.Stage.{Stage, IsAt}
use Rattle.sg_paged_runs.specs.Steps.{Step}
use Rattle.sg_paged_runs.specs.declared.call.Call.{Call}
use Rattle.sg_paged_runs.proofs.StepLemmas.{on_ok, begin_at}
use Rattle.sg_paged_runs.proofs.steps.step.Goals as goal

pub returns-in-Begin-clause-stepped : goal.returns-in-Begin-clause-stepped
returns-in-Begin-clause-stepped g c =
    let v = g.D.Disk.view c.args.disk.now in
    let s = c.args.store.now in
    let t = c.begin.new.store in
    subst (λ (call : Call). OnOk c.begin.result ((old : Stage) → IsAt v s old → (new : Stage) × Step old call new × IsAt v t new)) (sym c.in-Begin.is) (on_ok c.begin.result _ _ (begin_at v s t c.in-Begin.file) c.begin.ensures.stepped)
