use Rattle.sg_paged_runs.proofs.StepLemmas.{begins}
use Rattle.sg_paged_runs.proofs.steps.begin.Goals as goal

pub returns-clause-stepped : goal.returns-clause-stepped
returns-clause-stepped c bytes old shows =
    begins c.args.store.now c.stage_begin.new.self bytes old c.args.file.now (c.may_begin.ensures.idle c.if-not-may_begin.false) c.in_ok-stage_begin.ensures.enough c.in_ok-stage_begin.ensures.began c.stage_begin.ensures.sealed c.stage_begin.ensures.snapshot (c.stage_begin.ensures.staged bytes) shows
