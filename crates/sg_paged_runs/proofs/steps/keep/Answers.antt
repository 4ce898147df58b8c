use Rattle.sg_paged_runs.proofs.StepLemmas.{keeps}
use Rattle.sg_paged_runs.proofs.steps.keep.Goals as goal

pub returns-clause-stepped : goal.returns-clause-stepped
returns-clause-stepped c bytes old shows =
    keeps c.args.store.now c.stage_keep.new.self bytes old c.args.files.now c.stage_keep.ensures.sealed c.stage_keep.ensures.kept c.stage_keep.ensures.given_up c.stage_keep.ensures.either c.stage_keep.ensures.snapshot (c.stage_keep.ensures.staged bytes) shows
