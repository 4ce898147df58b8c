use Rattle.std.proofs.Common.{◌-◌}
use Rattle.std.proofs.lemmas.Result.{err_from_is_err_and}
use Rattle.sg_loading.proofs.RunLemmas.{ran_failed}
use Rattle.sg_loading.proofs.loading.load.Goals as goal

pub returns-in_err-load_kind-clause-failed : goal.returns-in_err-load_kind-clause-failed
returns-in_err-load_kind-clause-failed g c =
    let p = err_from_is_err_and c.from_residual.result c.from_residual.ensures.1 in
    rw (p.1, p.2) (ran_failed (c.loop-kind.kind - 1) (g.K.Keeper.view c.args.keeper.now) (g.K.Keeper.view c.loop-kind.keeper) (g.K.Keeper.view c.load_kind.new.keeper) c.in_err-load_kind.field-0.0 c.loop-kind.invariant.ran c.in_err-load_kind.ensures.failed)
