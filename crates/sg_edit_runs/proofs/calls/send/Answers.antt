use Rattle.sg_edit_runs.specs.declared.call.Call.TheVariants as call
use Rattle.sg_edit_runs.proofs.KeptLemmas.{limit_edit}
use Rattle.sg_edit_runs.proofs.LeadLemmas.{leads_edit, leads_failed}
use Rattle.sg_edit_runs.proofs.calls.send.Goals as goal

pub returns-in-Ok-clause-leads : goal.returns-in-Ok-clause-leads
returns-in-Ok-clause-leads g c =
    leads_edit (g.K.Keeper.view c.args.keeper.now) (g.K.Keeper.view c.edit.new.keeper) c.args.cms.now c.edit.new.self c.args.client c.args.seq c.args.edit.now c.in-Ok.reply
    c.requires.client c.ranges.seq.fits c.requires.edit c.in-Ok.ensures.ran c.edit.ensures.ordered c.in-Ok.ensures.step c.in-Ok.ensures.rows

pub returns-in-Ok-clause-limit : goal.returns-in-Ok-clause-limit
returns-in-Ok-clause-limit g c = limit_edit c.args.cms.now c.edit.new.self c.args.client c.args.seq c.args.edit.now c.in-Ok.reply c.in-Ok.ensures.step

pub returns-in-Err-clause-leads : goal.returns-in-Err-clause-leads
returns-in-Err-clause-leads g c =
    leads_failed (g.K.Keeper.view c.args.keeper.now) (g.K.Keeper.view c.edit.new.keeper) c.args.cms.now c.edit.new.self (call.Edit c.args.client c.args.seq c.args.edit.now) c.in-Err.fault
    c.in-Err.ensures.failed c.in-Err.ensures.unchanged c.in-Err.ensures.same
