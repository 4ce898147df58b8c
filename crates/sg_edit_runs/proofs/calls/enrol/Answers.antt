use Rattle.sg_edit_runs.specs.declared.call.Call.TheVariants as call
use Rattle.sg_edit_runs.proofs.KeptLemmas.{limit_enrol}
use Rattle.sg_edit_runs.proofs.LeadLemmas.{leads_enrol, leads_failed}
use Rattle.sg_edit_runs.proofs.calls.enrol.Goals as goal

pub returns-in-Ok-clause-leads : goal.returns-in-Ok-clause-leads
returns-in-Ok-clause-leads g c =
    leads_enrol (g.K.Keeper.view c.args.keeper.now) (g.K.Keeper.view c.enrol.new.keeper) c.args.cms.now c.enrol.new.self c.args.display c.in-Ok.reply
    c.in-Ok.ensures.ran c.enrol.ensures.ordered c.in-Ok.ensures.step c.in-Ok.ensures.rows

pub returns-in-Ok-clause-limit : goal.returns-in-Ok-clause-limit
returns-in-Ok-clause-limit g c = limit_enrol c.args.cms.now c.enrol.new.self c.args.display.0 c.in-Ok.reply c.in-Ok.ensures.step

pub returns-in-Err-clause-leads : goal.returns-in-Err-clause-leads
returns-in-Err-clause-leads g c =
    leads_failed (g.K.Keeper.view c.args.keeper.now) (g.K.Keeper.view c.enrol.new.keeper) c.args.cms.now c.enrol.new.self (call.Enrol c.args.display) c.in-Err.fault
    c.in-Err.ensures.failed c.in-Err.ensures.unchanged c.in-Err.ensures.same
