use Rattle.sg_edit_runs.specs.declared.call.Call.TheVariants as call
use Rattle.sg_edit_runs.proofs.LeadLemmas.{leads_failed, leads_plays}
use Rattle.sg_edit_runs.proofs.calls.play.Goals as goal

pub returns-in-Ok-clause-leads : goal.returns-in-Ok-clause-leads
returns-in-Ok-clause-leads g c =
    leads_plays (g.K.Keeper.view c.args.keeper.now) (g.K.Keeper.view c.plays.new.keeper) c.args.cms.now c.plays.new.self c.args.display c.args.epoch c.args.first c.args.list.now c.in-Ok.reply
    c.in-Ok.ensures.ran c.plays.ensures.ordered c.in-Ok.ensures.step.0 c.in-Ok.ensures.step.1 c.in-Ok.ensures.rows

pub returns-in-Err-clause-leads : goal.returns-in-Err-clause-leads
returns-in-Err-clause-leads g c =
    leads_failed (g.K.Keeper.view c.args.keeper.now) (g.K.Keeper.view c.plays.new.keeper) c.args.cms.now c.plays.new.self (call.Plays c.args.display c.args.epoch c.args.first c.args.list.now) c.in-Err.fault
    c.in-Err.ensures.failed c.in-Err.ensures.unchanged c.in-Err.ensures.same
