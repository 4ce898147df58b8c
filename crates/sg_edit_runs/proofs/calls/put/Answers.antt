use Rattle.sg_edit_runs.specs.declared.call.Call.TheVariants as call
use Rattle.sg_edit_runs.proofs.LeadLemmas.{leads_failed, leads_put}
use Rattle.sg_edit_runs.proofs.calls.put.Goals as goal

pub returns-in-Ok-clause-leads : goal.returns-in-Ok-clause-leads
returns-in-Ok-clause-leads g c =
    leads_put (g.K.Keeper.view c.args.keeper.now) (g.K.Keeper.view c.put_piece.new.keeper) c.args.cms.now c.put_piece.new.self c.args.media c.args.offset c.args.bytes.now c.in-Ok.reply
    c.in-Ok.ensures.ran c.put_piece.ensures.ordered c.put_piece.ensures.others c.in-Ok.ensures.put

pub returns-in-Err-clause-leads : goal.returns-in-Err-clause-leads
returns-in-Err-clause-leads g c =
    leads_failed (g.K.Keeper.view c.args.keeper.now) (g.K.Keeper.view c.put_piece.new.keeper) c.args.cms.now c.put_piece.new.self (call.Piece c.args.media c.args.offset c.args.bytes.now) c.in-Err.fault
    c.in-Err.ensures.failed c.in-Err.ensures.unchanged c.in-Err.ensures.same
