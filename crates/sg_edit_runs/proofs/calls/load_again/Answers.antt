use Rattle.std.proofs.Common.{◌∙◌}
use Rattle.sg_edit_runs.proofs.LeadLemmas.{leads_load}
use Rattle.sg_edit_runs.proofs.calls.load_again.Goals as goal

pub returns-in-Ok-clause-leads : goal.returns-in-Ok-clause-leads
returns-in-Ok-clause-leads g c =
    leads_load (g.K.Keeper.view c.args.keeper.now) (g.K.Keeper.view c.load.new.keeper) c.args.cms.now c.in-Ok.loaded c.in-Ok.ensures.ran c.load.ensures.same
    c.in-Ok.ensures.lawful c.in-Ok.ensures.clients (c.in-Ok.ensures.limit ∙ c.requires) c.in-Ok.ensures.rows
