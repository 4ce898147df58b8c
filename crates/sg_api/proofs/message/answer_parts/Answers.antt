use Rattle.std.proofs.Common.{◌∙◌, sym, option_map}
use Rattle.sg_api.proofs.MessageLemmas.{misrouted_call, misrouted_tellable}
use Rattle.sg_api.proofs.message.answer_parts.Goals as goal

pub returns-in-Err-clause-answered : goal.returns-in-Err-clause-answered
returns-in-Err-clause-answered g c =
    misrouted_call c.args.operator.now c.args.cms.now.rows (option_map (λ k. k.now) c.args.key) c.args.body.now c.args.cms.now
    (g.K.Keeper.view c.args.keeper.now) _ c.in-Err.fault c.misrouted.result (sym c.ask.ensures ∙ c.in-Err.is) c.misrouted.ensures

pub returns-in-Err-clause-tellable : goal.returns-in-Err-clause-tellable
returns-in-Err-clause-tellable g c =
    misrouted_tellable c.args.method c.args.target.now c.in-Err.fault c.misrouted.result (sym c.ask.ensures ∙ c.in-Err.is) c.misrouted.ensures
