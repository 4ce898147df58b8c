use Rattle.sg_api.proofs.steps.answer_asked.Goals as goal

pub returns-in-Report-clause-answered : goal.returns-in-Report-clause-answered
returns-in-Report-clause-answered g c = rw c.in-Report.is (c.report.ensures.answered c.args.cms.now c.args.body.now)
