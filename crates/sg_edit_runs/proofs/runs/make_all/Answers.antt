use Rattle.std.proofs.Common.{◌∙◌, ◌+◌, List, ap, sym, subst, arith}
use Rattle.sg_edit_runs.specs.declared.call.Answer.{Answer}
use Rattle.sg_edit_runs.proofs.RunLemmas.{HasCome, come_more}
use Rattle.sg_edit_runs.proofs.runs.make_all.Goals as goal

pub loop-call-preserved : goal.loop-call-preserved
loop-call-preserved g c =
    let u = g.K.Keeper.view c.args.keeper.now in
    let v = g.K.Keeper.view c.loop-call.keeper in
    let w = g.K.Keeper.view c.make-answer.new.keeper in
    let come = come_more c.args.calls.now c.loop-call.call-index c.call-item.result c.loop-call.answers.items c.make-answer.result u v w c.args.cms.now c.loop-call.cms c.make-answer.new.cms
    (omega arith) c.call-item.is c.loop-call.invariant.come c.make-answer.ensures.leads c.make-answer.ensures.tells c.make-answer.ensures.limit in
    let room = c.loop-call.invariant.room in
    let more = c.push_within.ensures.capacity in
    record {
      come = subst (λ (l : List Answer). HasCome c.args.calls.now (c.loop-call.call-index + 1) l (g.K.Keeper.view c.args.keeper.now) (g.K.Keeper.view c.make-answer.new.keeper) c.args.cms.now c.make-answer.new.cms) (sym c.push_within.ensures.items) come;
      len = c.push_within.ensures.len ∙ ap (λ n. n + 1) c.loop-call.invariant.len;
      room = omega (arith, room, more);
    }
