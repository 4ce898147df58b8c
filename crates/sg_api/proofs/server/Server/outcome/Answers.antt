use Rattle.std.proofs.Common.{◌∙◌, ap, refl, subst, sym, option_map}
use Rattle.sg_api.specs.Rule.{AnsweredBy}
use Rattle.sg_api.proofs.MessageLemmas.{answered_parts, one_request}
use Rattle.sg_http.specs.Messages.{Request, bytes_at, seen}
use Rattle.sg_api.proofs.server.Server.outcome.Goals as goal

pub returns-in-Message-clause-answered : goal.returns-in-Message-clause-answered
returns-in-Message-clause-answered g c = λ m used is.
    let s = c.args.stream.now in
    let seen_here : Request = record {
      method = c.in-Message.method;
      target = bytes_at s c.in-Message.target;
      key = option_map (bytes_at s) c.in-Message.key;
      body = bytes_at s c.in-Message.body;
      close = c.in-Message.close;
    } in
    let same = one_request seen_here m c.in-Message.used used (sym (ap (seen s) c.in-Message.is) ∙ is) in
    subst (λ (x : Request). AnsweredBy g.K.Keeper.view c.args.self.now c.args.keeper.now x c.answer_parts.result
    (record { cms = c.answer_parts.new.cms; gate = record { operator = c.args.self.now.gate.operator } }) c.answer_parts.new.keeper) same
    (answered_parts g.K.Keeper.view c.args.self.now _ c.args.keeper.now c.answer_parts.new.keeper c.answer_parts.result seen_here _ _ _ _
    refl c.as_slice.ensures c.part.ensures c.part_if.ensures c.part-in-Message.ensures c.answer_parts.ensures.answered)
