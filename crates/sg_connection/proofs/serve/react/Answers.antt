use Rattle.std.proofs.Common.{length, ap, refl, subst, option_map}
use Rattle.sg_http.specs.declared.message.Next.{Next}
use Rattle.sg_http.specs.Messages.{IsNextWithin, Opens, Request, bytes_at, seen}
use Rattle.sg_connection.proofs.TurnLemmas.{broken_turn, message_turn, refused_turn, side_same}
use Rattle.sg_connection.proofs.serve.react.Goals as goal

pub returns-in-Message-clause-turns : goal.returns-in-Message-clause-turns
returns-in-Message-clause-turns g c =
    let s = c.args.inbox.now.stream in
    let is = c.in-Message.is in
    let m : Request = record {
      method = c.in-Message.method;
      target = bytes_at s c.in-Message.target;
      key = option_map (bytes_at s) c.in-Message.key;
      body = bytes_at s c.in-Message.body;
      close = c.in-Message.close;
    } in
    let P : Next → Type 0 = λ n. Opens s (seen s n) in
    let within = subst (IsNextWithin (length s)) is c.requires.within in
    message_turn _ _ _ c.args.inbox.now c.pass.new.self m c.in-Message.used c.in-Message.close c.respond-sent.result
    c.turn_after.result c.turn_after.ensures (c.respond-sent.ensures m c.in-Message.used (ap (seen s) is)) (subst P is c.requires.opens) within.4 within.3 refl c.pass.ensures

pub returns-in-Ok-clause-turns : goal.returns-in-Ok-clause-turns
returns-in-Ok-clause-turns g c =
    let s = c.args.inbox.now.stream in
    let P : Next → Type 0 = λ n. Opens s (seen s n) in
    refused_turn _ _ _ c.args.inbox.now c.in-Refused.status (subst P c.in-Refused.is c.requires.opens)
    c.in-Ok.ensures.ok (side_same _ _ c.in-Ok.ensures.apart.bytes c.in-Ok.ensures.apart.faults) refl

pub returns-in-Err-clause-turns : goal.returns-in-Err-clause-turns
returns-in-Err-clause-turns g c =
    let s = c.args.inbox.now.stream in
    let P : Next → Type 0 = λ n. Opens s (seen s n) in
    let sent = c.in-Err.ensures in
    broken_turn _ _ _ c.args.inbox.now c.in-Refused.status (subst P c.in-Refused.is c.requires.opens)
    sent.err sent.cause.failed (side_same _ _ sent.apart.bytes sent.apart.faults) refl
