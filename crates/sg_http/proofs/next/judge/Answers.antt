use Rattle.std.proofs.Common.{◌≤◌, ◌∙◌, length, List, ℕ, refl, ap, arith}
use Rattle.std.proofs.lemmas.List.{length-take}
use Rattle.sg_http.specs.Fields.{verb_of, closes}
use Rattle.sg_http.specs.Places.{texts_at, text_at}
use Rattle.sg_http.proofs.JudgeLemmas.{judged_message, key_within}
use Rattle.sg_http.proofs.next.judge.Goals as goal

pub returns : goal.returns
returns c =
    let stream = c.args.stream.now in
    let head = c.args.head.now in
    let parts = c.args.parts.now in
    let texts = texts_at head c.args.fields.now in
    let h = text_at head c.args.fields.now parts in
    let n = c.in-Ok.declared.length in
    let declared = c.in-Ok.ensures in
    let fits : length head ≤ length stream = omega (arith, ap length c.requires.front, length-take (length head) stream) in (
      judged_message stream head h c.verb_of-verb.result (record { from = parts.path.start; to = parts.path.end }) c.in-Ok.declared.key n c.closes.result
          c.requires.front (c.verb_of-verb.ensures ∙ ap verb_of c.of-method.ensures) declared.fault declared.length.0 c.if-stream-used.false
          (c.requires.path.0, omega arith) refl declared.key (c.closes.ensures ∙ ap (λ (m : List ℕ). closes m parts.version texts) c.of-method.ensures),
      ((c.requires.path.0, omega arith), key_within head (length stream) _ c.in-Ok.declared.key fits declared.key, (omega arith, c.if-stream-used.false), omega arith, c.if-stream-used.false),
      λ same. cc,
    )
