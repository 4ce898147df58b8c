use Rattle.std.proofs.Common.{◌++◌, ap, sym, ◌∙◌, List, refl}
use Rattle.sg_voice.specs.declared.play.Play.{Play}
use Rattle.sg_voice.proofs.WithinLemmas.{within_none}
use Rattle.sg_voice.proofs.rounds.offer.Goals as goal

pub returns-then-room-eq0-clause-items : goal.returns-then-room-eq0-clause-items
returns-then-room-eq0-clause-items c = λ rest. ap (λ (q : List Play). c.args.plays.now.items ++ q) (within_none 0 _ refl ∙ sym (within_none c.args.room _ c.if-room-eq0.true))
