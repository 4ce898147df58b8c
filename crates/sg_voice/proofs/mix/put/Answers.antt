use Rattle.std.proofs.Common.{◌++◌, ◌∷◌, List, ap, sym, ◌∙◌}
use Rattle.sg_voice.specs.declared.play.Slot.{Slot}
use Rattle.sg_voice.proofs.MixLemmas.{placed_none}
use Rattle.sg_voice.proofs.mix.put.Goals as goal

pub returns-then-at-ge-HOUR-clause-items : goal.returns-then-at-ge-HOUR-clause-items
returns-then-at-ge-HOUR-clause-items c = λ rest. ap (λ (q : List Slot). c.args.slots.now.items ++ q) (placed_none c.args.at rest c.if-at-ge-HOUR.true ∙ sym (placed_none c.args.at (c.args.play ∷ rest) c.if-at-ge-HOUR.true))
