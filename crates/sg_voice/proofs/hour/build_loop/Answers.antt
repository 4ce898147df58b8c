use Rattle.std.proofs.Common.{List, subst, sym}
use Rattle.sg_voice.specs.declared.play.Slot.{Slot}
use Rattle.sg_voice.specs.Hour.{Tiles}
use Rattle.sg_voice.proofs.WeightLemmas.{count_is_least}
use Rattle.sg_voice.proofs.TileLemmas.{slots_tile}
use Rattle.sg_voice.proofs.ExactLemmas.{exact_since}
use Rattle.sg_voice.proofs.LawLemmas.{law_since}
use Rattle.sg_voice.proofs.hour.build_loop.Goals as goal

pub returns-clause-tiles : goal.returns-clause-tiles
returns-clause-tiles c = subst (λ (ss : List Slot). Tiles 0 ss) (sym c.build.ensures.items) (slots_tile c.args.normal.now c.args.interrupts.now c.requires.some c.requires.normal c.requires.interrupts)

pub returns-clause-least : goal.returns-clause-least
returns-clause-least c = count_is_least c.args.normal.now _ c.requires.some c.requires.normal

pub returns-clause-exact : goal.returns-clause-exact
returns-clause-exact c = λ s. exact_since c.args.normal.now c.args.interrupts.now c.build.new.slots.items s c.build.ensures.items c.requires.some c.requires.normal

pub returns-clause-law : goal.returns-clause-law
returns-clause-law c = λ less. law_since c.args.normal.now c.args.interrupts.now c.build.new.slots.items c.build.ensures.items c.requires.some c.requires.normal c.requires.interrupts less
