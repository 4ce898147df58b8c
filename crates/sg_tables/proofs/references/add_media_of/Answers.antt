use Rattle.std.proofs.Common.{arith}
use Rattle.std.proofs.lemmas.Grind.{common_steps}
use Rattle.sg_tables.proofs.references.add_media_of.Goals as goal

pub loop-item-preserved : goal.loop-item-preserved
loop-item-preserved c = (grind (arith, common_steps), λ all. c.in_ok-add.ensures.short (c.loop-item.invariant.1 all))
