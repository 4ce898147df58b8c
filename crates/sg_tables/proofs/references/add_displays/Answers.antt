use Rattle.std.proofs.Common.{arith}
use Rattle.std.proofs.lemmas.Grind.{common_steps}
use Rattle.sg_tables.proofs.references.add_displays.Goals as goal

pub loop-display-preserved : goal.loop-display-preserved
loop-display-preserved c = (grind (arith, common_steps), λ all. c.in_ok-add.ensures.short (c.loop-display.invariant.1 all))
