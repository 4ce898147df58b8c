use Rattle.std.proofs.Common.{arith}
use Rattle.std.proofs.lemmas.Grind.{common_steps}
use Rattle.sg_tables.proofs.references.add_layouts.Goals as goal

pub loop-layout-preserved : goal.loop-layout-preserved
loop-layout-preserved c = (grind (arith, common_steps), λ all. c.in_ok-add.ensures.short (c.loop-layout.invariant.1 all))
