use Rattle.std.proofs.Common.{arith}
use Rattle.std.proofs.lemmas.Grind.{common_steps}
use Rattle.sg_tables.proofs.references.add_groups.Goals as goal

pub loop-group-preserved : goal.loop-group-preserved
loop-group-preserved c = (grind (arith, common_steps), λ all. c.in_ok-add.ensures.short (c.loop-group.invariant.1 all))
