use Rattle.std.proofs.Common.{arith}
use Rattle.std.proofs.lemmas.Grind.{common_steps}
use Rattle.sg_tables.proofs.references.add_media.Goals as goal

pub loop-region-preserved : goal.loop-region-preserved
loop-region-preserved c = (grind (arith, common_steps), λ all. c.in_ok-add_media_of.ensures.short (c.loop-region.invariant.1 all))
