use Rattle.std.proofs.Common.{arith}
use Rattle.std.proofs.lemmas.Grind.{common_steps}
use Rattle.sg_own_rows.specs.Own.{addresses}
use Rattle.sg_own_rows.proofs.OwnLemmas.{short_addresses}
use Rattle.sg_own_rows.proofs.own.addresses_of.Goals as goal

pub returns : goal.returns
returns c = c.order.ensures.list (addresses c.args.display.now) (short_addresses c.args.display.now c.requires.short c.requires.named) (grind (arith, common_steps))
