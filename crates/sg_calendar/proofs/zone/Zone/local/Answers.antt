use Rattle.std.proofs.Common.{arith, rules}
use Rattle.jiff_core.proofs.SignedLemmas.{signed_casts}
use Rattle.sg_calendar.proofs.zone.Zone.local.Goals as goal

pub returns-clause-second : goal.returns-clause-second
returns-clause-second c = record { low = search rules; high = search rules }
