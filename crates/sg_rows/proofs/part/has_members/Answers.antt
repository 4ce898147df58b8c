use Rattle.std.proofs.Common.{refl}
use Rattle.sg_rows.proofs.PartLemmas.{counted}
use Rattle.sg_rows.proofs.part.has_members.Goals as goal

pub returns-in-Some : goal.returns-in-Some
returns-in-Some c = rw (← c.in-Some.ensures, c.len.ensures.len, counted c.in-Some.members.now.entries) refl
