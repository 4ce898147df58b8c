use Rattle.std.proofs.Common.{rules}
use Rattle.std.proofs.lemmas.Int.{to_z-of_z}
use mir.Syntax.{w32}
use mir.Val.{SFits}
use Rattle.json.specs.Print.{escape_byte}
use Rattle.sg_rows.proofs.zone.put_zone.Goals as goal

pub returns-in_ok-put_minutes-in-Offset : goal.returns-in_ok-put_minutes-in-Offset
unfolding escape_byte
returns-in_ok-put_minutes-in-Offset g c =
    let fits : SFits w32 c.in-Offset.minutes = search rules in
    let minutes = simp (to_z-of_z w32 c.in-Offset.minutes fits) at c.in_ok-put_minutes-in-Offset.ensures in
    rw c.in-Offset.is (search rules)
