use Rattle.std.proofs.Common.{◌∙◌}
use Rattle.json.specs.Print.{escape_byte}
use Rattle.sg_rows.proofs.daypart.put_dated.Goals as goal

pub returns : goal.returns
unfolding escape_byte
returns g c =
    let dates = simp c.dates.ensures.value at c.in_ok-put_list.ensures in
    λ rest. c.in_ok-put_members.ensures rest ∙ dates _
