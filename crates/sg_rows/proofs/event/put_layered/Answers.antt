use Rattle.std.proofs.Common.{◌∙◌}
use Rattle.json.specs.Print.{escape_byte}
use Rattle.sg_rows.proofs.event.put_layered.Goals as goal

pub returns : goal.returns
unfolding escape_byte
returns g c =
    let id = simp c.id.ensures at c.in_ok-put_number.ensures in
    let layer = simp c.layer.ensures.value at c.in_ok-put_number-2.ensures in
    λ rest. c.in_ok-put_last.ensures rest ∙ (layer _ ∙ id _)
