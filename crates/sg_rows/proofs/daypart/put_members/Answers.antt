use Rattle.std.proofs.Common.{◌∙◌}
use Rattle.json.specs.Print.{escape_byte}
use Rattle.sg_rows.proofs.daypart.put_members.Goals as goal

pub returns : goal.returns
unfolding escape_byte
returns g c =
    let until = simp c.window-window.ensures.value at c.in_ok-put_number.ensures in
    let list = simp c.exceptions.ensures.value at c.in_ok-put_list.ensures in
    let id = simp c.id.ensures at c.in_ok-put_number-2.ensures in
    let from = simp c.window-window.ensures.value at c.in_ok-put_number-3.ensures in
    λ rest. c.in_ok-put.ensures rest ∙ (from _ ∙ (id _ ∙ (list _ ∙ until _)))
