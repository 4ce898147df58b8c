use Rattle.std.proofs.Common.{◌∙◌}
use Rattle.json.specs.Print.{escape_byte}
use Rattle.sg_rows.proofs.event.put_last.Goals as goal

pub returns : goal.returns
unfolding escape_byte
returns g c =
    let order = simp c.order.ensures.value at c.in_ok-put_number.ensures in
    let priority = simp c.priority.ensures.value at c.in_ok-put_number-2.ensures in
    let repeat = simp c.repeat.ensures.value at c.in_ok-put_repeat.ensures in
    let share = simp c.share.ensures.value at c.in_ok-put_number-3.ensures in
    let target = simp c.target.ensures.value at c.in_ok-put_target.ensures in
    let when = simp c.when.ensures.value at c.in_ok-put_when.ensures in
    λ rest. c.in_ok-put-4.ensures rest
    ∙ (when _ ∙ (c.in_ok-put-3.ensures _ ∙ (target _ ∙ (c.in_ok-put-2.ensures _ ∙ (share _ ∙ (repeat _ ∙ (c.in_ok-put.ensures _ ∙ (priority _ ∙ order _))))))))
