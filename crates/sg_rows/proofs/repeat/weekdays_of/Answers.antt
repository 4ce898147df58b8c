use Rattle.std.proofs.Common.{◌≡◌, ◌++◌, [], ◌∷◌, sym, ◌∙◌, arith, rules}
use Rattle.std.proofs.lemmas.Grind.{common_steps}
use Rattle.sg_rows.proofs.DayLemmas.{day_put, day_left, week_done}
use Rattle.sg_rows.proofs.repeat.weekdays_of.Goals as goal
use Rattle.sg_rows.proofs.repeat.weekdays_of.Goals.{then-is_chosen+in_ok-push, else-is_chosen}

pub loop-weekday-preserved : goal.loop-weekday-preserved
loop-weekday-preserved c = elim c.if-is_chosen.branch [
  | then-is_chosen+in_ok-push w ↦
      let put = day_put c.args.days c.loop-weekday.weekday _ _ (omega arith) (omega arith) (omega arith) (sym c.is_chosen.ensures ∙ w.if-is_chosen.true) c.loop-weekday.invariant in
      let is : c.if-is_chosen.chosen.items ≡ c.loop-weekday.chosen.items ++ c.loop-weekday.weekday ∷ [] = first_of (search rules, grind (arith, common_steps)) in
      is ∙ put
  | else-is_chosen w ↦
      rw w.chosen-is (day_left c.args.days c.loop-weekday.weekday _ _ (omega arith) (omega arith) (omega arith) (sym c.is_chosen.ensures ∙ w.if-is_chosen.false) c.loop-weekday.invariant)
]

pub returns : goal.returns
returns c = week_done c.args.days c.loop-weekday.weekday c.loop-weekday.chosen.items (omega arith) c.loop-weekday.invariant
