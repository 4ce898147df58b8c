use Rattle.std.proofs.Common.{sym, ap, ◌∙◌, arith, ◌+◌}
use Rattle.serde_json.specs.Data.{Items}
use Rattle.sg_rows.specs.Written.{items_before}
use Rattle.sg_rows.proofs.WrittenLemmas.{days_left, days_next}
use Rattle.sg_rows.proofs.repeat.put_days.Goals as goal

pub loop-weekday-preserved : goal.loop-weekday-preserved
loop-weekday-preserved g c = λ rest.
    let next = days_next c.args.days c.loop-weekday.weekday (omega arith) (omega arith) in
    c.in_ok-later.ensures (days_left c.args.days (c.loop-weekday.weekday + 1)) rest
    ∙ ap (λ (ds : Items). g.O.TextOut.after c.loop-weekday.out (items_before c.loop-weekday.later ds rest)) (sym next)
    ∙ c.loop-weekday.invariant rest
