use Rattle.std.proofs.Common.{◌≡◌, ℕ, List, false, map}
use Rattle.serde_json.specs.View.{items_of}
use Rattle.sg_rows.specs.Text.{whole, weekdays}
use Rattle.sg_rows.specs.Written.{items_before}
use Rattle.sg_rows.proofs.WrittenLemmas.{days_left}
use Rattle.sg_rows.proofs.repeat.put_days.Given as goal

abbrev pub invariant-loop-weekday : goal.invariant-loop-weekday
invariant-loop-weekday g l = (rest : List ℕ) →
    g.O.TextOut.after l.out (items_before l.later (days_left l.days l.weekday) rest)
    ≡ g.O.TextOut.after l.initial.out (items_before false (items_of (map whole (weekdays l.days))) rest)
