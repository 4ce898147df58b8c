use Rattle.sg_events.proofs.QuietLemmas.{same_window, quiet_runs, quiet_windows, quiet_custom, quiet_named}
use Rattle.sg_events.proofs.quiet.is_quiet.Goals as goal

pub returns-then-is_by_day : goal.returns-then-is_by_day
returns-then-is_by_day c = λ yes.
    quiet_custom _ _ _ _ _ _ _ _ c.in-Custom.ensures.value c.repeat.ensures.value
    (quiet_runs _ _ _ _ _ _ (c.is_by_day.ensures c.if-is_by_day.true) (c.is_apart.ensures yes))

pub returns-then-is_same_each_day : goal.returns-then-is_same_each_day
returns-then-is_same_each_day c = λ yes.
    let apart = c.is_window_apart.ensures.apart yes in
    let same = c.is_same_each_day.ensures in
    let told = c.if-is_same_each_day.true in
    rw c.in-Some.is (quiet_named _ _ _ _ _ _ _ c.in-Named.ensures.value
    (quiet_windows _ _ _ c.in-Some.daypart.now _ _ c.is_window_apart.ensures.valid (λ date. same_window c.in-Some.daypart.now date (same.exceptions told) (same.dates told)) apart.0 apart.1 apart.2))
