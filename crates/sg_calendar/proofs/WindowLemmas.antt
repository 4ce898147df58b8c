-- A daypart's windows lie in a day, whichever a date has.
use Rattle.std.proofs.Common.{◌≡◌, refl, ℕ, ◌+◌, ◌*◌, ◌<◌, ◌≤◌, Option, Some, None, IfSome, List, [], ◌∷◌, ℤ, eqb, leb, ap, ◌∙◌, pos, negsuc, ◌+ℤ◌, ◌*ℤ◌, arith}
use Rattle.std.proofs.lemmas.Bool.{cond_both, ltb-false}
use Rattle.sg_base.specs.declared.limits.TheConstants.{DAY, LAST_SECOND}
use Rattle.sg_base.specs.declared.daypart.Window.{Window}
use Rattle.sg_base.specs.Daypart.{DaypartRow, IsDaypart, time_fault, window_fault, windows_fault, times_fault, weekdays_fault, dates_fault}
use Rattle.sg_base.specs.Faults.{first_of}
use Rattle.sg_calendar.specs.Civil.{weekday}
use Rattle.sg_calendar.specs.Windows.{exception_of, date_exception, window_or, window_at, end_of, opens, closes}

-- both ends are seconds of a day
pub record IsWindow (w : Window) : Type 0 where
  pub start : w.start ≤ LAST_SECOND
  pub end : w.end ≤ LAST_SECOND

first_none : {F : Type 0} → (a b : Option F) → first_of a b ≡ None → (a ≡ None) × (b ≡ None)
first_none None b h = (refl, h)
first_none (Some f) b h = cc

time_in : (time : ℕ) → time_fault time ≡ None → time ≤ LAST_SECOND
time_in time =
    cond_both _ _ _ (λ x. x ≡ None → time ≤ LAST_SECOND) (λ _ e. cc) (λ f _. ltb-false _ _ f)

window_in : (w : Window) → window_fault w ≡ None → IsWindow w
window_in w h =
    let parts = first_none (time_fault w.start) (time_fault w.end) h in
    record { start = time_in w.start parts.0; end = time_in w.end parts.1 }

exception_in : (es : List (ℕ × Window)) (day : ℕ) → windows_fault es ≡ None → IfSome (exception_of es day) IsWindow
exception_in [] day h = tt
exception_in (e ∷ es) day h =
    let parts = first_none (window_fault e.1) (windows_fault es) h in
    cond_both (eqb e.0 day) _ _ (λ x. IfSome x IsWindow) (λ _. window_in e.1 parts.0) (λ _. exception_in es day parts.1)

either_in : (o : Option Window) (w : Window) → IfSome o IsWindow → IsWindow w → IsWindow (window_or o w)
either_in None w h k = k
either_in (Some e) w h k = h

-- a daypart has no fault in a window
pub record AreWindows (d : DaypartRow) : Type 0 where
  pub usual : window_fault d.window ≡ None
  pub weekdays : windows_fault d.exceptions ≡ None
  pub dates : windows_fault d.dates ≡ None

windows_none : (d : DaypartRow) → IsDaypart d → AreWindows d
windows_none d h =
    let times = times_fault d.window d.exceptions d.dates in
    let rest = first_of (weekdays_fault d.exceptions) (dates_fault d.dates) in
    let a = first_none (window_fault d.window) (first_of (windows_fault d.exceptions) (windows_fault d.dates)) (first_none times rest h.sound).0 in
    let b = first_none (windows_fault d.exceptions) (windows_fault d.dates) a.1 in
    record { usual = a.0; weekdays = b.0; dates = b.1 }

-- the window of a date that has its own lies in a day
date_in : (ds : List (ℕ × Window)) (date : ℤ) → windows_fault ds ≡ None → IfSome (date_exception ds date) IsWindow
date_in ds (pos day) h = exception_in ds day h
date_in ds (negsuc n) h = tt

-- the window of each date lies in a day
pub window_valid : (d : DaypartRow) (date : ℤ) → IsDaypart d → IsWindow (window_at d date)
window_valid d date h =
    let none = windows_none d h in
    let weekday_window = window_or (exception_of d.exceptions (weekday date)) d.window in
    let usual = either_in (exception_of d.exceptions (weekday date)) d.window (exception_in d.exceptions (weekday date) none.weekdays) (window_in d.window none.usual) in
    either_in (date_exception d.dates date) weekday_window (date_in d.dates date none.dates) usual

-- what opens and closes from a date's window
pub opens_at : (d : DaypartRow) (date z : ℤ) (w : Window) → w ≡ window_at d date → z ≡ date *ℤ pos DAY +ℤ pos w.start → z ≡ opens d date
opens_at d date z w e f = f ∙ ap (λ x. date *ℤ pos DAY +ℤ pos x.start) e

pub closes_at : (d : DaypartRow) (date z : ℤ) (w : Window) → w ≡ window_at d date → z ≡ date *ℤ pos DAY +ℤ pos (end_of w) → z ≡ closes d date
closes_at d date z w e f = f ∙ ap (λ x. date *ℤ pos DAY +ℤ pos (end_of x)) e

-- a window is over before the second midnight after its date begins
pub end_bound : (w : Window) → w.end ≤ LAST_SECOND → end_of w < 2 * DAY
end_bound w h =
    let later : w.end + DAY < 2 * DAY = omega arith in
    let soon : w.end < 2 * DAY = omega arith in
    cond_both (leb w.end w.start) (w.end + DAY) w.end (λ x. x < 2 * DAY) (λ _. later) (λ _. soon)
