-- What is apart from some seconds by the time of day is apart from them on each date.
use Rattle.std.proofs.Common.{◌≡◌, ℕ, ◌+◌, ◌-◌, ◌*◌, ◌/◌, ◌%◌, ◌<◌, Bool, true, false, [], Option, Some, None, inl, inr, refl, sym, ◌∙◌, subst, arith, ℤ, pos, negsuc, ◌+ℤ◌, ◌*ℤ◌, ◌<ℤ◌, ◌≤ℤ◌, ◌≢◌, ◌==◌, ◌&&◌, ap}
use Rattle.std.proofs.lemmas.Bool.{and_parts, eqb-true, false≢true}
use Rattle.std.proofs.lemmas.Int.{by_lt_z}
use Rattle.jiff_core.proofs.SignedLemmas.{signed_arith}
use Rattle.sg_base.specs.declared.limits.TheConstants.{DAY}
use Rattle.sg_base.specs.declared.daypart.Window.{Window}
use Rattle.sg_base.specs.declared.event.When.{When}
use Rattle.sg_base.specs.declared.event.When.TheVariants.{Custom, Named}
use Rattle.sg_base.specs.declared.ids.DaypartId.{DaypartId}
use Rattle.sg_base.specs.declared.repeat.Unit.{Unit}
use Rattle.sg_base.specs.declared.repeat.Unit.TheVariants as unit
use Rattle.sg_base.specs.Daypart.{DaypartRow, IsDaypart}
use Rattle.sg_base.specs.Repeat.{RepeatRow}
use Rattle.sg_calendar.specs.Dates.{is_start, is_unit_start, is_repeat_date}
use Rattle.sg_calendar.specs.Windows.{window_at, end_of, opens, closes}
use Rattle.sg_events.specs.Active.{IsOpenOn, is_active_at}
use Rattle.sg_events.specs.Edges.{IsWindowEdge}
use Rattle.sg_events.specs.Quiet.{IsApart, IsQuiet}
use Rattle.sg_events.proofs.ActiveLemmas.{running_decides, open_decides}

-- so many seconds after the midnight of a date
module _ (day t x : ℤ) (start seconds date : ℕ) (few : start < DAY) (from : (day *ℤ pos DAY) ≤ℤ t) (till : t <ℤ ((day +ℤ pos 1) *ℤ pos DAY)) (later : t <ℤ x) where
  -- it begins later on t's day, and that of the day before is over
  pub apart_later : x ≤ℤ (day *ℤ pos DAY +ℤ pos start) → ((day *ℤ pos DAY +ℤ pos start) +ℤ pos seconds) ≤ℤ (t +ℤ pos DAY) → IsApart (date * DAY + start) seconds t x
  apart_later begins over =
      by_lt_z (pos date) day
      (λ lt. record {
        off = λ begun on. absurd (omega (arith, signed_arith));
        begin = λ after. absurd (omega (arith, signed_arith));
        over = λ after. absurd (omega (arith, signed_arith));
      })
      (λ ge. record {
        off = λ begun on. absurd (omega (arith, signed_arith));
        begin = λ after. omega (arith, signed_arith);
        over = λ after. omega (arith, signed_arith);
      })

  -- it is over on t's day, and that of the next day begins later
  pub apart_over : ((day *ℤ pos DAY +ℤ pos start) +ℤ pos seconds) ≤ℤ t → x ≤ℤ ((day *ℤ pos DAY +ℤ pos start) +ℤ pos DAY) → IsApart (date * DAY + start) seconds t x
  apart_over over begins =
      by_lt_z day (pos date)
      (λ lt. record {
        off = λ begun on. absurd (omega (arith, signed_arith));
        begin = λ after. omega (arith, signed_arith);
        over = λ after. omega (arith, signed_arith);
      })
      (λ ge. record {
        off = λ begun on. absurd (omega (arith, signed_arith));
        begin = λ after. absurd (omega (arith, signed_arith));
        over = λ after. absurd (omega (arith, signed_arith));
      })

-- ---- Times of an event's own

not_on : (b : Bool) → (b ≡ true → ⊥) → b ≡ false
not_on true h = absurd (h refl)
not_on false h = refl

-- each start but that of an hourly repeat is at the time of day of the first one
day_start : (r : RepeatRow) (from s : ℕ) → (is_repeat_date r (from / DAY) (s / DAY) && (s % DAY == from % DAY)) ≡ true → s % DAY ≡ from % DAY
day_start r from s h = eqb-true (s % DAY) (from % DAY) (and_parts (is_repeat_date r (from / DAY) (s / DAY)) (s % DAY == from % DAY) h).1

unit_start : (u : Unit) (r : RepeatRow) (from s : ℕ) → u ≢ unit.Hour → is_unit_start u r from s ≡ true → s % DAY ≡ from % DAY
unit_start unit.Hour r from s other h = absurd (other refl)
unit_start unit.Day r from s other h = day_start r from s h
unit_start unit.Week r from s other h = day_start r from s h
unit_start unit.Month r from s other h = day_start r from s h
unit_start unit.MonthWeekday r from s other h = day_start r from s h
unit_start unit.Year r from s other h = day_start r from s h

pub some_start : (r : RepeatRow) → r.unit ≢ unit.Hour → (from s : ℕ) → is_start (Some r) from s ≡ true → s % DAY ≡ from % DAY
some_start r other from s h = unit_start r.unit r from s other h

pub none_start : (from s : ℕ) → is_start None from s ≡ true → s % DAY ≡ from % DAY
none_start from s h = ap (λ (n : ℕ). n % DAY) (eqb-true s from h)

module _ (from to : ℕ) (r : Option RepeatRow) (d : Option DaypartRow) (t x : ℤ) (by_day : (from s : ℕ) → is_start r from s ≡ true → s % DAY ≡ from % DAY) (apart : (date : ℕ) → IsApart (date * DAY + from % DAY) (to - from) t x) where
  of_start : (s : ℕ) → is_start r from s ≡ true → IsApart s (to - from) t x
  of_start s is =
      let whole : s / DAY * DAY + from % DAY ≡ s = omega (arith, by_day from s is) in
      subst (λ (n : ℕ). IsApart n (to - from) t x) whole (apart (s / DAY))

  pub quiet_runs : IsQuiet (Custom from to) r d t x
  quiet_runs = record {
    idle = not_on (is_active_at (Custom from to) r d t) (λ e. let h = (running_decides from to r d t).0 e in (of_start h.start h.is).off h.begun h.not_over);
    free = λ y edge after.
        elim edge [
          | inl e ↦ subst (λ (z : ℤ). x ≤ℤ z) (sym e.at) ((of_start e.start e.is).begin (subst (λ (z : ℤ). t <ℤ z) e.at after))
          | inr e ↦ subst (λ (z : ℤ). x ≤ℤ z) (sym e.at) ((of_start e.start e.is).over (subst (λ (z : ℤ). t <ℤ z) e.at after))
        ];
  }

-- ---- Windows

-- a daypart without exceptions has its window on each date
pub same_window : (d : DaypartRow) (date : ℤ) → d.exceptions ≡ [] → d.dates ≡ [] → window_at d date ≡ d.window
same_window d (pos day) none no_dates = rw (none, no_dates) refl
same_window d (negsuc n) none no_dates = rw none refl

module _ (daypart : DaypartId) (base : ℕ) (r : Option RepeatRow) (d : DaypartRow) (t x : ℤ) (valid : IsDaypart d) (same : (date : ℤ) → window_at d date ≡ d.window) (seconds : ℕ) (long : d.window.start + seconds ≡ end_of d.window) (apart : (date : ℕ) → IsApart (date * DAY + d.window.start) seconds t x) where
  starts : (day : ℕ) → (window_at d (pos day)).start ≡ d.window.start
  starts day = ap (λ (w : Window). w.start) (same (pos day))

  ends : (day : ℕ) → end_of (window_at d (pos day)) ≡ d.window.start + seconds
  ends day = ap (λ (w : Window). end_of w) (same (pos day)) ∙ sym long

  opens_at : (day : ℕ) → opens d (pos day) ≡ pos (day * DAY + d.window.start)
  opens_at day = omega (arith, signed_arith, starts day)

  closes_at : (day : ℕ) → closes d (pos day) ≡ pos ((day * DAY + d.window.start) + seconds)
  closes_at day = omega (arith, signed_arith, ends day)

  edge_after : (date y : ℤ) → IsWindowEdge (Named daypart base) r d date y → t <ℤ y → x ≤ℤ y
  edge_after (pos day) y h after =
      elim h.at [
        | inl e ↦ let at = e ∙ opens_at day in subst (λ (z : ℤ). x ≤ℤ z) (sym at) ((apart day).begin (subst (λ (z : ℤ). t <ℤ z) at after))
        | inr e ↦ let at = e ∙ closes_at day in subst (λ (z : ℤ). x ≤ℤ z) (sym at) ((apart day).over (subst (λ (z : ℤ). t <ℤ z) at after))
      ]
  edge_after (negsuc n) y h after = absurd (false≢true h.is)

  not_open : (date : ℤ) → IsOpenOn (Named daypart base) r d t date → ⊥
  not_open (pos day) h = (apart day).off (subst (λ (z : ℤ). z ≤ℤ t) (opens_at day) h.begun) (subst (λ (z : ℤ). t <ℤ z) (closes_at day) h.not_over)
  not_open (negsuc n) h = false≢true h.is

  pub quiet_windows : IsQuiet (Named daypart base) r (Some d) t x
  quiet_windows = record {
    idle = not_on (is_active_at (Named daypart base) r (Some d) t) (λ e. let h = (open_decides daypart base r d t (λ _. valid)).0 e in not_open h.date h.open_on);
    free = λ y edge after. edge_after edge.0 y edge.1 after;
  }

pub quiet_custom : (w : When) (r found : Option RepeatRow) (d : Option DaypartRow) (t x : ℤ) (from to : ℕ) → Custom from to ≡ w → found ≡ r → IsQuiet (Custom from to) found d t x → IsQuiet w r d t x
quiet_custom w r found d t x from to e f h = rw (← e, ← f) h

pub quiet_named : (w : When) (r : Option RepeatRow) (d : DaypartRow) (t x : ℤ) (daypart : DaypartId) (base : ℕ) → Named daypart base ≡ w → IsQuiet (Named daypart base) r (Some d) t x → IsQuiet w r (Some d) t x
quiet_named w r d t x daypart base e h = rw (← e) h
