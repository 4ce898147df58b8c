-- Starts by the hour: the last day cuts off, and division gives the greatest.
use Rattle.std.proofs.Common.{◌≡◌, ℕ, ◌+◌, ◌-◌, ◌*◌, ◌/◌, ◌%◌, ◌<◌, ◌≤◌, min, true, nat_le, ◌==◌, Option, Some, None, refl, arith}
use Rattle.std.proofs.lemmas.Bool.{and_parts, and_from, eqb-true, eq-eqb, leb-true, le-leb}
use Rattle.sg_base.specs.declared.limits.TheConstants.{HOUR, DAY, LAST_SECOND}
use Rattle.sg_base.specs.Repeat.{RepeatRow}
use Rattle.sg_calendar.specs.Dates.{is_until, is_hour, is_hour_start, is_repeat_date, is_day_start}
use Rattle.sg_calendar.specs.declared.civil.TheConstants.{LAST_ASKED}
use Rattle.sg_calendar.specs.declared.starts.TheConstants.{END}
use Rattle.sg_calendar.specs.Nearest.{IsGreatest, IsLeast}
use Rattle.sg_calendar.proofs.NearestLemmas.{step_latest}

-- the last second up to t on a day that isn't after the last one
abbrev pub IsCut : Option ℕ → ℕ → ℕ → Type 0
IsCut None t cut = cut ≡ t
IsCut (Some last) t cut = cut ≡ min t (last * DAY + LAST_SECOND)

cut_down : (until : Option ℕ) (t cut s : ℕ) → IsCut until t cut → s ≤ cut → (s ≤ t) × (is_until until (s / DAY) ≡ true)
cut_down None t cut s e h = (omega arith, refl)
cut_down (Some last) t cut s e h =
    let day : s / DAY ≤ last = omega arith in
    (omega arith, le-leb _ _ day)

cut_up : (until : Option ℕ) (t cut s : ℕ) → IsCut until t cut → s ≤ t → is_until until (s / DAY) ≡ true → s ≤ cut
cut_up None t cut s e h u = omega arith
cut_up (Some last) t cut s e h u =
    let day = leb-true (s / DAY) last u in
    omega arith

hour-is : (n from s : ℕ) → is_hour n from s ≡ true → (from ≤ s) × ((s - from) % (HOUR * n) ≡ 0)
hour-is n from s h =
    let a = and_parts (nat_le from s) ((s - from) % (HOUR * n) == 0) h in
    (leb-true _ _ a.0, eqb-true _ _ a.1)

-- by the hour: the greatest start
module _ (r : RepeatRow) (from : ℕ) (some : 0 < r.every) where
  hour_up : (s : ℕ) → from ≤ s → (s - from) % (HOUR * r.every) ≡ 0 → is_hour r.every from s ≡ true
  hour_up s h k = and_from _ _ (le-leb _ _ h) (eq-eqb _ _ k)

  hour_parts : (s : ℕ) → is_hour_start r from s ≡ true → (is_until r.until (s / DAY) ≡ true) × (is_hour r.every from s ≡ true)
  hour_parts s h = and_parts (is_until r.until (s / DAY)) (is_hour r.every from s) h

  pub hour_latest : (t cut : ℕ) → from ≤ cut → IsCut r.until t cut → IsGreatest (is_hour_start r from) t (from + (cut - from) / (HOUR * r.every) * (HOUR * r.every))
  hour_latest t cut order e =
      let step = step_latest (is_hour r.every from) (HOUR * r.every) from (omega arith) (hour-is r.every from) hour_up cut order in
      let within = cut_down r.until t cut _ e step.within in
      record {
        is = and_from _ _ within.1 step.is;
        within = within.0;
        greatest = λ s q le.
            let parts = hour_parts s q in
            step.greatest s parts.1 (cut_up r.until t cut s e le parts.0);
      }

-- the next date, at the base's time of day
pub day_next : (r : RepeatRow) (from first d : ℕ) → IsLeast (is_repeat_date r (from / DAY)) ((first + (DAY - 1 - from % DAY)) / DAY) LAST_ASKED d → IsLeast (is_day_start r from) first END (d * DAY + from % DAY)
day_next r from first d h =
    let day : (d * DAY + from % DAY) / DAY ≡ d = omega arith in
    let time : (d * DAY + from % DAY) % DAY ≡ from % DAY = omega arith in
    record {
      is = and_from _ _ (rw day h.is) (eq-eqb _ _ time);
      from = omega (arith, h.from);
      below = omega (arith, h.below);
      least = λ s q after.
          let parts = and_parts (is_repeat_date r (from / DAY) (s / DAY)) (s % DAY == from % DAY) q in
          let same : s % DAY ≡ from % DAY = eqb-true _ _ parts.1 in
          let later : (first + (DAY - 1 - from % DAY)) / DAY ≤ s / DAY = omega arith in
          omega (arith, h.least (s / DAY) parts.0 later);
    }
