-- Dates by unit as facts, the turns of a repeat, and the one date of a day, month or year.
use Rattle.std.proofs.Common.{◌≡◌, ℕ, ◌+◌, ◌-◌, ◌*◌, ◌/◌, ◌%◌, ◌<◌, ◌≤◌, Bool, true, Option, Some, None, ℤ, pos, negsuc, ◌<ℤ◌, ◌≤ℤ◌, nat_le, ◌==◌, ◌&&◌, refl, sym, ap, ◌∙◌, arith, inl, inr, MatchOption}
use Rattle.std.proofs.lemmas.Bool.{cases_lt, and_parts, and_from, eqb-true, eq-eqb, leb-true, le-leb, false≢true}
use Rattle.std.proofs.lemmas.Nat.{le-div, div-add-mod'}
use Rattle.std.proofs.Math.Nat.{mul-mod_left, mul-div_left, mul-le-mul_right}
use Rattle.jiff_core.proofs.SignedLemmas.{signed_arith}
use Rattle.sg_base.specs.declared.limits.TheConstants.{DATE_END}
use Rattle.sg_base.specs.declared.ids.DaypartId.{DaypartId}
use Rattle.sg_base.specs.declared.event.When.TheVariants.{Named}
use Rattle.sg_base.specs.declared.repeat.Unit.{Unit}
use Rattle.sg_base.specs.declared.repeat.Unit.TheVariants.{Hour, Day, Week, Month, MonthWeekday, Year}
use Rattle.sg_base.specs.Repeat.{RepeatRow}
use Rattle.sg_calendar.specs.Civil.{civil, month_of, week_of, weekday}
use Rattle.sg_calendar.specs.Dates.{is_multiple_above, is_chosen, period_of, is_same_day, is_same_weekday, is_anniversary, fits_period, is_unit_date, is_date, is_on_date, IsDateAfter, IsNoDateAfter}
use Rattle.sg_calendar.specs.Nearest.{IsLeast, IsNext, IsOnly}
use Rattle.sg_calendar.specs.Turns.{is_in_period, turn_of, is_in_turn}
use Rattle.sg_calendar.specs.declared.civil.Civil.{Civil}
use Rattle.sg_calendar.specs.declared.civil.TheConstants.{LAST_ASKED}
use Rattle.sg_calendar.proofs.CivilLemmas.{civil-is, civil-year, month_of_mono, year_mono, day_in_month, one_day, short_at}
use Rattle.sg_calendar.proofs.NearestLemmas.{IsTurns}

-- a date by a unit
pub record IsUnitDate (unit : Unit) (n days base day : ℕ) : Type 0 where
  pub above : base ≤ day
  pub fits : fits_period unit days base day ≡ true
  pub multiple : (period_of unit day - period_of unit base) % n ≡ 0

unit-is : (unit : Unit) (n days base day : ℕ) → is_unit_date unit n days base day ≡ true → IsUnitDate unit n days base day
unit-is unit n days base day h =
    let step : Bool = is_multiple_above n (period_of unit base) (period_of unit day) in
    let a = and_parts (nat_le base day) (fits_period unit days base day && step) h in
    let b = and_parts (fits_period unit days base day) step a.1 in
    record { above = leb-true _ _ a.0; fits = b.0; multiple = eqb-true _ _ b.1 }

unit-from : (unit : Unit) (n days base day : ℕ) → IsUnitDate unit n days base day → is_unit_date unit n days base day ≡ true
unit-from unit n days base day h = and_from _ _ (le-leb _ _ h.above) (and_from _ _ h.fits (eq-eqb _ _ h.multiple))

-- a date that fits its period, which is the one with this number
pub record IsInPeriod (unit : Unit) (days base period day : ℕ) : Type 0 where
  pub above : base ≤ day
  pub fits : fits_period unit days base day ≡ true
  pub here : period_of unit day ≡ period

pub in-is : (unit : Unit) (days base period day : ℕ) → is_in_period unit days base period day ≡ true → IsInPeriod unit days base period day
in-is unit days base period day h =
    let here : Bool = period_of unit day == period in
    let a = and_parts (nat_le base day) (fits_period unit days base day && here) h in
    let b = and_parts (fits_period unit days base day) here a.1 in
    record { above = leb-true _ _ a.0; fits = b.0; here = eqb-true _ _ b.1 }

pub in-from : (unit : Unit) (days base period day : ℕ) → IsInPeriod unit days base period day → is_in_period unit days base period day ≡ true
in-from unit days base period day h = and_from _ _ (le-leb _ _ h.above) (and_from _ _ h.fits (eq-eqb _ _ h.here))

-- no period falls as days go on
pub period_mono : (unit : Unit) (a b : ℕ) → a ≤ b → period_of unit a ≤ period_of unit b
period_mono Hour a b h = omega arith
period_mono Day a b h = h
period_mono Week a b h = omega arith
period_mono Month a b h = month_of_mono a b h
period_mono MonthWeekday a b h = month_of_mono a b h
period_mono Year a b h = year_mono a b h

pub month_bound : (n : ℕ) → n ≤ 50000 → month_of n ≤ 120000
month_bound n h = omega (arith, civil-year n (omega arith), (civil-is n).is.last)

pub period_bound : (unit : Unit) (n : ℕ) → n ≤ 50000 → period_of unit n ≤ 120000
period_bound Hour n h = omega arith
period_bound Day n h = omega arith
period_bound Week n h = omega arith
period_bound Month n h = month_bound n h
period_bound MonthWeekday n h = month_bound n h
period_bound Year n h = omega (arith, civil-year n (omega arith))

pub month_low : (n : ℕ) → 23641 ≤ month_of n
month_low n = omega (arith, (civil-is n).is.year, (civil-is n).is.first)

-- a quotient never falls
div_mono : (a b n : ℕ) → 0 < n → a ≤ b → a / n ≤ b / n
div_mono a b n some h = le-div (a / n) b n some (omega (arith, div-add-mod' a n))

-- a turn up to a day's begins no later than the day's period
pub turn_within : (r : RepeatRow) (base day turn : ℕ) → base ≤ day → turn ≤ turn_of r base day → period_of r.unit base + turn * r.every ≤ period_of r.unit day
turn_within r base day turn order h =
    let up = period_mono r.unit base day order in
    omega (arith, up, mul-le-mul_right r.every h, div-add-mod' (period_of r.unit day - period_of r.unit base) r.every)

-- the dates of a repeat fall in its turns
pub turns : (r : RepeatRow) (base : ℕ) → 0 < r.every → IsTurns (is_unit_date r.unit r.every r.days base) (turn_of r base) (is_in_turn r base)
turns r base some = record {
  has = λ k day h e.
      let d = unit-is r.unit r.every r.days base day h in
      let up = period_mono r.unit base day d.above in
      let whole = div-add-mod' (period_of r.unit day - period_of r.unit base) r.every in
      let same = ap (λ x. x * r.every) e in
      in-from r.unit r.days base _ day (record { above = d.above; fits = d.fits; here = omega (arith, up, whole, same, d.multiple) });
  is = λ k day h.
      let d = in-is r.unit r.days base _ day h in
      let steps : period_of r.unit day - period_of r.unit base ≡ k * r.every = omega (arith, d.here) in
      unit-from r.unit r.every r.days base day (record { above = d.above; fits = d.fits; multiple = rw steps (mul-mod_left k r.every) });
  at = λ k day h.
      let d = in-is r.unit r.days base _ day h in
      let steps : period_of r.unit day - period_of r.unit base ≡ k * r.every = omega (arith, d.here) in
      rw steps (mul-div_left k some);
  rises = λ a b h. div_mono (period_of r.unit a - period_of r.unit base) (period_of r.unit b - period_of r.unit base) r.every some (omega (arith, period_mono r.unit a b h));
}

-- the base fits its own period, and a period has one day at most that fits
pub record IsOnce (period : ℕ → ℕ) (fits : ℕ → ℕ → Bool) : Type 0 where
  pub self : (base : ℕ) → fits base base ≡ true
  pub once : (base a b : ℕ) → period a ≡ period b → fits base a ≡ true → fits base b ≡ true → a ≡ b

eqb-self : (n : ℕ) → (n == n) ≡ true
eqb-self n = eq-eqb n n refl

month_once : IsOnce month_of is_same_day
month_once = record {
  self = λ base. eqb-self (civil base).day;
  once = λ base a b e f g. one_day a b e (eqb-true _ _ f ∙ sym (eqb-true _ _ g));
}

-- equal weekdays and equal places among them are equal days, within a month
weekday_apart : (a b da db : ℕ) → db + a ≡ da + b → 1 ≤ da → 1 ≤ db → (a + 3) % 7 ≡ (b + 3) % 7 → (da - 1) / 7 ≡ (db - 1) / 7 → a ≡ b
weekday_apart a b da db e low lower f g = omega arith

weekday_parts : (base day : ℕ) → is_same_weekday base day ≡ true → ((day + 3) % 7 ≡ (base + 3) % 7) × (((civil day).day - 1) / 7 ≡ ((civil base).day - 1) / 7)
weekday_parts base day h =
    let parts = and_parts (weekday (pos day) == weekday (pos base)) (((civil day).day - 1) / 7 == ((civil base).day - 1) / 7) h in
    let same : (day + 3) % 7 + 1 ≡ (base + 3) % 7 + 1 = eqb-true _ _ parts.0 in
    (omega arith, eqb-true _ _ parts.1)

weekday_once_up : (base a b : ℕ) → a ≤ b → month_of a ≡ month_of b → is_same_weekday base a ≡ true → is_same_weekday base b ≡ true → a ≡ b
weekday_once_up base a b order e f g =
    let x = weekday_parts base a f in
    let y = weekday_parts base b g in
    weekday_apart a b (civil a).day (civil b).day (day_in_month a b order e) (civil-is a).is.low (civil-is b).is.low (x.0 ∙ sym y.0) (x.1 ∙ sym y.1)

weekday_once : IsOnce month_of is_same_weekday
weekday_once = record {
  self = λ base. and_from _ _ (eqb-self (weekday (pos base))) (eqb-self (((civil base).day - 1) / 7));
  once = λ base a b e f g.
      elim (cases_lt a b) [
        | inl lt ↦ weekday_once_up base a b (omega arith) e f g
        | inr ge ↦ sym (weekday_once_up base b a ge (sym e) g f)
      ];
}

year_once : IsOnce (λ n. (civil n).year) is_anniversary
year_once = record {
  self = λ base. and_from _ _ (eqb-self (civil base).day) (eqb-self (civil base).month);
  once = λ base a b e f g.
      let x = and_parts ((civil a).day == (civil base).day) ((civil a).month == (civil base).month) f in
      let y = and_parts ((civil b).day == (civil base).day) ((civil b).month == (civil base).month) g in
      let months : (civil a).month ≡ (civil b).month = eqb-true _ _ x.1 ∙ sym (eqb-true _ _ y.1) in
      one_day a b (omega (arith, e, months)) (eqb-true _ _ x.0 ∙ sym (eqb-true _ _ y.0));
}

-- the day that fits a period from the base's on is the period's only date
module _ (unit : Unit) (days base period : ℕ) (from : period_of unit base ≤ period) (once : IsOnce (period_of unit) (fits_period unit days)) where
  only_above : (n : ℕ) → fits_period unit days base n ≡ true → period_of unit n ≡ period → base ≤ n
  only_above n fits here =
      elim (cases_lt n base) [
        | inl lt ↦
            let down = period_mono unit n base (omega arith) in
            let same : period_of unit n ≡ period_of unit base = omega (arith, down) in
            omega (arith, once.once base n base same fits (once.self base))
        | inr ge ↦ ge
      ]

  pub only_is : (n : ℕ) → fits_period unit days base n ≡ true → period_of unit n ≡ period → IsOnly (is_in_period unit days base period) (Some n)
  only_is n fits here = (
    in-from unit days base period n (record { above = only_above n fits here; fits = fits; here = here }),
    λ r h. let d = in-is unit days base period r h in once.once base r n (d.here ∙ sym here) d.fits fits,
  )

-- the date with a month's parts is the month's day
same_parts : (c : Civil) (month day : ℕ) → 1 ≤ c.month → c.month ≤ 12 → 0 < month → 12 * c.year + c.month ≡ month → c.day ≡ day → c ≡ record { year = (month - 1) / 12; month = (month - 1) % 12 + 1; day = day }
same_parts c month day low high some e f =
    let year : c.year ≡ (month - 1) / 12 = omega arith in
    let place : c.month ≡ (month - 1) % 12 + 1 = omega arith in
    rw (← year, ← place, ← f) refl

-- what is known of a day of a month, or that there is none
abbrev pub IsMonthDay : ℕ → ℕ → Option ℕ → Type 0
IsMonthDay month day o =
    MatchOption o ((n : ℕ) → month_of n ≡ month → (civil n).day ≡ day → ⊥) (λ n. (month_of n ≡ month) × ((civil n).day ≡ day))

-- and of a date
abbrev pub IsDayOf : ℕ → ℕ → ℕ → Option ℕ → Type 0
IsDayOf year month day o =
    MatchOption o ((n : ℕ) → civil n ≡ record { year = year; month = month; day = day } → ⊥) (λ n. civil n ≡ record { year = year; month = month; day = day })

pub month_day_is : (month day : ℕ) → 23641 ≤ month → (o : Option ℕ) → IsDayOf ((month - 1) / 12) ((month - 1) % 12 + 1) day o → IsMonthDay month day o
month_day_is month day some None h = λ n e f.
    let is = (civil-is n).is in
    h n (same_parts (civil n) month day is.first is.last (omega arith) e f)
month_day_is month day some (Some n) h = (rw h (omega arith), ap (λ c. c.day) h)

-- the base's day of a month
pub only_day_of_month : (base month : ℕ) → month_of base ≤ month → (o : Option ℕ) → IsMonthDay month (civil base).day o → IsOnly (is_in_period Month 0 base month) o
only_day_of_month base month from None h = λ r q.
    let d = in-is Month 0 base month r q in
    h r d.here (eqb-true _ _ d.fits)
only_day_of_month base month from (Some n) h =
    only_is Month 0 base month from month_once n (eq-eqb _ _ h.1) h.0

-- the day of the month that is the p-th after the first of b's weekday, where the month begins on day f
abbrev pub placed : ℕ → ℕ → ℕ → ℕ
placed b f p = 1 + ((b + 3) % 7 + 1 + 7 - ((f + 3) % 7 + 1)) % 7 + p * 7

placed_is : (b f r d p : ℕ) → d + f ≡ 1 + r → 1 ≤ d → (r + 3) % 7 ≡ (b + 3) % 7 → (d - 1) / 7 ≡ p → d ≡ placed b f p
placed_is b f r d p e low same place = omega arith

placed_back : (b f r p : ℕ) → placed b f p + f ≡ 1 + r → ((r + 3) % 7 ≡ (b + 3) % 7) × ((placed b f p - 1) / 7 ≡ p)
placed_back b f r p e = (omega arith, omega arith)

-- a month's days go on from its first
from_first : (f r : ℕ) → month_of f ≡ month_of r → (civil f).day ≡ 1 → (civil r).day + f ≡ 1 + r
from_first f r month first =
    elim (cases_lt r f) [
      | inl lt ↦ absurd (omega (arith, day_in_month r f (omega arith) (sym month), (civil-is r).is.low))
      | inr ge ↦ omega (arith, day_in_month f r ge month)
    ]

module _ (base month f : ℕ) (in_month : month_of f ≡ month) (first : (civil f).day ≡ 1) where
  -- a date of the month on the base's weekday, as often as the base has it in its month
  weekday_placed : (r : ℕ) → month_of r ≡ month → is_same_weekday base r ≡ true → (civil r).day ≡ placed base f (((civil base).day - 1) / 7)
  weekday_placed r here same =
      let parts = weekday_parts base r same in
      placed_is base f r (civil r).day (((civil base).day - 1) / 7) (from_first f r (in_month ∙ sym here) first) (civil-is r).is.low parts.0 parts.1

  placed_weekday : (n : ℕ) → month_of n ≡ month → (civil n).day ≡ placed base f (((civil base).day - 1) / 7) → is_same_weekday base n ≡ true
  placed_weekday n here day =
      let e = from_first f n (in_month ∙ sym here) first in
      let back = placed_back base f n (((civil base).day - 1) / 7) (rw day at e) in
      let same : weekday (pos n) ≡ weekday (pos base) = ap (λ x. x + 1) back.0 in
      and_from _ _ (eq-eqb _ _ same) (eq-eqb _ _ (ap (λ x. (x - 1) / 7) day ∙ back.1))

  pub only_weekday_of_month : month_of base ≤ month → (o : Option ℕ) → IsMonthDay month (placed base f (((civil base).day - 1) / 7)) o → IsOnly (is_in_period MonthWeekday 0 base month) o
  only_weekday_of_month from None h = λ r q.
      let d = in-is MonthWeekday 0 base month r q in
      h r d.here (weekday_placed r d.here d.fits)
  only_weekday_of_month from (Some n) h =
      only_is MonthWeekday 0 base month from weekday_once n (placed_weekday n h.0 h.1) h.0

  -- no month has a 32nd day
  pub no_weekday_of_month : 31 < placed base f (((civil base).day - 1) / 7) → IsOnly (is_in_period MonthWeekday 0 base month) None
  no_weekday_of_month late = λ r q.
      let d = in-is MonthWeekday 0 base month r q in
      absurd (omega (arith, weekday_placed r d.here d.fits, short_at r))

-- the base's month and day of a year
anniversary_parts : (base r : ℕ) → is_anniversary base r ≡ true → ((civil r).day ≡ (civil base).day) × ((civil r).month ≡ (civil base).month)
anniversary_parts base r h =
    let x = and_parts ((civil r).day == (civil base).day) ((civil r).month == (civil base).month) h in
    (eqb-true _ _ x.0, eqb-true _ _ x.1)

civil_parts : (c : Civil) (y m d : ℕ) → c.year ≡ y → c.month ≡ m → c.day ≡ d → c ≡ record { year = y; month = m; day = d }
civil_parts c y m d e f g = rw (← e, ← f, ← g) refl

pub only_day_of_year : (base year : ℕ) → (civil base).year ≤ year → (o : Option ℕ) → IsDayOf year (civil base).month (civil base).day o → IsOnly (is_in_period Year 0 base year) o
only_day_of_year base year from None h = λ r q.
    let d = in-is Year 0 base year r q in
    let parts = anniversary_parts base r d.fits in
    h r (civil_parts (civil r) year (civil base).month (civil base).day d.here parts.1 parts.0)
only_day_of_year base year from (Some n) h =
    only_is Year 0 base year from year_once n (and_from _ _ (eq-eqb _ _ (ap (λ c. c.day) h)) (eq-eqb _ _ (ap (λ c. c.month) h))) (ap (λ c. c.year) h)

-- the chosen days of a week that were looked at, from Sunday down to this weekday
abbrev pub IsSeenDown : ℕ → ℕ → ℕ → ℕ → ℕ → Type 0
IsSeenDown days base last week weekday = (r : ℕ) → is_in_period Week days base week r ≡ true → r ≤ last → (r + 3) % 7 < weekday

-- and from Monday up to it
abbrev pub IsSeenUp : ℕ → ℕ → ℕ → ℕ → ℕ → ℕ → Type 0
IsSeenUp days base first end week weekday = (r : ℕ) → is_in_period Week days base week r ≡ true → first ≤ r → r < end → weekday ≤ (r + 3) % 7 + 1

-- the next date of an event in a daypart, from the next on the days from 1970 on
module _ (daypart : DaypartId) (base : ℕ) (r : Option RepeatRow) (date : ℤ) (first : ℕ) (above : date <ℤ pos first) (least : (n : ℕ) → date <ℤ pos n → first ≤ n) where
  pub date_after : (d : ℕ) → IsLeast (is_date r base) first LAST_ASKED d → IsDateAfter (Named daypart base) r date (pos d)
  date_after d h = record { is = h.is; after = omega (arith, signed_arith, h.from); within = omega (arith, signed_arith, h.below); least = from_least }
    where
      from_least : (z : ℤ) → is_on_date (Named daypart base) r z ≡ true → date <ℤ z → pos d ≤ℤ z
      from_least (pos n) q lt = omega (arith, signed_arith, h.least n q (least n lt))
      from_least (negsuc n) q lt = absurd (false≢true q)

  pub no_date_after : IsNext (is_date r base) first LAST_ASKED None → IsNoDateAfter (Named daypart base) r date
  no_date_after h = record { none = late }
    where
      late : (z : ℤ) → is_on_date (Named daypart base) r z ≡ true → date <ℤ z → DATE_END ≤ℤ z
      late (pos n) q lt = omega (arith, signed_arith, h n q (least n lt))
      late (negsuc n) q lt = absurd (false≢true q)
