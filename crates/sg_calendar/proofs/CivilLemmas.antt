-- The library's dates agree with counting days, and how months and days go with the day number.
use Rattle.std.proofs.Common.{◌≡◌, ℕ, zero, suc, ◌+◌, ◌*◌, ◌<◌, ◌≤◌, refl, sym, ◌∙◌, arith, rules, inl, inr, ◌⊎◌, ℤ, pos, ◌≤ℤ◌}
use Rattle.std.proofs.lemmas.Bool.{cond_both, cases_lt, ltb-true, ltb-false}
use Rattle.jiff_core.specs.Calendar.{days_in_month, days_from_civil, day_count, IsDate, IsCivilDate}
use Rattle.jiff_core.specs.Date.{epoch_day}
use Rattle.jiff_core.specs.declared.civil.date.Date.{Date}
use Rattle.jiff_core.proofs.CalendarLemmas.{days_from_civil-day_count, day_count-epoch, days_in_month_bounds, day_count-lt_year, day_count-later_year, day_count-day_of_year}
use Rattle.jiff_core.proofs.DateLemmas.{days_from_civil-day, days_from_civil-next_month, days_from_civil-next_year, days_from_civil-max, epoch_day_injective, epoch_day_range}
use Rattle.jiff_core.proofs.SignedLemmas.{signed_arith}
use Rattle.sg_calendar.specs.declared.civil.Civil.{Civil}
use Rattle.sg_calendar.specs.Civil.{civil, next_civil, month_of, IsCivil}

-- a date of the calendar whose day number by the library is n
pub record IsNumbered (c : Civil) (n : ℕ) : Type 0 where
  pub is : IsCivil c
  pub number : days_from_civil (pos c.year) c.month c.day ≡ pos n

next_day : (y m d n : ℕ) → IsNumbered (record { year = y; month = m; day = d }) n → d < days_in_month (pos y) m → IsNumbered (record { year = y; month = m; day = d + 1 }) (suc n)
next_day y m d n h lt = record {
  is = record { year = h.is.year; first = h.is.first; last = h.is.last; low = omega arith; high = omega arith };
  number = omega (arith, signed_arith, h.number, days_from_civil-day (pos y) m d (d + 1) h.is.low (omega arith));
}

next_month : (y m d n : ℕ) → IsNumbered (record { year = y; month = m; day = d }) n → d ≡ days_in_month (pos y) m → m < 12 → IsNumbered (record { year = y; month = m + 1; day = 1 }) (suc n)
next_month y m d n h e lt = record {
  is = record { year = h.is.year; first = omega arith; last = omega arith; low = omega arith; high = omega (arith, (days_in_month_bounds (pos y) (m + 1)).1) };
  number = omega (arith, signed_arith, h.number, days_from_civil-next_month (pos y) m d h.is.first e);
}

december : (y m d n : ℕ) → m ≡ 12 → d ≡ days_in_month (pos y) m → days_from_civil (pos y) m d ≡ pos n → days_from_civil (pos y) 12 31 ≡ pos n
december y m d n e f h = rw (f, e) at h

next_year : (y m d n : ℕ) → IsNumbered (record { year = y; month = m; day = d }) n → d ≡ days_in_month (pos y) m → m ≡ 12 → IsNumbered (record { year = y + 1; month = 1; day = 1 }) (suc n)
next_year y m d n h e f = record {
  is = record { year = omega (arith, h.is.year); first = omega arith; last = omega arith; low = omega arith; high = omega (arith, (days_in_month_bounds (pos (y + 1)) 1).1) };
  number =
      omega (arith, signed_arith, december y m d n f e h.number, days_from_civil-next_year (pos y) (pos (y + 1)) (omega (arith, signed_arith)) (omega (arith, signed_arith)));
}

next_is : (c : Civil) (n : ℕ) → IsNumbered c n → IsNumbered (next_civil c) (suc n)
next_is c n h =
    cond_both _ _ _ (λ x. IsNumbered x (suc n))
    (λ t. next_day c.year c.month c.day n h (ltb-true _ _ t))
    (λ f.
    let ge = ltb-false _ _ f in
    let last : c.day ≡ days_in_month (pos c.year) c.month = omega (arith, h.is.high, ge) in
    cond_both _ _ _ (λ x. IsNumbered x (suc n))
    (λ t. next_month c.year c.month c.day n h last (ltb-true _ _ t))
    (λ g. next_year c.year c.month c.day n h last (omega (arith, h.is.last, ltb-false _ _ g))))

-- each day number is the library's of its date
pub civil-is : (n : ℕ) → IsNumbered (civil n) n
unfolding civil
civil-is zero = record {
  is = record { year = omega arith; first = omega arith; last = omega arith; low = omega arith; high = omega arith };
  number = omega (arith, signed_arith, days_from_civil-day_count (pos 1970) 1 1, day_count-epoch);
}
civil-is (suc n) = next_is (civil n) n (civil-is n)

-- the last date of the year 9999 is one of the library's
last_date : IsCivilDate (pos 9999) 12 31
last_date = search rules

-- the library has the dates of these day numbers
pub civil-year : (n : ℕ) → n ≤ 2_932_896 → (civil n).year ≤ 9999
civil-year n h =
    let k = civil-is n in
    elim (cases_lt 9999 (civil n).year) [
      | inl lt ↦
          let later = day_count-lt_year (pos 9999) 12 31 (pos (civil n).year) (civil n).month (civil n).day last_date k.is.low (omega (arith, signed_arith)) in
          absurd (omega (arith, signed_arith, later, k.number, days_from_civil-max, days_from_civil-day_count (pos 9999) 12 31, days_from_civil-day_count (pos (civil n).year) (civil n).month (civil n).day))
      | inr ge ↦ ge
    ]

-- the library's date of a day number
date_of : (n : ℕ) → n ≤ 2_932_896 → Date
date_of n h =
    let k = civil-is n in
    record {
      year = pos (civil n).year;
      month = (civil n).month;
      day = (civil n).day;
      year_in = (omega (arith, signed_arith), omega (arith, signed_arith, civil-year n h));
      month_in = (k.is.first, k.is.last);
      day_in = (k.is.low, k.is.high);
    }

-- the library's date with this day number has the parts of the counted one
pub civil_of_date : (d : Date) (n : ℕ) → epoch_day d ≡ pos n → (d.year ≡ pos (civil n).year) × (d.month ≡ (civil n).month) × (d.day ≡ (civil n).day)
unfolding date_of
civil_of_date d n e =
    let few : n ≤ 2_932_896 = omega (arith, signed_arith, epoch_day_range d) in
    epoch_day_injective d (date_of n few) (e ∙ sym (civil-is n).number)

same_civil : (c : Civil) (y m d : ℕ) → y ≡ c.year → m ≡ c.month → d ≡ c.day → record { year = y; month = m; day = d } ≡ c
same_civil c y m d e f g = rw (e, f, g) refl

-- a struct of the library's parts is the counted date
pub civil_of_parts : (d : Date) (n y : ℕ) → epoch_day d ≡ pos n → pos y ≡ d.year → record { year = y; month = d.month; day = d.day } ≡ civil n
civil_of_parts d n y e f =
    let parts = civil_of_date d n e in
    same_civil (civil n) y d.month d.day (omega (arith, signed_arith, parts.0)) parts.1 parts.2

-- and so it is a date of the calendar
pub civil_valid : (d : Date) (n y : ℕ) → epoch_day d ≡ pos n → pos y ≡ d.year → IsCivil (record { year = y; month = d.month; day = d.day })
civil_valid d n y e f = rw (civil_of_parts d n y e f) (civil-is n).is

-- each month has at most 31 days
pub short_at : (n : ℕ) → (civil n).day ≤ 31
short_at n = omega (arith, (civil-is n).is.high, (days_in_month_bounds (pos (civil n).year) (civil n).month).0)

-- a year that a date of the library has from 1970 on
pub date_low : (d : Date) (y : ℕ) → d.year ≡ pos y → 1970 ≤ y → pos 0 ≤ℤ epoch_day d
date_low d y e h =
    let first = day_count-day_of_year d.year d.month d.day d.day_in.0 in
    let counted = days_from_civil-day_count d.year d.month d.day in
    elim (cases_lt 1970 y) [
      | inl lt ↦
          let later = day_count-later_year (pos 1970) d.year (omega (arith, signed_arith)) (omega (arith, signed_arith, e)) in
          omega (arith, signed_arith, later, first, counted, day_count-epoch)
      | inr ge ↦
          let same : d.year ≡ pos 1970 = omega (arith, signed_arith, e) in
          let here : day_count d.year 1 1 ≡ 4_371_953 = rw same day_count-epoch in
          omega (arith, signed_arith, first, counted, here)
    ]

-- the library makes each such date
pub is_date_at : (y m d : ℕ) (year month day : ℤ) → year ≡ pos y → month ≡ pos m → day ≡ pos d → IsCivil (record { year = y; month = m; day = d }) → y ≤ 9999 → IsDate year month day
is_date_at y m d year month day e f g h few =
    rw (e, f, g) (
      (omega (arith, signed_arith), omega (arith, signed_arith)),
      (omega (arith, signed_arith, h.first), omega (arith, signed_arith, h.last)),
      (omega (arith, signed_arith, h.low), omega (arith, signed_arith, h.high)),
    )

-- the next day goes on in the month, or begins the next one
abbrev pub IsStep : Civil → Civil → Type 0
IsStep a b =
    ((12 * b.year + b.month ≡ 12 * a.year + a.month) × (b.day ≡ a.day + 1))
    ⊎ ((12 * b.year + b.month ≡ 12 * a.year + a.month + 1) × (b.day ≡ 1))

next_step : (c : Civil) → c.month ≤ 12 → IsStep c (next_civil c)
next_step c last =
    let goes_on : IsStep c (record { year = c.year; month = c.month; day = c.day + 1 }) = inl (refl, refl) in
    let begins : IsStep c (record { year = c.year; month = c.month + 1; day = 1 }) = inr (omega arith, refl) in
    let new_year : 12 ≤ c.month → IsStep c (record { year = c.year + 1; month = 1; day = 1 }) = λ h. inr (omega arith, refl) in
    cond_both _ _ _ (λ x. IsStep c x) (λ _. goes_on)
    (λ _. cond_both _ _ _ (λ x. IsStep c x) (λ _. begins) (λ g. new_year (ltb-false _ _ g)))

month_step : (n : ℕ) → IsStep (civil n) (civil (suc n))
unfolding civil
month_step n = next_step (civil n) (civil-is n).is.last

-- months never fall as days go on
pub month_of_mono : (a b : ℕ) → a ≤ b → month_of a ≤ month_of b
month_of_mono a zero h = let e : a ≡ 0 = omega arith in rw e (omega arith)
month_of_mono a (suc b) h =
    elim (cases_lt b a) [
      | inl lt ↦ let e : a ≡ suc b = omega arith in rw e (omega arith)
      | inr le ↦
          elim (month_step b) [ inl s ↦ omega (arith, s.0, month_of_mono a b le) | inr s ↦ omega (arith, s.0, month_of_mono a b le) ]
    ]

-- within a month the day goes with the day number
pub day_in_month : (a b : ℕ) → a ≤ b → month_of a ≡ month_of b → (civil b).day + a ≡ (civil a).day + b
day_in_month a zero h same = let e : a ≡ 0 = omega arith in rw e refl
day_in_month a (suc b) h same =
    elim (cases_lt b a) [
      | inl lt ↦ let e : a ≡ suc b = omega arith in rw e refl
      | inr le ↦
          elim (month_step b) [
            | inl s ↦ omega (arith, s.1, day_in_month a b le (omega (arith, s.0, same)))
            | inr s ↦ absurd (omega (arith, s.0, same, month_of_mono a b le))
          ]
    ]

-- a month has each of its days once
pub one_day : (a b : ℕ) → month_of a ≡ month_of b → (civil a).day ≡ (civil b).day → a ≡ b
one_day a b month day =
    elim (cases_lt a b) [
      | inl lt ↦ omega (arith, day_in_month a b (omega arith) month)
      | inr ge ↦ omega (arith, day_in_month b a ge (sym month))
    ]

-- the day number of a date that the library made is that of its parts
pub civil_of_made : (d : Date) (n y m day : ℕ) → epoch_day d ≡ pos n → d.year ≡ pos y → d.month ≡ m → d.day ≡ day → civil n ≡ record { year = y; month = m; day = day }
civil_of_made d n y m day e year month same =
    let parts = civil_of_date d n e in
    sym (same_civil (civil n) y m day (omega (arith, signed_arith, parts.0, year)) (sym month ∙ parts.1) (sym same ∙ parts.2))

-- years never fall as days go on
pub year_mono : (a b : ℕ) → a ≤ b → (civil a).year ≤ (civil b).year
year_mono a b h =
    let ca = (civil-is a).is in
    let cb = (civil-is b).is in
    omega (arith, month_of_mono a b h, ca.first, ca.last, cb.first, cb.last)
