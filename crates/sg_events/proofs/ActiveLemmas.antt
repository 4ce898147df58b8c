-- The test of activity decides the relation.
use Rattle.std.proofs.Common.{◌≡◌, ℕ, ◌-◌, ◌/◌, ◌*◌, ◌<◌, ◌≤◌, Bool, true, ◌&&◌, nat_le, int_le, int_lt, Option, Some, ◌⊎◌, inl, inr, refl, sym, ◌∙◌, arith, ℤ, pos, negsuc, ◌+ℤ◌, ◌-ℤ◌, ◌*ℤ◌, ◌<ℤ◌, ◌≤ℤ◌, Decides}
use Rattle.std.proofs.lemmas.Bool.{and_parts, and_from, leb-true, le-leb, false≢true}
use Rattle.std.proofs.lemmas.Bool.Decides.{Decides-below_or, same_from_decides}
use Rattle.std.proofs.lemmas.Int.{ints, by_lt_z}
use Rattle.jiff_core.proofs.SignedLemmas.{signed_arith}
use Rattle.sg_base.specs.declared.limits.TheConstants.{DAY}
use Rattle.sg_base.specs.declared.event.When.{When}
use Rattle.sg_base.specs.declared.event.When.TheVariants.{Custom, Named}
use Rattle.sg_base.specs.declared.ids.DaypartId.{DaypartId}
use Rattle.sg_base.specs.Daypart.{DaypartRow, IsDaypart}
use Rattle.sg_base.specs.Repeat.{RepeatRow}
use Rattle.sg_calendar.specs.Dates.{is_date, is_start}
use Rattle.sg_calendar.specs.Windows.{window_at, end_of, opens, closes}
use Rattle.sg_calendar.proofs.WindowLemmas.{window_valid, end_bound}
use Rattle.sg_events.specs.Active.{IsRunning, IsOpenOn, IsOpen, any_below, began_before, is_within, opened_before, is_active_at}

int_le-true : (a b : ℤ) → int_le a b ≡ true → a ≤ℤ b
int_le-true a b h = grind (arith, ints)

int_lt-true : (a b : ℤ) → int_lt a b ≡ true → a <ℤ b
int_lt-true a b h = grind (arith, ints)

le-int_le : (a b : ℤ) → a ≤ℤ b → int_le a b ≡ true
le-int_le a b h = grind (arith, ints)

lt-int_lt : (a b : ℤ) → a <ℤ b → int_lt a b ≡ true
lt-int_lt a b h = grind (arith, ints)

-- some number below n passes
any_below_is : (p : ℕ → Bool) (n : ℕ) → Decides (any_below p n) ((k : ℕ) × (k < n) × (p k ≡ true))
unfolding any_below
any_below_is p n = Decides-below_or p (λ k. p k ≡ true) (any_below p) (λ k. (λ h. h, λ h. h)) refl (λ _. refl) n

pub Decides-map : {A B : Type 0} → (b : Bool) → (A → B) → (B → A) → Decides b A → Decides b B
Decides-map b f g h = (λ e. f (h.0 e), λ x. h.1 (g x))

module _ (from to : ℕ) (r : Option RepeatRow) (t : ℕ) where
  run_from : ((k : ℕ) × (k < to - from) × (began_before from r t k ≡ true)) → IsRunning from to r (pos t)
  run_from h =
      let k = h.0 in
      let parts = and_parts (nat_le k t) (is_start r from (t - k)) h.2 in
      let late : k ≤ t = leb-true k t parts.0 in
      let short : k < to - from = h.1 in
      record {
        start = t - k;
        is = parts.1;
        begun = omega (arith, signed_arith);
        not_over = omega (arith, signed_arith);
      }

  run_to : IsRunning from to r (pos t) → ((k : ℕ) × (k < to - from) × (began_before from r t k ≡ true))
  run_to h =
      let s = h.start in
      let begun : s ≤ t = omega (arith, signed_arith, h.begun) in
      let back : t - (t - s) ≡ s = omega arith in
      let within : t - s < to - from = omega (arith, signed_arith, h.not_over) in
      let late : t - s ≤ t = omega arith in
      (t - s, within, and_from _ _ (le-leb _ _ late) (rw back h.is))

no_run : (from to : ℕ) (r : Option RepeatRow) (n : ℕ) → IsRunning from to r (negsuc n) → ⊥
no_run from to r n h = absurd (omega (arith, signed_arith, h.begun))

pub running_decides : (from to : ℕ) (r : Option RepeatRow) (d : Option DaypartRow) (t : ℤ) → Decides (is_active_at (Custom from to) r d t) (IsRunning from to r t)
running_decides from to r d (pos t) = Decides-map _ (run_from from to r t) (run_to from to r t) (any_below_is (began_before from r t) (to - from))
running_decides from to r d (negsuc n) = (λ e. absurd (false≢true e), λ h. absurd (no_run from to r n h))

-- a second in the window of a date is on that day or the next
near : (D t start finish : ℕ) → finish < 2 * DAY → (pos D *ℤ pos DAY +ℤ pos start) ≤ℤ pos t → pos t <ℤ (pos D *ℤ pos DAY +ℤ pos finish) → (D ≤ t / DAY) × (t / DAY - D < 2)
near D t start finish bound begun over = (omega (arith, signed_arith), omega (arith, signed_arith))

-- a second before 1970 is in the window of no date from 1970 on
never : (D n start : ℕ) → (pos D *ℤ pos DAY +ℤ pos start) ≤ℤ negsuc n → ⊥
never D n start h = absurd (omega (arith, signed_arith))

module _ (daypart : DaypartId) (base : ℕ) (r : Option RepeatRow) (d : DaypartRow) where
  open_from : (t : ℕ) → ((k : ℕ) × (k < 2) × (opened_before d base r t k ≡ true)) → IsOpen (Named daypart base) r d (pos t)
  open_from t h =
      let k = h.0 in
      let day = t / DAY - k in
      let a = and_parts (nat_le k (t / DAY)) (is_date r base day && is_within d day t) h.2 in
      let b = and_parts (is_date r base day) (is_within d day t) a.1 in
      let w = and_parts (int_le (opens d (pos day)) (pos t)) (int_lt (pos t) (closes d (pos day))) b.1 in
      record {
        date = pos day;
        open_on = record { is = b.0; begun = int_le-true (opens d (pos day)) (pos t) w.0; not_over = int_lt-true (pos t) (closes d (pos day)) w.1 };
      }

  open_at : (t day : ℕ) → IsDaypart d → IsOpenOn (Named daypart base) r d (pos t) (pos day) → ((k : ℕ) × (k < 2) × (opened_before d base r t k ≡ true))
  open_at t day valid h =
      let w = window_at d (pos day) in
      let within = near day t w.start (end_of w) (end_bound w (window_valid d (pos day) valid).end) h.begun h.not_over in
      let late : t / DAY - day ≤ t / DAY = omega arith in
      let back : t / DAY - (t / DAY - day) ≡ day = omega (arith, within.0) in
      let is : is_date r base day ≡ true = h.is in
      let inside : is_within d day t ≡ true = and_from _ _ (le-int_le (opens d (pos day)) (pos t) h.begun) (lt-int_lt (pos t) (closes d (pos day)) h.not_over) in
      (t / DAY - day, within.1, and_from _ _ (le-leb _ _ late) (rw back (and_from _ _ is inside)))

  open_to : (t : ℕ) → IsDaypart d → (date : ℤ) → IsOpenOn (Named daypart base) r d (pos t) date → ((k : ℕ) × (k < 2) × (opened_before d base r t k ≡ true))
  open_to t valid (pos day) h = open_at t day valid h
  open_to t valid (negsuc n) h = absurd (false≢true h.is)

  no_open : (n : ℕ) (date : ℤ) → IsOpenOn (Named daypart base) r d (negsuc n) date → ⊥
  no_open n (pos day) h = never day n (window_at d (pos day)).start h.begun
  no_open n (negsuc m) h = false≢true h.is

  pub open_decides : (t : ℤ) → (pos 0 ≤ℤ t → IsDaypart d) → Decides (is_active_at (Named daypart base) r (Some d) t) (IsOpen (Named daypart base) r d t)
  open_decides (pos t) valid = Decides-map _ (open_from t) (λ h. open_to t (valid (omega (arith, signed_arith))) h.date h.open_on) (any_below_is (opened_before d base r t) 2)
  open_decides (negsuc n) valid = (λ e. absurd (false≢true e), λ h. absurd (no_open n h.date h.open_on))

days_near : (date t today : ℤ) (start finish : ℕ) → finish < 2 * DAY → (today *ℤ pos DAY) ≤ℤ t → t <ℤ (today *ℤ pos DAY +ℤ pos DAY) → (date *ℤ pos DAY +ℤ pos start) ≤ℤ t → t <ℤ (date *ℤ pos DAY +ℤ pos finish) → (date ≡ today) ⊎ (date ≡ today -ℤ pos 1)
days_near date t today start finish bound low high begun over =
    let late : date ≤ℤ today = omega (arith, signed_arith) in
    let near : (today -ℤ pos 1) ≤ℤ date = omega (arith, signed_arith) in
    by_lt_z date today (λ lt. inr (omega (arith, signed_arith))) (λ ge. inl (omega (arith, signed_arith)))

-- only the windows of t's day and of the day before hold t
open_days : (w : When) (r : Option RepeatRow) (d : DaypartRow) (t today date : ℤ) → IsDaypart d → (today *ℤ pos DAY) ≤ℤ t → t <ℤ (today *ℤ pos DAY +ℤ pos DAY) → IsOpenOn w r d t date → (date ≡ today) ⊎ (date ≡ today -ℤ pos 1)
open_days w r d t today date valid low high h =
    let span = window_at d date in
    days_near date t today span.start (end_of span) (end_bound span (window_valid d date valid).end) low high h.begun h.not_over

pub open_either : (w : When) (r : Option RepeatRow) (d : DaypartRow) (t today yesterday : ℤ) (b : Bool) → (IsOpenOn w r d t today → ⊥) → Decides b (IsOpenOn w r d t yesterday) → IsDaypart d → yesterday ≡ today -ℤ pos 1 → (today *ℤ pos DAY) ≤ℤ t → t <ℤ (today *ℤ pos DAY +ℤ pos DAY) → Decides b (IsOpen w r d t)
open_either w r d t today yesterday b none h valid e low high = (
  λ x. record { date = yesterday; open_on = h.0 x },
  λ o. elim (open_days w r d t today o.date valid low high o.open_on) [
    | inl same ↦ absurd (none (rw same at o.open_on))
    | inr same ↦ h.1 (rw (same ∙ sym e) at o.open_on)
  ],
)

-- what the test answers, from what was found
pub test_custom : (w : When) (r found : Option RepeatRow) (d : Option DaypartRow) (t : ℤ) (b : Bool) (from to : ℕ) → Custom from to ≡ w → found ≡ r → Decides b (IsRunning from to found t) → b ≡ is_active_at w r d t
test_custom w r found d t b from to e f h = rw (← e, ← f) (same_from_decides b _ h (running_decides from to found d t))

pub test_named : (w : When) (r : Option RepeatRow) (d : DaypartRow) (t : ℤ) (b : Bool) (daypart : DaypartId) (base : ℕ) → Named daypart base ≡ w → (pos 0 ≤ℤ t → IsDaypart d) → Decides b (IsOpen w r d t) → b ≡ is_active_at w r (Some d) t
test_named w r d t b daypart base e valid h = rw (← e) (same_from_decides b _ (rw (← e) at h) (open_decides daypart base r d t valid))
