-- A daypart that was made has its exceptions by weekday and its dates ascending.
use Rattle.std.proofs.Common.{◌≡◌, ℕ, nat_lt, length, List, [], None, refl}
use Rattle.std.specs.List.{AllByRecursion, IsDistinct}
use Rattle.std.specs.List.Sorted.{IsPermutation}
use Rattle.sg_base.specs.declared.ids.DaypartId.{DaypartId}
use Rattle.sg_base.specs.declared.limits.TheConstants.{MAX_DATES}
use Rattle.sg_base.specs.declared.daypart.Window.{Window}
use Rattle.sg_base.specs.declared.daypart.DaypartFault.TheVariants.{DoubleWeekday, ManyDates, DoubleDate}
use Rattle.sg_base.specs.Faults.{first_of, first_in}
use Rattle.sg_base.specs.Daypart.{DaypartRow, IsDaypart, Ascends, weekday_fault, double_fault, weekdays_fault, date_fault, double_date_fault, dates_fault, times_fault, daypart_fault}
use Rattle.sg_base.proofs.FaultLemmas.{first_none, if_none}
use Rattle.sg_base.proofs.DoubleLemmas.{same, distinct_from_none}
use Rattle.sg_rows.specs.Order.{sorted_by}
use Rattle.sg_rows.specs.Rows.{IsId, IsWindow, IsException, IsDate, IsDaypartRow}
use Rattle.sg_rows.specs.declared.form.RowForm.{RowForm}
use Rattle.sg_rows.specs.Forms.{AllowsDates}
use Rattle.sg_rows.proofs.FormLemmas.{sorted_dates}
use Rattle.sg_rows.proofs.OrderLemmas.{all_sorted, sorted_rises, sorted_moves, ascends_from_rises}

-- entries of different numbers ascend once they are in order
ascends_sorted : (es : List (ℕ × Window)) → IsDistinct (same (λ e. e.0)) es → Ascends (sorted_by (λ e. e.0) es)
ascends_sorted es apart = ascends_from_rises (sorted_by (λ e. e.0) es) (sorted_rises (λ (e : ℕ × Window). e.0) es apart)

pub exceptions_apart : (w : Window) (es ds : List (ℕ × Window)) → daypart_fault w es ds ≡ None → IsDistinct (same (λ e. e.0)) es
exceptions_apart w es ds h =
    let parts = first_none (times_fault w es ds) (first_of (weekdays_fault es) (dates_fault ds)) h in
    let lists = first_none (weekdays_fault es) (dates_fault ds) parts.1 in
    let days = first_none (first_in weekday_fault es) (double_fault es) lists.0 in
    distinct_from_none (λ (e : ℕ × Window). e.0) (λ day. DoubleWeekday day) [] es days.1

exceptions_ascend : (w : Window) (es ds : List (ℕ × Window)) → daypart_fault w es ds ≡ None → Ascends (sorted_by (λ e. e.0) es)
exceptions_ascend w es ds h = ascends_sorted es (exceptions_apart w es ds h)

pub dates_apart : (w : Window) (es ds : List (ℕ × Window)) → daypart_fault w es ds ≡ None → IsDistinct (same (λ e. e.0)) ds
dates_apart w es ds h =
    let parts = first_none (times_fault w es ds) (first_of (weekdays_fault es) (dates_fault ds)) h in
    let lists = first_none (weekdays_fault es) (dates_fault ds) parts.1 in
    let few = if_none (nat_lt MAX_DATES (length ds)) (ManyDates (length ds)) (first_of (first_in date_fault ds) (double_date_fault ds)) lists.1 in
    let days = first_none (first_in date_fault ds) (double_date_fault ds) few.1 in
    distinct_from_none (λ (e : ℕ × Window). e.0) (λ day. DoubleDate day) [] ds days.1

dates_ascend : (w : Window) (es ds : List (ℕ × Window)) → daypart_fault w es ds ≡ None → Ascends (sorted_by (λ e. e.0) ds)
dates_ascend w es ds h = ascends_sorted ds (dates_apart w es ds h)

-- the lists of a daypart that was made, where another ascending order of one is the same
pub record Made (id : DaypartId) (w : Window) (es ds : List (ℕ × Window)) (d : DaypartRow) : Type 0 where
  pub none : daypart_fault w es ds ≡ None
  pub named : d.id ≡ id
  pub window : d.window ≡ w
  pub exceptions : (fs : List (ℕ × Window)) → IsPermutation es fs → Ascends fs → d.exceptions ≡ fs
  pub dates : (fs : List (ℕ × Window)) → IsPermutation ds fs → Ascends fs → d.dates ≡ fs

-- the daypart of windows in whatever order
abbrev pub ordered : DaypartId → Window → List (ℕ × Window) → List (ℕ × Window) → DaypartRow
ordered id w es ds = record { id = id; window = w; exceptions = sorted_by (λ e. e.0) es; dates = sorted_by (λ e. e.0) ds }

exceptions_made : (id : DaypartId) (w : Window) (es ds : List (ℕ × Window)) (d : DaypartRow) → Made id w es ds d → d.exceptions ≡ sorted_by (λ e. e.0) es
exceptions_made id w es ds d h = h.exceptions (sorted_by (λ e. e.0) es) (sorted_moves (λ (e : ℕ × Window). e.0) es) (exceptions_ascend w es ds h.none)

dates_made : (id : DaypartId) (w : Window) (es ds : List (ℕ × Window)) (d : DaypartRow) → Made id w es ds d → d.dates ≡ sorted_by (λ e. e.0) ds
dates_made id w es ds d h = h.dates (sorted_by (λ e. e.0) ds) (sorted_moves (λ (e : ℕ × Window). e.0) ds) (dates_ascend w es ds h.none)

pub row_made : (id : DaypartId) (w : Window) (es ds : List (ℕ × Window)) (d : DaypartRow) → Made id w es ds d → ordered id w es ds ≡ d
row_made id w es ds d h = rw (← h.named, ← h.window, ← exceptions_made id w es ds d h, ← dates_made id w es ds d h) refl

pub valid_made : (form : RowForm) (id : DaypartId) (w : Window) (es ds : List (ℕ × Window)) (d : DaypartRow) → Made id w es ds d → IsId id.0 → IsWindow w → AllByRecursion IsException es
    → AllByRecursion IsDate ds → AllowsDates form ds → IsDaypart d → IsDaypartRow form d
valid_made form id w es ds d h i v all days allowed accepted = record {
  id = rw h.named i;
  window = rw h.window v;
  exceptions = rw (exceptions_made id w es ds d h) (all_sorted IsException (λ (e : ℕ × Window). e.0) es all);
  dates = rw (dates_made id w es ds d h) (all_sorted IsDate (λ (e : ℕ × Window). e.0) ds days);
  allowed = rw (dates_made id w es ds d h) (sorted_dates form ds allowed);
  accepted = accepted;
}
