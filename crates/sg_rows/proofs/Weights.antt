-- How long the compact text of a value is at most: a number for each value, which only its lists and its texts raise.
use Rattle.std.proofs.Common.{◌≡◌, ℕ, suc, ◌+◌, ◌-◌, ◌*◌, ◌^◌, ◌<◌, ◌≤◌, ◌==◌, ◌||◌, nat_lt, Bool, true, false, List, [], ◌∷◌, ◌++◌, length, map, Option, Some, None, pos, negsuc, arith, length-append}
use Rattle.std.proofs.lemmas.Fmt.{length-decimal-le}
use Rattle.std.proofs.lemmas.Bool.{ltb-false}
use Rattle.std.proofs.lemmas.Bool.Decides.{nat_tests}
use Rattle.std.specs.Prelude.{⊤, cond}
use Rattle.std.specs.List.{AllByRecursion}
use Rattle.json.specs.Print.{escape, escape_byte, escape_letter}
use Rattle.serde_json.specs.Data.{Num, unsigned, negative, float, Data, null, boolean, number, string, array, object, Items, no_items, item, Members, no_members, member}
use Rattle.serde_json.specs.View.{items_of}
use Rattle.serde_json.specs.Written.{number_text, comma_if, compact_text, items_text, members_text}
use Rattle.hex.proofs.HexLemmas.{length-encode_with}
use Rattle.hex.specs.Hex.{lower_digits}
use Rattle.sg_base.specs.declared.limits.TheConstants.{MAX_REGIONS, MAX_ITEMS, MAX_DATES}
use Rattle.sg_base.specs.declared.ids.LayoutId.{LayoutId}
use Rattle.sg_base.specs.declared.layout.Item.{Item}
use Rattle.sg_base.specs.declared.layout.Region.{Region}
use Rattle.sg_base.specs.declared.layout.LayoutFault.TheVariants.{NoRegion, TooMany, EmptyRegion}
use Rattle.sg_base.specs.declared.campaign.Campaign.{Campaign as CampaignRow}
use Rattle.sg_base.specs.declared.daypart.Window.{Window}
use Rattle.sg_base.specs.declared.daypart.DaypartFault.TheVariants.{BadWeekday, ManyDates}
use Rattle.sg_base.specs.declared.repeat.Unit.{Unit as RepeatUnit}
use Rattle.sg_base.specs.declared.repeat.Unit.TheVariants.{Hour, Day, Week, Month, MonthWeekday, Year}
use Rattle.sg_base.specs.declared.event.When.{When}
use Rattle.sg_base.specs.declared.event.When.TheVariants.{Always, Custom, Named}
use Rattle.sg_base.specs.declared.event.Target.{Target}
use Rattle.sg_base.specs.declared.event.Target.TheVariants.{Layout, Campaign}
use Rattle.sg_base.specs.declared.file.Listed.{Listed}
use Rattle.sg_base.specs.Faults.{first_of, first_in}
use Rattle.sg_base.specs.Layout.{LayoutRow, region_fault, double_fault}
use Rattle.sg_base.specs.Daypart.{DaypartRow, IsDaypart, times_fault, weekday_fault, weekdays_fault, double_fault as double_weekday, date_fault, double_date_fault, dates_fault}
use Rattle.sg_base.specs.Repeat.{RepeatRow}
use Rattle.sg_base.specs.Event.{EventValue}
use Rattle.sg_base.proofs.FaultLemmas.{first_none, if_none}
use Rattle.sg_rows.specs.Compact.{IsInteger, IsPlain, AreItemsPlain, AreMembersPlain}
use Rattle.sg_rows.specs.declared.form.RowForm.{RowForm}
use Rattle.sg_rows.specs.declared.form.RowForm.TheVariants.{Version1, Version2, Edit}
use Rattle.sg_rows.specs.Rows.{IsLayoutRow, IsCampaignRow, IsDaypartRow, IsListed}
use Rattle.sg_rows.specs.Text.{whole, item_json, region_json, layout_json, layout_id_json, campaign_json, exception_json, date_json, undated_json, dated_json, daypart_json, weekdays, unit_text, until_json, repeat_json, target_json, when_json, last_members, event_json, file_json}
use Rattle.sg_rows.proofs.OrderLemmas.{Rises, rises_from_ascends}
use Rattle.sg_rows.proofs.SoundRows.{weekdays_few}

abbrev mutual
  pub weight : Data → ℕ
  weight null = 4
  weight (boolean b) = 5
  weight (number n) = 21
  weight (string s) = 6 * length s + 2
  weight (array ds) = items_weight ds + 2
  weight (object ms) = members_weight ms + 2

  pub items_weight : Items → ℕ
  items_weight no_items = 0
  items_weight (item d ds) = weight d + 1 + items_weight ds

  pub members_weight : Members → ℕ
  members_weight no_members = 0
  members_weight (member k d ms) = 6 * length k + 4 + weight d + members_weight ms

-- ---- no text is longer than its value's weight

cond_short : (b : Bool) (xs ys : List ℕ) (n : ℕ) → length xs ≤ n → length ys ≤ n → length (cond b xs ys) ≤ n
cond_short true xs ys n h k = h
cond_short false xs ys n h k = k

byte_short : (b : ℕ) → length (escape_byte b) ≤ 6
unfolding escape_byte
byte_short b = cond_short (nat_lt 0 (escape_letter b)) _ _ 6 (omega arith) (cond_short (nat_lt b 32) _ _ 6 (omega arith) (omega arith))

escape_short : (s : List ℕ) → length (escape s) ≤ 6 * length s
escape_short [] = omega arith
escape_short (b ∷ s) = omega (arith, length-append (escape_byte b) (escape s), byte_short b, escape_short s)

number_short : (n : Num) → IsInteger n → length (number_text n) ≤ 21
number_short (unsigned n) h =
    let digits : n < 10 ^ 20 = omega (arith, h) in
    omega (arith, length-decimal-le 20 n (omega arith) digits h)
number_short (negative (pos n)) h = absurd h
number_short (negative (negsuc n)) h =
    let fits : suc n < 2 ^ 64 = omega arith in
    let digits : suc n < 10 ^ 20 = omega arith in
    omega (arith, length-decimal-le 20 (suc n) (omega arith) digits fits)
number_short (float x) h = absurd h

comma_short : (later : Bool) → length (comma_if later) ≤ 1
comma_short true = omega arith
comma_short false = omega arith

boolean_short : (b : Bool) → length (compact_text (boolean b)) ≤ 5
boolean_short true = omega arith
boolean_short false = omega arith

mutual
  pub length-weight : (d : Data) → IsPlain d → length (compact_text d) ≤ weight d
  length-weight null h = omega arith
  length-weight (boolean b) h = boolean_short b
  length-weight (number n) h = number_short n h
  length-weight (string s) h = omega (arith, length-append (escape s) (34 ∷ []), escape_short s)
  length-weight (array ds) h = omega (arith, length-items_weight false ds h)
  length-weight (object ms) h = omega (arith, length-members_weight false ms h)

  length-items_weight : (later : Bool) (ds : Items) → AreItemsPlain ds → length (items_text later ds) ≤ items_weight ds + 1
  length-items_weight later no_items h = omega arith
  length-items_weight later (item d ds) h =
      omega (
        arith,
        length-append (comma_if later) (compact_text d ++ items_text true ds),
        length-append (compact_text d) (items_text true ds),
        comma_short later,
        length-weight d h.0,
        length-items_weight true ds h.1,
      )

  length-members_weight : (later : Bool) (ms : Members) → AreMembersPlain ms → length (members_text later ms) ≤ members_weight ms + 1
  length-members_weight later no_members h = omega arith
  length-members_weight later (member k d ms) h =
      omega (
        arith,
        length-append (comma_if later) (34 ∷ ((escape k ++ 34 ∷ []) ++ 58 ∷ (compact_text d ++ members_text true ms))),
        length-append (escape k ++ 34 ∷ []) (58 ∷ (compact_text d ++ members_text true ms)),
        length-append (escape k) (34 ∷ []),
        length-append (compact_text d) (members_text true ms),
        comma_short later,
        escape_short k,
        length-weight d h.2,
        length-members_weight true ms h.3,
      )

-- ---- lists

pub list_weight : {A : Type 0} (f : A → Data) (P : A → Type 0) (n : ℕ) → ((x : A) → P x → weight (f x) ≤ n)
    → (xs : List A) → AllByRecursion P xs → items_weight (items_of (map f xs)) ≤ length xs * (n + 1)
list_weight f P n each [] h = omega arith
list_weight f P n each (x ∷ xs) h =
    let first = each x h.0 in
    let rest = list_weight f P n each xs h.1 in
    grind (arith, first, rest)

-- ---- rows

any_item : (i : Item) → ⊤ → weight (item_json i) ≤ 200
any_item i h = omega arith

all_any : {A : Type 0} (xs : List A) → AllByRecursion (λ _. ⊤) xs
all_any [] = tt
all_any (x ∷ xs) = (tt, all_any xs)

abbrev IsSmallRegion : Region → Type 0
IsSmallRegion r = length r.items ≤ MAX_ITEMS

region_weight : (r : Region) → IsSmallRegion r → weight (region_json r) ≤ 20000
region_weight r few =
    let items = list_weight item_json (λ _. ⊤) 200 any_item r.items (all_any r.items) in
    omega (arith, items, few)

small_region : (r : Region) → region_fault r ≡ None → IsSmallRegion r
small_region r h =
    let some = if_none (length r.items == 0) (EmptyRegion r.id) _ h in
    let few = if_none (nat_lt MAX_ITEMS (length r.items)) (TooMany (length r.items)) _ some.1 in
    ltb-false MAX_ITEMS (length r.items) few.0

small_regions : (rs : List Region) → first_in region_fault rs ≡ None → AllByRecursion IsSmallRegion rs
small_regions [] h = tt
small_regions (r ∷ rs) h = let parts = first_none (region_fault r) (first_in region_fault rs) h in (small_region r parts.0, small_regions rs parts.1)

pub layout_weight : (l : LayoutRow) → IsLayoutRow l → weight (layout_json l) ≤ 400000
layout_weight l h =
    let some = if_none (length l.regions == 0) NoRegion _ h.accepted.sound in
    let few = if_none (nat_lt MAX_REGIONS (length l.regions)) (TooMany (length l.regions)) _ some.1 in
    let each = first_none (double_fault l.regions) (first_in region_fault l.regions) few.1 in
    let count = ltb-false MAX_REGIONS (length l.regions) few.0 in
    let regions = list_weight region_json IsSmallRegion 20000 region_weight l.regions (small_regions l.regions each.1) in
    omega (arith, regions, count)

any_layout : (l : LayoutId) → ⊤ → weight (layout_id_json l) ≤ 21
any_layout l h = omega arith

pub campaign_weight : (c : CampaignRow) → IsCampaignRow c → weight (campaign_json c) ≤ 20000
campaign_weight c h =
    let layouts = list_weight layout_id_json (λ _. ⊤) 21 any_layout c.layouts (all_any c.layouts) in
    omega (arith, layouts, h.few)

any_exception : (e : ℕ × Window) → ⊤ → weight (exception_json e) ≤ 200
any_exception e h = omega arith

any_date : (e : ℕ × Window) → ⊤ → weight (date_json e) ≤ 200
any_date e h = omega arith

-- weekdays that ascend are seven at most
rises_few : (n : ℕ) (es : List (ℕ × Window)) → Rises (λ e. e.0) es → AllByRecursion (λ e. e.0 < 8) es → AllByRecursion (λ e. n ≤ e.0) es → length es ≤ 8 - n
rises_few n [] up few low = omega arith
rises_few n (e ∷ es) up few low = let rest = rises_few (suc e.0) es up.1 few.1 up.0 in omega (arith, rest, few.0, low.0)

weekday_few : (e : ℕ × Window) → weekday_fault e ≡ None → e.0 < 8
weekday_few e h = let in_week = if_none ((e.0 == 0) || nat_lt 7 e.0) (BadWeekday e.0) None h in known in_week.0
  where
    known : ((e.0 == 0) || nat_lt 7 e.0) ≡ false → e.0 < 8
    known h = grind (arith, nat_tests)

weekdays_in : (es : List (ℕ × Window)) → first_in weekday_fault es ≡ None → AllByRecursion (λ e. e.0 < 8) es
weekdays_in [] h = tt
weekdays_in (e ∷ es) h = let parts = first_none (weekday_fault e) (first_in weekday_fault es) h in (weekday_few e parts.0, weekdays_in es parts.1)

all_from_zero : (es : List (ℕ × Window)) → AllByRecursion (λ e. 0 ≤ e.0) es
all_from_zero [] = tt
all_from_zero (e ∷ es) = (omega arith, all_from_zero es)

record Few (d : DaypartRow) : Type 0 where
  exceptions : length d.exceptions ≤ 8
  dates : length d.dates ≤ MAX_DATES

few_windows : (d : DaypartRow) → IsDaypart d → Few d
few_windows d h =
    let parts = first_none (times_fault d.window d.exceptions d.dates) (first_of (weekdays_fault d.exceptions) (dates_fault d.dates)) h.sound in
    let lists = first_none (weekdays_fault d.exceptions) (dates_fault d.dates) parts.1 in
    let days = first_none (first_in weekday_fault d.exceptions) (double_weekday d.exceptions) lists.0 in
    let few = if_none (nat_lt MAX_DATES (length d.dates)) (ManyDates (length d.dates)) (first_of (first_in date_fault d.dates) (double_date_fault d.dates)) lists.1 in
    record {
      exceptions = omega (arith, rises_few 0 d.exceptions (rises_from_ascends d.exceptions h.ordered) (weekdays_in d.exceptions days.0) (all_from_zero d.exceptions));
      dates = ltb-false MAX_DATES (length d.dates) few.0;
    }

undated_weight : (d : DaypartRow) → Few d → weight (undated_json d) ≤ 20000
undated_weight d few =
    let exceptions = list_weight exception_json (λ _. ⊤) 200 any_exception d.exceptions (all_any d.exceptions) in
    omega (arith, exceptions, few.exceptions)

dated_weight : (d : DaypartRow) → Few d → weight (dated_json d) ≤ 20000
dated_weight d few =
    let exceptions = list_weight exception_json (λ _. ⊤) 200 any_exception d.exceptions (all_any d.exceptions) in
    let dates = list_weight date_json (λ _. ⊤) 200 any_date d.dates (all_any d.dates) in
    omega (arith, exceptions, dates, few.exceptions, few.dates)

pub daypart_weight : (form : RowForm) (d : DaypartRow) → IsDaypartRow form d → weight (daypart_json form d) ≤ 20000
daypart_weight Version1 d h = undated_weight d (few_windows d h.accepted)
daypart_weight Version2 d h = dated_weight d (few_windows d h.accepted)
daypart_weight Edit d h = dated_weight d (few_windows d h.accepted)

any_number : (n : ℕ) → ⊤ → weight (whole n) ≤ 21
any_number n h = omega arith

unit_weight : (u : RepeatUnit) → weight (string (unit_text u)) ≤ 100
unit_weight Hour = omega arith
unit_weight Day = omega arith
unit_weight Week = omega arith
unit_weight Month = omega arith
unit_weight MonthWeekday = omega arith
unit_weight Year = omega arith

until_weight : (o : Option ℕ) → weight (until_json o) ≤ 21
until_weight None = omega arith
until_weight (Some day) = omega arith

repeat_weight : (o : Option RepeatRow) → weight (repeat_json o) ≤ 1000
repeat_weight None = omega arith
repeat_weight (Some r) =
    let days = list_weight whole (λ _. ⊤) 21 any_number (weekdays r.days) (all_any (weekdays r.days)) in
    omega (arith, days, weekdays_few r.days, unit_weight r.unit, until_weight r.until)

target_weight : (t : Target) → weight (target_json t) ≤ 100
target_weight (Layout id) = omega arith
target_weight (Campaign id) = omega arith

when_weight : (w : When) → weight (when_json w) ≤ 200
when_weight Always = omega arith
when_weight (Custom from to) = omega arith
when_weight (Named daypart date) = omega arith

last_weight : (e : EventValue) → members_weight (last_members e) ≤ 5000
last_weight e = omega (arith, repeat_weight e.repeat, target_weight e.target, when_weight e.when)

pub event_weight : (form : RowForm) (e : EventValue) → weight (event_json form e) ≤ 20000
event_weight Version1 e = omega (arith, last_weight e)
event_weight Version2 e = omega (arith, last_weight e)
event_weight Edit e = omega (arith, last_weight e)

pub file_weight : (f : Listed) → IsListed f → weight (file_json f) ≤ 20000
file_weight f h = omega (arith, length-encode_with lower_digits f.md5, h.digest)
