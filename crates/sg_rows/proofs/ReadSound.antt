-- Each row that JSON says is valid, and the form can say it.
use Rattle.std.proofs.Common.{◌≡◌, ℕ, zero, suc, ◌+◌, ◌-◌, ◌^◌, ◌<◌, ◌≤◌, ◌&&◌, nat_lt, nat_le, Bool, true, false, not, List, [], ◌∷◌, length, get_or, Option, Some, None, Result, Ok, Err, refl, sym, subst, ◌∙◌, arith}
use Rattle.std.proofs.lemmas.Bool.{ltb-true, ltb-false, and_parts}
use Rattle.std.specs.Prelude.{IfSome, IsOk, codes, if◌then◌else◌, is_some, option_and_then}
use Rattle.std.specs.Result.{result_ok}
use Rattle.std.specs.List.{AllByRecursion, IsDistinct, list_all}
use Rattle.std.specs.List.Sorted.{IsNonDecreasingBy}
use borrow.Author.Tests.{leb-true}
use Rattle.serde_json.specs.Data.{Data, Items, no_items, item}
use Rattle.serde_json.specs.Find.{get, as_null, as_number, as_u64}
use Rattle.hex.specs.Hex.{IsBytes, decode_sized}
use Rattle.hex.specs.declared.error.FromHexError.{FromHexError}
use Rattle.hex.proofs.HexLemmas.{decode_pairs-ok, decode_of-even, decode_sized-ok, decode_sized-twice}
use Rattle.sg_base.specs.declared.limits.TheConstants.{MAX_FILE_LEN, MAX_CAMPAIGN_LAYOUTS}
use Rattle.sg_base.specs.declared.ids.LayoutId.{LayoutId}
use Rattle.sg_base.specs.declared.layout.Item.{Item}
use Rattle.sg_base.specs.declared.layout.Region.{Region}
use Rattle.sg_base.specs.declared.campaign.Campaign.{Campaign as CampaignRow}
use Rattle.sg_base.specs.declared.daypart.Window.{Window}
use Rattle.sg_base.specs.declared.event.When.{When}
use Rattle.sg_base.specs.declared.event.When.TheVariants.{Always, Custom, Named}
use Rattle.sg_base.specs.declared.event.Target.{Target}
use Rattle.sg_base.specs.declared.event.Target.TheVariants.{Layout, Campaign}
use Rattle.sg_base.specs.declared.file.Listed.{Listed}
use Rattle.sg_base.specs.declared.zone.ZoneRule.{ZoneRule}
use Rattle.sg_base.specs.Layout.{LayoutRow}
use Rattle.sg_base.specs.Daypart.{DaypartRow, daypart_fault}
use Rattle.sg_base.specs.Repeat.{RepeatRow, IsRepeat, repeat_fault}
use Rattle.sg_base.specs.Event.{EventValue, event_fault}
use Rattle.sg_base.proofs.DaypartLemmas.{daypart_ordered}
use Rattle.sg_base.proofs.DoubleLemmas.{same}
use Rattle.sg_calendar.specs.Zone.{ZoneView, zone_of}
use Rattle.sg_calendar.specs.declared.zone.ZoneFault.{ZoneFault}
use Rattle.sg_rows.specs.declared.form.RowForm.{RowForm}
use Rattle.sg_rows.specs.declared.fault.RowFault.{RowFault}
use Rattle.sg_rows.specs.declared.fault.RowFault.TheVariants.{Shape}
use Rattle.sg_rows.specs.declared.fault.RowFault.TheVariants as fault
use Rattle.sg_rows.specs.Faults.{◌>>=◌, needs, wants, faultless}
use Rattle.sg_rows.specs.Order.{sorted_by}
use Rattle.sg_rows.specs.Parts.{exactly, has_member, member_at, number_at, positive, id_at, is_digit, digest_at, text_at, each_at, items_at, list_at, nullable_at, null_or, below}
use Rattle.sg_rows.specs.Forms.{has_new, new_member_at, with_new, event_members, is_later_daypart, is_later_event, AllowsDates}
use Rattle.sg_rows.specs.Rows.{IsId, IsItem, IsRegion, IsLayoutRow, IsLayoutId, IsCampaignRow, IsWindow, IsException, IsDate, IsDaypartRow, IsTarget, IsWhen, IsRepeatRow, IsEventParts, IsEventRow, IsListed}
use Rattle.sg_rows.specs.Reading.{file_length, file_at, item_at, region_at, layout_at, layout_id_at, some_layouts, campaign_at, window_at, small, exception_at, date_at, daypart_at, with_bit, with_weekday, days_from, days_at, unit_at, repeat_at, layout_target, campaign_target, target_at, true_at, always_at, custom_at, named_at, when_at, parts_at, made_repeat, event_at, rule_at, telling, zone_at}
use Rattle.sg_rows.specs.Zone.{IsZone}
use Rattle.sg_rows.proofs.BindLemmas.{bind_ok, needs_ok}
use Rattle.sg_rows.proofs.RowLemmas.{regions_have_ids}
use Rattle.sg_rows.proofs.OrderLemmas.{Rises, all_sorted, sorted_rises, sorted_moves}
use Rattle.sg_rows.proofs.DaypartLemmas.{exceptions_apart, dates_apart}
use Rattle.sg_rows.proofs.FormLemmas.{some_dates, no_dates, sorted_dates, layer_now, unit_now}
use Rattle.sg_rows.proofs.EventLemmas.{layer_allowed}
use Rattle.sg_rows.proofs.DayLemmas.{bit_at, bit_low}

-- ---- parts

ok_is : {F A : Type 0} (x y : A) → ◌≡◌ {A = Result A F} (Ok x) (Ok y) → x ≡ y
ok_is x y e = cc

faultless_ok : {F G A : Type 0} (name : G → F) (o : Option G) (x y : A) → faultless name o x ≡ Ok y → (o ≡ None) × (x ≡ y)
faultless_ok name None x y e = (refl, ok_is x y e)
faultless_ok name (Some f) x y e = absurd (cc)

pub member_valid : {A : Type 0} (f : Data → Result A RowFault) (P : A → Type 0) → ((d : Data) (x : A) → f d ≡ Ok x → P x)
    → (name : List ℕ) (d : Data) (x : A) → member_at f name d ≡ Ok x → P x
member_valid f P valid name d x e = let found = bind_ok (wants (get name d) Shape) f x e in valid found.0 x found.2

each_valid : {A : Type 0} (f : Data → Result A RowFault) (P : A → Type 0) → ((d : Data) (x : A) → f d ≡ Ok x → P x)
    → (ds : Items) (xs : List A) → each_at f ds ≡ Ok xs → AllByRecursion P xs
each_valid f P valid no_items xs e = rw (← ok_is [] xs e) tt
each_valid {A} f P valid (item d ds) xs e =
    let rest : A → Result (List A) RowFault = λ x. each_at f ds >>= (λ ys. Ok (x ∷ ys)) in
    let first = bind_ok (f d) rest xs e in
    let others = bind_ok (each_at f ds) (λ ys. Ok (first.0 ∷ ys)) xs first.2 in
    subst (AllByRecursion P) (ok_is (first.0 ∷ others.0) xs others.2) (valid d first.0 first.1, each_valid f P valid ds others.0 others.1)

list_valid : {A : Type 0} (f : Data → Result A RowFault) (P : A → Type 0) → ((d : Data) (x : A) → f d ≡ Ok x → P x)
    → (d : Data) (xs : List A) → list_at f d ≡ Ok xs → AllByRecursion P xs
list_valid f P valid d xs e = let items = bind_ok (items_at d) (each_at f) xs e in each_valid f P valid items.0 xs items.2

within : (m n : ℕ) (b : Bool) → nat_lt m (2 ^ 32) ≡ b → wants (if b then Some m else None) Shape ≡ Ok n → n < 2 ^ 32
within m n true low e = rw (← ok_is m n e) (ltb-true m (2 ^ 32) low)
within m n false low e = absurd (cc)

number_in : (o : Option ℕ) (n : ℕ) → wants (option_and_then (below (2 ^ 32)) o) Shape ≡ Ok n → n < 2 ^ 32
number_in None n e = absurd (cc)
number_in (Some m) n e = within m n (nat_lt m (2 ^ 32)) refl e

number_valid : (d : Data) (n : ℕ) → number_at d ≡ Ok n → n < 2 ^ 32
number_valid d n e = number_in (option_and_then as_u64 (as_number d)) n e

positive_ok : (m n : ℕ) (b : Bool) → nat_lt 0 m ≡ b → (if b then Ok m else Err Shape) ≡ Ok n → (0 < m) × (m ≡ n)
positive_ok m n true low e = (ltb-true 0 m low, ok_is m n e)
positive_ok m n false low e = absurd (cc)

pub id_valid : (d : Data) (n : ℕ) → id_at d ≡ Ok n → IsId n
unfolding id_at
id_valid d n e =
    let number = bind_ok (number_at d) positive n e in
    let some = positive_ok number.0 n (nat_lt 0 number.0) refl number.2 in
    record { some = rw (← some.1) some.0; fits = rw (← some.1) (number_valid d number.0 number.1) }

-- ---- files

wanted_digest : (r : Result (List ℕ) FromHexError) (md5 : List ℕ) → wants (result_ok r) Shape ≡ Ok md5 → r ≡ Ok md5
wanted_digest (Ok x) md5 e = cc
wanted_digest (Err f) md5 e = absurd (cc)

digest_valid : (d : Data) (md5 : List ℕ) → digest_at d ≡ Ok md5 → (length md5 ≡ 16) × IsBytes md5
unfolding digest_at
digest_valid d md5 e =
    let digits = bind_ok (text_at d) _ md5 e in
    let lower = bind_ok (needs (list_all is_digit digits.0) Shape) _ md5 digits.2 in
    let decoded = wanted_digest (decode_sized digits.0 16) md5 lower.2 in
    let long = decode_sized-ok digits.0 16 md5 decoded in
    let whole = sym (decode_sized-twice digits.0 16 long) ∙ decoded in
    let pairs = decode_pairs-ok 0 digits.0 md5 (sym (decode_of-even digits.0 (omega (arith, long))) ∙ whole) in
    (omega (arith, long, pairs.1), pairs.2)

length_ok : (m n : ℕ) (b : Bool) → nat_lt MAX_FILE_LEN m ≡ b → (if b then Err Shape else positive m) ≡ Ok n → (1 ≤ n) × (n ≤ MAX_FILE_LEN)
length_ok m n true high e = absurd (cc)
length_ok m n false high e =
    let some = positive_ok m n (nat_lt 0 m) refl e in
    let few = ltb-false MAX_FILE_LEN m high in
    (omega (arith, some.0, some.1), omega (arith, few, some.1))

pub file_valid : (d : Data) (f : Listed) → file_at d ≡ Ok f → IsListed f
unfolding file_at
file_valid d f e =
    let form = bind_ok (exactly 3 d) _ f e in
    let id = bind_ok (member_at id_at (codes "id") d) _ f form.2 in
    let number = bind_ok (member_at number_at (codes "length") d) _ f id.2 in
    let long = bind_ok (file_length number.0) _ f number.2 in
    let md5 = bind_ok (member_at digest_at (codes "md5") d) _ f long.2 in
    let limits = length_ok number.0 long.0 (nat_lt MAX_FILE_LEN number.0) refl long.1 in
    let digest = member_valid digest_at (λ m. (length m ≡ 16) × IsBytes m) digest_valid (codes "md5") d md5.0 md5.1 in
    subst IsListed (ok_is (record { media = record { 0 = id.0 }; length = long.0; md5 = md5.0 }) f md5.2) (record {
      media = member_valid id_at IsId id_valid (codes "id") d id.0 id.1;
      some = limits.0;
      few = limits.1;
      digest = digest.0;
      bytes = digest.1;
    })

-- ---- layouts

item_valid : (d : Data) (i : Item) → item_at d ≡ Ok i → IsItem i
unfolding item_at
item_valid d i e =
    let form = bind_ok (exactly 2 d) _ i e in
    let media = bind_ok (member_at id_at (codes "media") d) _ i form.2 in
    let seconds = bind_ok (member_at number_at (codes "seconds") d) _ i media.2 in
    subst IsItem (ok_is (record { media = record { 0 = media.0 }; seconds = seconds.0 }) i seconds.2) (record {
      media = member_valid id_at IsId id_valid (codes "media") d media.0 media.1;
      seconds = member_valid number_at (λ n. n < 2 ^ 32) number_valid (codes "seconds") d seconds.0 seconds.1;
    })

region_valid : (d : Data) (r : Region) → region_at d ≡ Ok r → IsRegion r
unfolding region_at
region_valid d r e =
    let form = bind_ok (exactly 2 d) _ r e in
    let id = bind_ok (member_at id_at (codes "id") d) _ r form.2 in
    let items = bind_ok (member_at (list_at item_at) (codes "items") d) _ r id.2 in
    subst IsRegion (ok_is (record { id = id.0; items = items.0 }) r items.2) (record {
      id = member_valid id_at IsId id_valid (codes "id") d id.0 id.1;
      items = member_valid (list_at item_at) (AllByRecursion IsItem) (list_valid item_at IsItem item_valid) (codes "items") d items.0 items.1;
    })

pub layout_valid : (d : Data) (l : LayoutRow) → layout_at d ≡ Ok l → IsLayoutRow l
unfolding layout_at
layout_valid d l e =
    let form = bind_ok (exactly 2 d) _ l e in
    let id = bind_ok (member_at id_at (codes "id") d) _ l form.2 in
    let regions = bind_ok (member_at (list_at region_at) (codes "regions") d) _ l id.2 in
    let made = faultless_ok fault.Layout _ (record { id = record { 0 = id.0 }; regions = regions.0 }) l regions.2 in
    let valid = member_valid (list_at region_at) (AllByRecursion IsRegion) (list_valid region_at IsRegion region_valid) (codes "regions") d regions.0 regions.1 in
    subst IsLayoutRow made.1 (record {
      id = member_valid id_at IsId id_valid (codes "id") d id.0 id.1;
      regions = valid;
      accepted = record { ids = regions_have_ids regions.0 valid; sound = made.0 };
    })

-- ---- campaigns

layout_id_valid : (d : Data) (l : LayoutId) → layout_id_at d ≡ Ok l → IsLayoutId l
unfolding layout_id_at
layout_id_valid d l e =
    let id = bind_ok (id_at d) _ l e in
    subst IsLayoutId (ok_is (record { 0 = id.0 }) l id.2) (id_valid d id.0 id.1)

layouts_ok : (ls ms : List LayoutId) (b : Bool) → (nat_lt 0 (length ls) && nat_le (length ls) MAX_CAMPAIGN_LAYOUTS) ≡ b → (if b then Ok ls else Err Shape) ≡ Ok ms
    → (1 ≤ length ls) × (length ls ≤ MAX_CAMPAIGN_LAYOUTS) × (ls ≡ ms)
layouts_ok ls ms true few e =
    let parts = and_parts (nat_lt 0 (length ls)) (nat_le (length ls) MAX_CAMPAIGN_LAYOUTS) few in
    let some = ltb-true 0 (length ls) parts.0 in
    (omega (arith, some), leb-true (length ls) MAX_CAMPAIGN_LAYOUTS parts.1, ok_is ls ms e)
layouts_ok ls ms false few e = absurd (cc)

pub campaign_valid : (d : Data) (c : CampaignRow) → campaign_at d ≡ Ok c → IsCampaignRow c
unfolding campaign_at
campaign_valid d c e =
    let form = bind_ok (exactly 2 d) _ c e in
    let id = bind_ok (member_at id_at (codes "id") d) _ c form.2 in
    let ls = bind_ok (member_at (list_at layout_id_at) (codes "layouts") d) _ c id.2 in
    let layouts = bind_ok (some_layouts ls.0) _ c ls.2 in
    let limits = layouts_ok ls.0 layouts.0 _ refl layouts.1 in
    let valid = member_valid (list_at layout_id_at) (AllByRecursion IsLayoutId) (list_valid layout_id_at IsLayoutId layout_id_valid) (codes "layouts") d ls.0 ls.1 in
    subst IsCampaignRow (ok_is (record { id = record { 0 = id.0 }; layouts = layouts.0 }) c layouts.2) (record {
      id = member_valid id_at IsId id_valid (codes "id") d id.0 id.1;
      some = rw (← limits.2) limits.0;
      few = rw (← limits.2) limits.1;
      layouts = rw (← limits.2) valid;
    })

-- ---- dayparts

window_valid : (d : Data) (w : Window) → window_at d ≡ Ok w → IsWindow w
unfolding window_at
window_valid d w e =
    let start = bind_ok (member_at number_at (codes "start") d) _ w e in
    let end = bind_ok (member_at number_at (codes "end") d) _ w start.2 in
    subst IsWindow (ok_is (record { start = start.0; end = end.0 }) w end.2) (record {
      start = member_valid number_at (λ n. n < 2 ^ 32) number_valid (codes "start") d start.0 start.1;
      end = member_valid number_at (λ n. n < 2 ^ 32) number_valid (codes "end") d end.0 end.1;
    })

small_ok : (m n : ℕ) (b : Bool) → nat_lt m 256 ≡ b → (if b then Ok m else Err Shape) ≡ Ok n → n < 2 ^ 8
small_ok m n true low e = rw (← ok_is m n e) (ltb-true m 256 low)
small_ok m n false low e = absurd (cc)

exception_valid : (d : Data) (x : ℕ × Window) → exception_at d ≡ Ok x → IsException x
unfolding exception_at
exception_valid d x e =
    let form = bind_ok (exactly 3 d) _ x e in
    let number = bind_ok (member_at number_at (codes "day") d) _ x form.2 in
    let day = bind_ok (small number.0) _ x number.2 in
    let window = bind_ok (window_at d) _ x day.2 in
    subst IsException (ok_is (day.0, window.0) x window.2) (record {
      day = small_ok number.0 day.0 (nat_lt number.0 256) refl day.1;
      window = window_valid d window.0 window.1;
    })

date_valid : (d : Data) (x : ℕ × Window) → date_at d ≡ Ok x → IsDate x
unfolding date_at
date_valid d x e =
    let form = bind_ok (exactly 3 d) _ x e in
    let date = bind_ok (member_at number_at (codes "date") d) _ x form.2 in
    let window = bind_ok (window_at d) _ x date.2 in
    subst IsDate (ok_is (date.0, window.0) x window.2) (record {
      date = member_valid number_at (λ n. n < 2 ^ 32) number_valid (codes "date") d date.0 date.1;
      window = window_valid d window.0 window.1;
    })

dates_ok : (form : RowForm) (d : Data) (ds : List (ℕ × Window)) (b : Bool) → has_new form (codes "dates") d ≡ b
    → (if b then member_at (list_at date_at) (codes "dates") d else Ok []) ≡ Ok ds → AllByRecursion IsDate ds × AllowsDates form ds
dates_ok form d ds true new e = (
  member_valid (list_at date_at) (AllByRecursion IsDate) (list_valid date_at IsDate date_valid) (codes "dates") d ds e,
  some_dates form (codes "dates") d ds new,
)
dates_ok form d ds false new e =
    let none = sym (ok_is [] ds e) in
    (rw none tt, no_dates form ds none)

first_low : {A : Type 0} (key : A → ℕ) (x : A) (xs : List A) → AllByRecursion (λ y. key x < key y) xs → (j : ℕ) (d : A) → j < length xs → key x ≤ key (get_or xs j d)
first_low key x [] h j d lt = absurd (omega arith)
first_low key x (y ∷ ys) h zero d lt = omega (arith, h.0)
first_low key x (y ∷ ys) h (suc j) d lt = first_low key x ys h.1 j d (omega arith)

rising : {A : Type 0} (key : A → ℕ) (xs : List A) → Rises key xs → IsNonDecreasingBy key xs
rising key [] h i j d le lt = absurd (omega arith)
rising key (x ∷ xs) h zero zero d le lt = omega arith
rising key (x ∷ xs) h zero (suc j) d le lt = first_low key x xs h.0 j d (omega arith)
rising key (x ∷ xs) h (suc i) zero d le lt = absurd (omega arith)
rising key (x ∷ xs) h (suc i) (suc j) d le lt = rising key xs h.1 i j d (omega arith) (omega arith)

rising_sorted : (es : List (ℕ × Window)) → IsDistinct (same (λ e. e.0)) es → IsNonDecreasingBy (λ e. e.0) (sorted_by (λ e. e.0) es)
rising_sorted es apart = rising (λ (e : ℕ × Window). e.0) (sorted_by (λ e. e.0) es) (sorted_rises (λ (e : ℕ × Window). e.0) es apart)

pub daypart_valid : (form : RowForm) (d : Data) (p : DaypartRow) → daypart_at form d ≡ Ok p → IsDaypartRow form p
unfolding daypart_at
daypart_valid form d p e =
    let now = bind_ok (needs (not (is_later_daypart form d)) fault.Later) _ p e in
    let all = bind_ok (exactly (with_new form 4 (codes "dates") d) d) _ p now.2 in
    let id = bind_ok (member_at id_at (codes "id") d) _ p all.2 in
    let window = bind_ok (window_at d) _ p id.2 in
    let es = bind_ok (member_at (list_at exception_at) (codes "exceptions") d) _ p window.2 in
    let ds = bind_ok (new_member_at form (list_at date_at) [] (codes "dates") d) _ p es.2 in
    let made = faultless_ok fault.Daypart (daypart_fault window.0 es.0 ds.0) (record { id = record { 0 = id.0 }; window = window.0; exceptions = sorted_by (λ e. e.0) es.0; dates = sorted_by (λ e. e.0) ds.0 }) p ds.2 in
    let dates = dates_ok form d ds.0 (has_new form (codes "dates") d) refl ds.1 in
    let exceptions = member_valid (list_at exception_at) (AllByRecursion IsException) (list_valid exception_at IsException exception_valid) (codes "exceptions") d es.0 es.1 in
    subst (IsDaypartRow form) made.1 (record {
      id = member_valid id_at IsId id_valid (codes "id") d id.0 id.1;
      window = window_valid d window.0 window.1;
      exceptions = all_sorted IsException (λ (e : ℕ × Window). e.0) es.0 exceptions;
      dates = all_sorted IsDate (λ (e : ℕ × Window). e.0) ds.0 dates.0;
      allowed = sorted_dates form ds.0 dates.1;
      accepted = daypart_ordered (record { 0 = id.0 }) window.0 es.0 (sorted_by (λ e. e.0) es.0) ds.0 (sorted_by (λ e. e.0) ds.0) made.0
          (sorted_moves (λ (e : ℕ × Window). e.0) es.0) (rising_sorted es.0 (exceptions_apart window.0 es.0 ds.0 made.0))
          (sorted_moves (λ (e : ℕ × Window). e.0) ds.0) (rising_sorted ds.0 (dates_apart window.0 es.0 ds.0 made.0));
    })

-- ---- repeats

bit_few : (w : ℕ) → 0 < w → w < 8 → 2 ^ (w - 1) ≤ 64
bit_few w some few =
    let low : w - 1 < 7 = omega arith in
    let is = bit_at (w - 1) low in
    omega (arith, is, bit_low (w - 1) low)

with_bit_ok : (bits bit n : ℕ) (b : Bool) → bit ≤ 64 → nat_lt bits bit ≡ b → (if b then Ok (bits + bit) else Err Shape) ≡ Ok n → n < 2 ^ 7
with_bit_ok bits bit n true few low e = let less = ltb-true bits bit low in rw (← ok_is (bits + bit) n e) (omega (arith, less, few))
with_bit_ok bits bit n false few low e = absurd (cc)

weekday_ok : (bits w n : ℕ) (b : Bool) → (nat_lt 0 w && nat_lt w 8) ≡ b → (if b then with_bit bits (2 ^ (w - 1)) else Err Shape) ≡ Ok n → n < 2 ^ 7
weekday_ok bits w n true in_week e =
    let parts = and_parts (nat_lt 0 w) (nat_lt w 8) in_week in
    with_bit_ok bits (2 ^ (w - 1)) n (nat_lt bits (2 ^ (w - 1))) (bit_few w (ltb-true 0 w parts.0) (ltb-true w 8 parts.1)) refl e
weekday_ok bits w n false in_week e = absurd (cc)

days_few : (bits : ℕ) (ds : Items) (n : ℕ) → bits < 2 ^ 7 → days_from bits ds ≡ Ok n → n < 2 ^ 7
days_few bits no_items n low e = rw (← ok_is bits n e) low
days_few bits (item d ds) n low e =
    let w = bind_ok (number_at d) _ n e in
    let more = bind_ok (with_weekday bits w.0) _ n w.2 in
    days_few more.0 ds n (weekday_ok bits w.0 more.0 _ refl more.1) more.2

days_valid : (d : Data) (n : ℕ) → days_at d ≡ Ok n → n < 2 ^ 7
days_valid d n e = let items = bind_ok (items_at d) (days_from 0) n e in days_few 0 items.0 n (omega arith) items.2

nullable_valid : {A : Type 0} (f : Data → Result A RowFault) (P : A → Type 0) → ((d : Data) (x : A) → f d ≡ Ok x → P x)
    → (d : Data) (o : Option A) → nullable_at f d ≡ Ok o → IfSome o P
nullable_valid {A} f P valid d o e = cases (is_some (as_null d)) o e
  where
    cases : (b : Bool) (o : Option A) → null_or b f d ≡ Ok o → IfSome o P
    cases true o e = rw (← ok_is None o e) tt
    cases false o e = let some = bind_ok (f d) (λ x. Ok (Some x)) o e in rw (← ok_is (Some some.0) o some.2) (valid d some.0 some.1)

repeat_valid : (d : Data) (r : RepeatRow) → repeat_at d ≡ Ok r → IsRepeatRow r
unfolding repeat_at
repeat_valid d r e =
    let form = bind_ok (exactly 4 d) _ r e in
    let days = bind_ok (member_at days_at (codes "days") d) _ r form.2 in
    let every = bind_ok (member_at number_at (codes "every") d) _ r days.2 in
    let unit = bind_ok (member_at unit_at (codes "unit") d) _ r every.2 in
    let until = bind_ok (member_at (nullable_at number_at) (codes "until") d) _ r unit.2 in
    subst IsRepeatRow (ok_is (record { unit = unit.0; every = every.0; days = days.0; until = until.0 }) r until.2) (record {
      every = member_valid number_at (λ n. n < 2 ^ 32) number_valid (codes "every") d every.0 every.1;
      days = member_valid days_at (λ n. n < 2 ^ 7) days_valid (codes "days") d days.0 days.1;
      until = member_valid (nullable_at number_at) (λ o. IfSome o (λ day. day < 2 ^ 32)) (nullable_valid number_at (λ n. n < 2 ^ 32) number_valid) (codes "until") d until.0 until.1;
    })

-- ---- events

layout_of : (d : Data) (t : Target) → layout_target d ≡ Ok t → IsTarget t
layout_of d t e =
    let id = bind_ok (member_at id_at (codes "layout") d) (λ n. Ok (Layout (record { 0 = n }))) t e in
    subst IsTarget (ok_is (Layout (record { 0 = id.0 })) t id.2) (member_valid id_at IsId id_valid (codes "layout") d id.0 id.1)

campaign_of : (d : Data) (t : Target) → campaign_target d ≡ Ok t → IsTarget t
campaign_of d t e =
    let id = bind_ok (member_at id_at (codes "campaign") d) (λ n. Ok (Campaign (record { 0 = n }))) t e in
    subst IsTarget (ok_is (Campaign (record { 0 = id.0 })) t id.2) (member_valid id_at IsId id_valid (codes "campaign") d id.0 id.1)

target_of : (d : Data) (t : Target) (b : Bool) → (if b then layout_target d else campaign_target d) ≡ Ok t → IsTarget t
target_of d t true e = layout_of d t e
target_of d t false e = campaign_of d t e

target_valid : (d : Data) (t : Target) → target_at d ≡ Ok t → IsTarget t
target_valid d t e = let form = bind_ok (exactly 1 d) _ t e in target_of d t (has_member (codes "layout") d) form.2

always_valid : (d : Data) (w : When) → always_at d ≡ Ok w → IsWhen w
always_valid d w e =
    let form = bind_ok (exactly 1 d) _ w e in
    let one = bind_ok (member_at true_at (codes "always") d) (λ one. Ok Always) w form.2 in
    subst IsWhen (ok_is Always w one.2) tt

custom_valid : (d : Data) (w : When) → custom_at d ≡ Ok w → IsWhen w
unfolding custom_at
custom_valid d w e =
    let form = bind_ok (exactly 2 d) _ w e in
    let from = bind_ok (member_at number_at (codes "from") d) _ w form.2 in
    let to = bind_ok (member_at number_at (codes "to") d) _ w from.2 in
    subst IsWhen (ok_is (Custom from.0 to.0) w to.2) (
      member_valid number_at (λ n. n < 2 ^ 32) number_valid (codes "from") d from.0 from.1,
      member_valid number_at (λ n. n < 2 ^ 32) number_valid (codes "to") d to.0 to.1,
    )

named_valid : (d : Data) (w : When) → named_at d ≡ Ok w → IsWhen w
unfolding named_at
named_valid d w e =
    let form = bind_ok (exactly 2 d) _ w e in
    let date = bind_ok (member_at number_at (codes "date") d) _ w form.2 in
    let daypart = bind_ok (member_at id_at (codes "daypart") d) _ w date.2 in
    subst IsWhen (ok_is (Named (record { 0 = daypart.0 }) date.0) w daypart.2) (
      member_valid id_at IsId id_valid (codes "daypart") d daypart.0 daypart.1,
      member_valid number_at (λ n. n < 2 ^ 32) number_valid (codes "date") d date.0 date.1,
    )

when_of : (d : Data) (w : When) (a b : Bool) → (if a then always_at d else (if b then custom_at d else named_at d)) ≡ Ok w → IsWhen w
when_of d w true b e = always_valid d w e
when_of d w false true e = custom_valid d w e
when_of d w false false e = named_valid d w e

when_valid : (d : Data) (w : When) → when_at d ≡ Ok w → IsWhen w
when_valid d w e = when_of d w (has_member (codes "always") d) (has_member (codes "from") d) e

not_false : (b : Bool) → not b ≡ true → b ≡ false
not_false true e = absurd (cc)
not_false false e = refl

parts_valid : (form : RowForm) (d : Data) (p : EventValue) → parts_at form d ≡ Ok p → IsEventParts form p
unfolding parts_at
parts_valid form d p e =
    let now = bind_ok (needs (not (is_later_event form d)) fault.Later) _ p e in
    let all = bind_ok (exactly (with_new form (event_members form) (codes "layer") d) d) _ p now.2 in
    let id = bind_ok (member_at id_at (codes "id") d) _ p all.2 in
    let layer = bind_ok (new_member_at form number_at 0 (codes "layer") d) _ p id.2 in
    let order = bind_ok (member_at number_at (codes "order") d) _ p layer.2 in
    let priority = bind_ok (member_at number_at (codes "priority") d) _ p order.2 in
    let repeat = bind_ok (member_at (nullable_at repeat_at) (codes "repeat") d) _ p priority.2 in
    let share = bind_ok (member_at number_at (codes "share") d) _ p repeat.2 in
    let target = bind_ok (member_at target_at (codes "target") d) _ p share.2 in
    let w = bind_ok (member_at when_at (codes "when") d) _ p target.2 in
    let known = not_false (is_later_event form d) (needs_ok (not (is_later_event form d)) fault.Later now.0 now.1) in
    let found = bind_ok (wants (get (codes "repeat") d) Shape) (nullable_at repeat_at) repeat.0 repeat.1 in
    let small = λ (name : List ℕ) (n : ℕ) (read : member_at number_at name d ≡ Ok n). member_valid number_at (λ n. n < 2 ^ 32) number_valid name d n read in
    subst (IsEventParts form) (ok_is (record { id = record { 0 = id.0 }; layer = layer.0; target = target.0; when = w.0; repeat = repeat.0; order = order.0; priority = priority.0; share = share.0 }) p w.2) (record {
      id = member_valid id_at IsId id_valid (codes "id") d id.0 id.1;
      layer = layer_now form d layer.0 layer.1;
      target = member_valid target_at IsTarget target_valid (codes "target") d target.0 target.1;
      when = member_valid when_at IsWhen when_valid (codes "when") d w.0 w.1;
      repeat = member_valid (nullable_at repeat_at) (λ o. IfSome o IsRepeatRow) (nullable_valid repeat_at IsRepeatRow repeat_valid) (codes "repeat") d repeat.0 repeat.1;
      unit = unit_now form d found.0 repeat.0 known found.1 found.2;
      order = small (codes "order") order.0 order.1;
      priority = small (codes "priority") priority.0 priority.1;
      share = small (codes "share") share.0 share.1;
    })

repeat_ok : (o p : Option RepeatRow) → made_repeat o ≡ Ok p → (o ≡ p) × IfSome p IsRepeat
repeat_ok None p e = let is = ok_is None p e in (is, rw (← is) tt)
repeat_ok (Some r) p e =
    let made = faultless_ok fault.Repeat (repeat_fault r.unit r.every r.days r.until) (Some r) p e in
    (made.1, rw (← made.1) (record { sound = made.0 }))

pub event_valid : (form : RowForm) (d : Data) (x : EventValue) → event_at form d ≡ Ok x → IsEventRow form x
unfolding event_at
event_valid form d x e =
    let parts = bind_ok (parts_at form d) _ x e in
    let p = parts.0 in
    let valid = parts_valid form d p parts.1 in
    let repeat = bind_ok (made_repeat p.repeat) _ x parts.2 in
    let same = repeat_ok p.repeat repeat.0 repeat.1 in
    let made = faultless_ok fault.Event (event_fault p.layer p.target p.when repeat.0 p.order p.priority p.share) (record { id = p.id; layer = p.layer; target = p.target; when = p.when; repeat = repeat.0; order = p.order; priority = p.priority; share = p.share }) x repeat.2 in
    subst (IsEventRow form) made.1 (record {
      id = valid.id;
      layer = layer_allowed form p.layer p.target p.when repeat.0 p.order p.priority p.share made.0 valid.layer;
      target = valid.target;
      when = valid.when;
      repeat = rw (← same.0) valid.repeat;
      unit = rw (← same.0) valid.unit;
      order = valid.order;
      priority = valid.priority;
      share = valid.share;
      accepted = record { repeats = same.1; sound = made.0 };
    })

-- ---- zones

telling_ok : (r : Result ZoneView ZoneFault) (rule z : ZoneRule) → telling r rule ≡ Ok z → IsOk r × (rule ≡ z)
telling_ok (Ok v) rule z e = (refl, ok_is rule z e)
telling_ok (Err f) rule z e = absurd (cc)

pub zone_valid : (d : Data) (z : ZoneRule) → zone_at d ≡ Ok z → IsZone z
unfolding zone_at
zone_valid d z e =
    let rule = bind_ok (rule_at d) _ z e in
    let told = telling_ok (zone_of rule.0) rule.0 z rule.2 in
    subst IsZone told.1 told.0
