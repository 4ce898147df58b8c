-- The JSON of a valid row is plain, and nests no deeper than the rows of a manifest may.
use Rattle.std.proofs.Common.{◌≡◌, ℕ, ◌-◌, ◌/◌, ◌%◌, ◌^◌, ◌<◌, ◌≤◌, ◌==◌, ◌&&◌, length, nat_lt, Bool, true, false, List, [], ◌∷◌, filter, arith, refl}
use Rattle.std.proofs.lemmas.Int.{ints}
use Rattle.std.proofs.lemmas.Bool.{and_parts, ltb-true}
use Rattle.std.proofs.lemmas.Str.{IsUtf8-from_ascii}
use Rattle.std.proofs.lemmas.Str.Ascii.{IsAscii-nil, IsAscii-cons}
use Rattle.std.specs.Prelude.{if◌then◌else◌, IsAscii, Option, Some, None, IfSome}
use Rattle.std.specs.List.{AllByRecursion}
use Rattle.serde_json.specs.Data.{string, object}
use Rattle.hex.specs.Hex.{encode_lower, lower_digits}
use Rattle.hex.proofs.HexLemmas.{IsAscii-encode_with}
use Rattle.sg_base.specs.declared.ids.LayoutId.{LayoutId}
use Rattle.sg_base.specs.declared.layout.Item.{Item}
use Rattle.sg_base.specs.declared.layout.Region.{Region}
use Rattle.sg_base.specs.declared.campaign.Campaign.{Campaign as CampaignRow}
use Rattle.sg_base.specs.declared.daypart.Window.{Window}
use Rattle.sg_base.specs.declared.repeat.Unit.{Unit as RepeatUnit}
use Rattle.sg_base.specs.declared.repeat.Unit.TheVariants.{Hour, Day, Week, Month, MonthWeekday, Year}
use Rattle.sg_base.specs.declared.event.When.{When}
use Rattle.sg_base.specs.declared.event.When.TheVariants.{Always, Custom, Named}
use Rattle.sg_base.specs.declared.event.Target.{Target}
use Rattle.sg_base.specs.declared.event.Target.TheVariants.{Layout, Campaign}
use Rattle.sg_base.specs.declared.file.Listed.{Listed}
use Rattle.sg_base.specs.declared.zone.ZoneRule.{ZoneRule}
use Rattle.sg_base.specs.declared.zone.ZoneRule.TheVariants.{Offset, Posix}
use Rattle.sg_base.specs.Layout.{LayoutRow}
use Rattle.sg_base.specs.Daypart.{DaypartRow}
use Rattle.sg_base.specs.Repeat.{RepeatRow}
use Rattle.sg_base.specs.Event.{EventValue}
use Rattle.sg_rows.specs.declared.form.RowForm.{RowForm}
use Rattle.sg_rows.specs.declared.form.RowForm.TheVariants.{Version1, Version2, Edit}
use Rattle.sg_rows.specs.Forms.{AllowsLayer}
use Rattle.sg_rows.proofs.FormLemmas.{small_layer}
use Rattle.sg_rows.specs.Zone.{IsZone}
use Rattle.sg_rows.specs.Rows.{IsId, IsItem, IsRegion, IsLayoutRow, IsLayoutId, IsCampaignRow, IsException, IsDate, IsDaypartRow, IsTarget, IsWhen, IsRepeatRow, IsEventRow, IsListed}
use Rattle.sg_rows.specs.Text.{whole, item_json, region_json, layout_json, layout_id_json, campaign_json, exception_json, date_json, undated_json, dated_json, daypart_json, weekdays, unit_text, until_json, repeat_json, target_json, when_json, last_members, flat_members, layered_members, event_json, file_json, zone_json}
use Rattle.sg_rows.proofs.ZoneLemmas.{minutes_of_zone, text_of_zone}
use Rattle.sg_rows.proofs.CompactSound.{Sound, AreMembersSound, Sound-null, Sound-boolean, Sound-unsigned, Sound-of_integer, Sound-string, Sound-literal, Sound-list, Sound-object}

number_sound : {n : ℕ} (k : ℕ) → k < 2 ^ 32 → Sound n (whole k)
number_sound k h = Sound-unsigned k (omega arith)

pub id_sound : {n : ℕ} (k : ℕ) → IsId k → Sound n (whole k)
id_sound k h = number_sound k h.fits

item_sound : (i : Item) → IsItem i → Sound 1 (item_json i)
item_sound i h = Sound-object refl (id_sound _ h.media, (number_sound _ h.seconds, tt))

region_sound : (r : Region) → IsRegion r → Sound 3 (region_json r)
region_sound r h = Sound-object refl (id_sound _ h.id, (Sound-list item_sound r.items h.items, tt))

pub layout_sound : (l : LayoutRow) → IsLayoutRow l → Sound 5 (layout_json l)
layout_sound l h = Sound-object refl (id_sound _ h.id, (Sound-list region_sound l.regions h.regions, tt))

layout_id_sound : (l : LayoutId) → IsLayoutId l → Sound 3 (layout_id_json l)
layout_id_sound l h = id_sound _ h

pub campaign_sound : (c : CampaignRow) → IsCampaignRow c → Sound 5 (campaign_json c)
campaign_sound c h = Sound-object refl (id_sound _ h.id, (Sound-list layout_id_sound c.layouts h.layouts, tt))

exception_sound : (e : ℕ × Window) → IsException e → Sound 3 (exception_json e)
exception_sound e h =
    Sound-object refl (number_sound _ (omega (arith, h.day)), (number_sound _ h.window.end, (number_sound _ h.window.start, tt)))

date_sound : (e : ℕ × Window) → IsDate e → Sound 3 (date_json e)
date_sound e h = Sound-object refl (number_sound _ h.date, (number_sound _ h.window.end, (number_sound _ h.window.start, tt)))

pub undated_sound : (form : RowForm) (d : DaypartRow) → IsDaypartRow form d → Sound 5 (undated_json d)
undated_sound form d h =
    Sound-object refl (number_sound _ h.window.end, (Sound-list exception_sound d.exceptions h.exceptions, (id_sound _ h.id, (number_sound _ h.window.start, tt))))

dated_sound : (form : RowForm) (d : DaypartRow) → IsDaypartRow form d → Sound 5 (dated_json d)
dated_sound form d h =
    Sound-object refl
    (Sound-list date_sound d.dates h.dates, (number_sound _ h.window.end, (Sound-list exception_sound d.exceptions h.exceptions, (id_sound _ h.id, (number_sound _ h.window.start, tt)))))

pub daypart_sound : (form : RowForm) (d : DaypartRow) → IsDaypartRow form d → Sound 5 (daypart_json form d)
daypart_sound Version1 d h = undated_sound Version1 d h
daypart_sound Version2 d h = dated_sound Version2 d h
daypart_sound Edit d h = dated_sound Edit d h

abbrev pub IsSmall : ℕ → Type 0
IsSmall n = n < 2 ^ 32

small_sound : (n : ℕ) → IsSmall n → Sound 2 (whole n)
small_sound n h = number_sound n h

kept_or_not : {A : Type 0} (P : A → Type 0) (b : Bool) (x : A) (xs : List A) → P x → AllByRecursion P xs → AllByRecursion P (if b then x ∷ xs else xs)
kept_or_not P true x xs p h = (p, h)
kept_or_not P false x xs p h = h

AllByRecursion-filter : {A : Type 0} (P : A → Type 0) (p : A → Bool) (xs : List A) → AllByRecursion P xs → AllByRecursion P (filter p xs)
AllByRecursion-filter P p [] h = tt
AllByRecursion-filter P p (x ∷ xs) h = kept_or_not P (p x) x (filter p xs) h.0 (AllByRecursion-filter P p xs h.1)

pub weekdays_small : (days : ℕ) → AllByRecursion IsSmall (weekdays days)
weekdays_small days = AllByRecursion-filter IsSmall (λ w. days / 2 ^ (w - 1) % 2 == 1) (1 ∷ 2 ∷ 3 ∷ 4 ∷ 5 ∷ 6 ∷ 7 ∷ [])
    (omega arith, (omega arith, (omega arith, (omega arith, (omega arith, (omega arith, (omega arith, tt)))))))

kept_length : {A : Type 0} (x : A) (ys zs : List A) (b : Bool) → length ys ≤ length zs → length (if b then x ∷ ys else ys) ≤ length (x ∷ zs)
kept_length x ys zs true h = omega arith
kept_length x ys zs false h = omega arith

length-filter : {A : Type 0} (p : A → Bool) (xs : List A) → length (filter p xs) ≤ length xs
length-filter p [] = omega arith
length-filter p (x ∷ xs) = kept_length x (filter p xs) xs (p x) (length-filter p xs)

pub weekdays_few : (days : ℕ) → length (weekdays days) ≤ 7
weekdays_few days = length-filter (λ w. days / 2 ^ (w - 1) % 2 == 1) (1 ∷ 2 ∷ 3 ∷ 4 ∷ 5 ∷ 6 ∷ 7 ∷ [])

unit_sound : (u : RepeatUnit) → Sound 3 (string (unit_text u))
unit_sound Hour = Sound-literal _ refl
unit_sound Day = Sound-literal _ refl
unit_sound Week = Sound-literal _ refl
unit_sound Month = Sound-literal _ refl
unit_sound MonthWeekday = Sound-literal _ refl
unit_sound Year = Sound-literal _ refl

until_sound : (o : Option ℕ) → IfSome o (λ day. day < 2 ^ 32) → Sound 3 (until_json o)
until_sound None h = Sound-null
until_sound (Some day) h = number_sound day h

repeat_sound : (o : Option RepeatRow) → IfSome o IsRepeatRow → Sound 4 (repeat_json o)
repeat_sound None h = Sound-null
repeat_sound (Some r) h =
    Sound-object refl (Sound-list small_sound (weekdays r.days) (weekdays_small r.days), (number_sound _ h.every, (unit_sound r.unit, (until_sound r.until h.until, tt))))

target_sound : (t : Target) → IsTarget t → Sound 4 (target_json t)
target_sound (Layout id) h = Sound-object refl (id_sound _ h, tt)
target_sound (Campaign id) h = Sound-object refl (id_sound _ h, tt)

when_sound : (w : When) → IsWhen w → Sound 4 (when_json w)
when_sound Always h = Sound-object refl (Sound-boolean true, tt)
when_sound (Custom from to) h = Sound-object refl (number_sound _ h.0, (number_sound _ h.1, tt))
when_sound (Named daypart date) h = Sound-object refl (number_sound _ h.1, (id_sound _ h.0, tt))

-- the members of an event behind its layer
pub last_sound : (form : RowForm) (e : EventValue) → IsEventRow form e → AreMembersSound 4 (last_members e)
last_sound form e h = (
  number_sound _ h.order,
  (
    number_sound _ h.priority,
    (repeat_sound e.repeat h.repeat, (number_sound _ h.share, (target_sound e.target h.target, (when_sound e.when h.when, tt)))),
  ),
)

pub layer_sound : (form : RowForm) (layer : ℕ) → AllowsLayer form layer → Sound 4 (whole layer)
layer_sound form layer h = number_sound layer (omega (arith, small_layer form layer h))

flat_sound : (form : RowForm) (e : EventValue) → IsEventRow form e → Sound 5 (object (flat_members e))
flat_sound form e h = Sound-object refl (id_sound _ h.id, last_sound form e h)

layered_sound : (form : RowForm) (e : EventValue) → IsEventRow form e → Sound 5 (object (layered_members e))
layered_sound form e h = Sound-object refl (id_sound _ h.id, (layer_sound form e.layer h.layer, last_sound form e h))

pub event_sound : (form : RowForm) (e : EventValue) → IsEventRow form e → Sound 5 (event_json form e)
event_sound Version1 e h = flat_sound Version1 e h
event_sound Version2 e h = layered_sound Version2 e h
event_sound Edit e h = layered_sound Edit e h

are_all_ascii : List ℕ → Bool
are_all_ascii [] = true
are_all_ascii (b ∷ bs) = nat_lt b 128 && are_all_ascii bs

IsAscii-test : (bs : List ℕ) → are_all_ascii bs ≡ true → IsAscii bs
unfolding are_all_ascii
IsAscii-test [] e = IsAscii-nil
IsAscii-test (b ∷ bs) e = let parts = and_parts _ _ e in IsAscii-cons b bs (ltb-true b 128 parts.0) (IsAscii-test bs parts.1)

IsAscii-lower_digits : IsAscii lower_digits
unfolding are_all_ascii
IsAscii-lower_digits = IsAscii-test lower_digits refl

pub file_sound : (f : Listed) → IsListed f → Sound 5 (file_json f)
file_sound f h =
    Sound-object refl
    (id_sound _ h.media, (Sound-unsigned _ (omega (arith, h.few)), (Sound-string _ (IsUtf8-from_ascii (encode_lower f.md5) (IsAscii-encode_with lower_digits f.md5 IsAscii-lower_digits)), tt)))

pub zone_sound : (z : ZoneRule) → IsZone z → Sound 6 (zone_json z)
zone_sound (Offset z) h =
    let minutes = minutes_of_zone z h in
    Sound-object refl (Sound-of_integer z (omega (arith, ints, minutes.low, minutes.high)), tt)
zone_sound (Posix text) h = Sound-object refl (Sound-string text (IsUtf8-from_ascii text (text_of_zone text h)), tt)
