-- What a form allows of a row that was read.
use Rattle.std.proofs.Common.{◌≡◌, ◌≢◌, ◌≤◌, arith, ℕ, ◌^◌, ◌==◌, nat_lt, Bool, true, false, List, [], Option, Some, None, Result, Ok, Err, refl, sym, ◌∙◌, eqb-true}
use Rattle.std.proofs.lemmas.Bool.{eqb-false, ltb-false}
use Rattle.std.specs.Prelude.{IfSome, codes, if◌then◌else◌, is_some, unwrap_or, option_map, option_and_then}
use Rattle.std.specs.Str.{bytes_eq}
use Rattle.serde_json.specs.Data.{Data}
use Rattle.serde_json.specs.Find.{get, as_null, as_str, as_number, as_u64}
use Rattle.sg_base.specs.declared.limits.TheConstants.{MAX_LAYER}
use Rattle.sg_base.specs.declared.daypart.Window.{Window}
use Rattle.sg_base.specs.declared.repeat.Unit.{Unit as RepeatUnit}
use Rattle.sg_base.specs.declared.repeat.Unit.TheVariants.{Hour, Day, Week, Month, MonthWeekday, Year}
use Rattle.sg_base.specs.Repeat.{RepeatRow}
use Rattle.sg_rows.specs.declared.form.RowForm.{RowForm}
use Rattle.sg_rows.specs.declared.form.RowForm.TheVariants.{Version1, Version2, Edit}
use Rattle.sg_rows.specs.declared.fault.RowFault.{RowFault}
use Rattle.sg_rows.specs.declared.fault.RowFault.TheVariants.{Shape}
use Rattle.sg_rows.specs.Faults.{◌>>=◌, wants}
use Rattle.sg_rows.specs.Order.{sorted_by}
use Rattle.sg_rows.specs.Parts.{exactly, member_at, number_at, nullable_at, null_or, text_at, below}
use Rattle.sg_rows.specs.Forms.{has_new, new_member_at, AllowsDates, AllowsUnit, is_month_weekday, is_later_repeat, is_later_event, AllowsLayer}
use Rattle.sg_rows.specs.Reading.{days_at, unit_of, unit_at, repeat_at}
use Rattle.sg_rows.proofs.BindLemmas.{bind_ok}

-- ---- dates

pub some_dates : (form : RowForm) (name : List ℕ) (d : Data) (ds : List (ℕ × Window)) → has_new form name d ≡ true → AllowsDates form ds
some_dates Version1 name d ds e = absurd (cc)
some_dates Version2 name d ds e = tt
some_dates Edit name d ds e = tt

pub no_dates : (form : RowForm) (ds : List (ℕ × Window)) → ds ≡ [] → AllowsDates form ds
no_dates Version1 ds e = e
no_dates Version2 ds e = tt
no_dates Edit ds e = tt

pub sorted_dates : (form : RowForm) (ds : List (ℕ × Window)) → AllowsDates form ds → AllowsDates form (sorted_by (λ e. e.0) ds)
sorted_dates Version1 ds e = rw e refl
sorted_dates Version2 ds e = tt
sorted_dates Edit ds e = tt

-- ---- the layer

-- version 1 reads no layer
pub layer_now : (form : RowForm) (d : Data) (n : ℕ) → new_member_at form number_at 0 (codes "layer") d ≡ Ok n → form ≡ Version1 → n ≡ 0
layer_now Version1 d n is first = zero is
  where
    zero : ◌≡◌ {A = Result ℕ RowFault} (Ok 0) (Ok n) → n ≡ 0
    zero e = cc
layer_now Version2 d n is first = absurd (cc)
layer_now Edit d n is first = absurd (cc)

-- a layer that a form allows is one of the two
pub small_layer : (form : RowForm) (layer : ℕ) → AllowsLayer form layer → layer ≤ MAX_LAYER
small_layer Version1 layer h = omega (arith, h)
small_layer Version2 layer h = h
small_layer Edit layer h = h

-- ---- the unit of a repeat

unit_known : (name : List ℕ) (u : RepeatUnit) → bytes_eq name (codes "month-weekday") ≡ false → unit_of name ≡ Some u → u ≢ MonthWeekday
unit_known name u other is = hour (bytes_eq name (codes "hour")) (bytes_eq name (codes "day")) (bytes_eq name (codes "week")) (bytes_eq name (codes "month")) (bytes_eq name (codes "year")) (rw other at is)
  where
    hour : (h d w m y : Bool) → (if h then Some Hour else (if d then Some Day else (if w then Some Week else (if m then Some Month else (if y then Some Year else None))))) ≡ Some u → u ≢ MonthWeekday
    hour true d w m y e = λ same. absurd (cc)
    hour false true w m y e = λ same. absurd (cc)
    hour false false true m y e = λ same. absurd (cc)
    hour false false false true y e = λ same. absurd (cc)
    hour false false false false true e = λ same. absurd (cc)
    hour false false false false false e = λ same. absurd (cc)

wanted_unit : (o : Option RepeatUnit) (u : RepeatUnit) → wants o Shape ≡ Ok u → o ≡ Some u
wanted_unit (Some v) u e = cc
wanted_unit None u e = absurd (cc)

text_unit : (o : Option (List ℕ)) (u : RepeatUnit) → unwrap_or (option_map (λ name. bytes_eq name (codes "month-weekday")) o) false ≡ false
    → (wants o Shape >>= (λ name. wants (unit_of name) Shape)) ≡ Ok u → u ≢ MonthWeekday
text_unit None u other is = absurd (cc)
text_unit (Some name) u other is = unit_known name u other (wanted_unit (unit_of name) u is)

member_unit : (o : Option Data) (u : RepeatUnit) → unwrap_or (option_map is_month_weekday o) false ≡ false → (wants o Shape >>= unit_at) ≡ Ok u → u ≢ MonthWeekday
member_unit None u other is = absurd (cc)
member_unit (Some v) u other is = text_unit (as_str v) u other is

-- the unit of a repeat that was read is that of its member
unit_read : (v : Data) (r : RepeatRow) → repeat_at v ≡ Ok r → member_at unit_at (codes "unit") v ≡ Ok r.unit
unfolding repeat_at
unit_read v r e =
    let last : ℕ → ℕ → RepeatUnit → Result RepeatRow RowFault = λ days every unit. member_at (nullable_at number_at) (codes "until") v >>= (λ until. Ok (record { unit = unit; every = every; days = days; until = until })) in
    let third : ℕ → ℕ → Result RepeatRow RowFault = λ days every. member_at unit_at (codes "unit") v >>= last days every in
    let second : ℕ → Result RepeatRow RowFault = λ days. member_at number_at (codes "every") v >>= third days in
    let a = bind_ok (exactly 4 v) (λ form. member_at days_at (codes "days") v >>= second) r e in
    let b = bind_ok (member_at days_at (codes "days") v) second r a.2 in
    let c = bind_ok (member_at number_at (codes "every") v) (third b.0) r b.2 in
    let d = bind_ok (member_at unit_at (codes "unit") v) (last b.0 c.0) r c.2 in
    let f = bind_ok (member_at (nullable_at number_at) (codes "until") v) (λ until. Ok (record { unit = d.0; every = c.0; days = b.0; until = until })) r d.2 in
    rw (d.1, made d.0 c.0 b.0 f.0 f.2) refl
  where
    made : (unit : RepeatUnit) (every days : ℕ) (until : Option ℕ) → ◌≡◌ {A = Result RepeatRow RowFault} (Ok (record { unit = unit; every = every; days = days; until = until })) (Ok r) → unit ≡ r.unit
    made unit every days until e = cc

null_unit : (b : Bool) (v : Data) (o : Option RepeatRow) → is_later_repeat v ≡ false → null_or b repeat_at v ≡ Ok o → IfSome o (λ r. r.unit ≢ MonthWeekday)
null_unit true v None now is = tt
null_unit true v (Some r) now is = absurd (cc)
null_unit false v o now is =
    let a = bind_ok (repeat_at v) (λ r. Ok (Some r)) o is in
    some a.0 o (member_unit (get (codes "unit") v) a.0.unit now (unit_read v a.0 a.1)) a.2
  where
    some : (r : RepeatRow) (o : Option RepeatRow) → r.unit ≢ MonthWeekday → ◌≡◌ {A = Result (Option RepeatRow) RowFault} (Ok (Some r)) (Ok o) → IfSome o (λ r. r.unit ≢ MonthWeekday)
    some r None other e = tt
    some r (Some q) other e = λ same. other (let is : r ≡ q = cc in rw is same)

wanted : (o : Option Data) (v : Data) → wants o Shape ≡ Ok v → o ≡ Some v
wanted (Some w) v e = cc
wanted None v e = absurd (cc)

-- a unit that was read is one that the form has
pub unit_now : (form : RowForm) (d v : Data) (o : Option RepeatRow) → is_later_event form d ≡ false → wants (get (codes "repeat") d) Shape ≡ Ok v → nullable_at repeat_at v ≡ Ok o → IfSome o (λ r. AllowsUnit form r.unit)
unit_now Version1 d v o now there is =
    let later : is_later_repeat v ≡ false = rw (wanted (get (codes "repeat") d) v there) at now in
    null_unit (is_some (as_null v)) v o later is
unit_now Version2 d v None now there is = tt
unit_now Version2 d v (Some r) now there is = tt
unit_now Edit d v None now there is = tt
unit_now Edit d v (Some r) now there is = tt
