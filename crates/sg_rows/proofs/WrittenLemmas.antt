-- The text of a value in front of a rest, and the escapes of what rows have in their texts: none but two.
use Rattle.std.proofs.Common.{◌≡◌, ℕ, suc, ◌+◌, ◌-◌, ◌/◌, ◌%◌, ◌<◌, ◌≤◌, ◌==◌, ◌||◌, nat_lt, nat_le, not, Bool, true, false, List, [], ◌∷◌, ◌++◌, map, filter, drop, get_or, drop-cons, refl, ap, ◌∙◌, append_assoc, append-nil, arith, eqb-true, ℤ, pos, negsuc}
use Rattle.std.proofs.lemmas.Bool.Decides.{nat_tests}
use borrow.Author.Tests.{leb-true}
use Rattle.std.specs.Prelude.{slice_index, if◌then◌else◌}
use Rattle.std.specs.Fmt.{signed_decimal}
use Rattle.json.specs.Print.{escape, escape_byte, quoted}
use Rattle.hex.specs.Hex.{IsBytes, encode_with, encode_lower, lower_digits}
use Rattle.serde_json.specs.Data.{Data, null, boolean, number, string, array, object, Items, no_items, item, Members, no_members, member}
use Rattle.serde_json.specs.Find.{of_integer}
use Rattle.serde_json.specs.View.{items_of}
use Rattle.serde_json.specs.Written.{number_text, comma_if, compact_text, items_text, members_text}
use Rattle.sg_base.specs.declared.repeat.Unit.{Unit as RepeatUnit}
use Rattle.sg_base.specs.declared.repeat.Unit.TheVariants.{Hour, Day, Week, Month, MonthWeekday, Year}
use Rattle.sg_rows.specs.Text.{whole, unit_text}
use Rattle.sg_rows.specs.Written.{text_before, items_before, members_before, with_chosen}
use Rattle.sg_rows.proofs.DayLemmas.{passes_below, passes_at, is_chosen, week}

-- ---- a text in front of a rest

regroup : (comma key value values rest : List ℕ) → comma ++ (key ++ 58 ∷ (value ++ (values ++ rest))) ≡ (comma ++ (key ++ 58 ∷ (value ++ values))) ++ rest
regroup comma key value values rest = simp append_assoc

mutual
  pub text_before-is : (d : Data) (rest : List ℕ) → text_before d rest ≡ compact_text d ++ rest
  text_before-is null rest = refl
  text_before-is (boolean b) rest = refl
  text_before-is (number n) rest = refl
  text_before-is (string s) rest = refl
  text_before-is (array ds) rest = ap (λ x. 91 ∷ x) (items_before-is false ds rest)
  text_before-is (object ms) rest = ap (λ x. 123 ∷ x) (members_before-is false ms rest)

  items_before-is : (later : Bool) (ds : Items) (rest : List ℕ) → items_before later ds rest ≡ items_text later ds ++ rest
  items_before-is later no_items rest = refl
  items_before-is later (item d ds) rest =
      rw (text_before-is d (items_before true ds rest), items_before-is true ds rest) (simp append_assoc)

  members_before-is : (later : Bool) (ms : Members) (rest : List ℕ) → members_before later ms rest ≡ members_text later ms ++ rest
  members_before-is later no_members rest = refl
  members_before-is later (member k d ms) rest =
      rw (text_before-is d (members_before true ms rest), members_before-is true ms rest) (regroup (comma_if later) (quoted k) (compact_text d) (members_text true ms) rest)

-- nothing after it
pub text_alone : (d : Data) → text_before d [] ≡ compact_text d
text_alone d = text_before-is d [] ∙ append-nil (compact_text d)

-- ---- escapes

pub plain_byte : (b : ℕ) → 32 ≤ b → ((b == 34) || (b == 92)) ≡ false → escape_byte b ≡ b ∷ []
unfolding escape_byte
plain_byte b printable e =
    let a : (b == 8) ≡ false = grind (arith, nat_tests) in
    let f : (b == 12) ≡ false = grind (arith, nat_tests) in
    let n : (b == 10) ≡ false = grind (arith, nat_tests) in
    let r : (b == 13) ≡ false = grind (arith, nat_tests) in
    let t : (b == 9) ≡ false = grind (arith, nat_tests) in
    let high : nat_lt b 32 ≡ false = grind (arith, nat_tests) in
    rw (e, a, f, n, r, t, high) refl

pub escaped_byte : (b : ℕ) → 32 ≤ b → ((b == 34) || (b == 92)) ≡ true → escape_byte b ≡ 92 ∷ b ∷ []
unfolding escape_byte
escaped_byte b printable e =
    let some : nat_lt 0 b ≡ true = grind (arith, nat_tests) in
    rw (e, some) refl

not_true : (b : Bool) → not b ≡ true → b ≡ false
not_true true e = absurd (cc)
not_true false e = refl

-- the digits of a digest have no escape
digit_plain : (d : ℕ) → d < 16 → escape_byte (slice_index lower_digits d) ≡ slice_index lower_digits d ∷ []
unfolding passes_below
digit_plain d h =
    plain_byte (slice_index lower_digits d)
    (leb-true 32 _ (passes_at (λ n. nat_le 32 (slice_index lower_digits n)) 16 d refl h))
    (not_true _ (passes_at (λ n. not ((slice_index lower_digits n == 34) || (slice_index lower_digits n == 92))) 16 d refl h))

pub digest_plain : (bytes : List ℕ) → IsBytes bytes → escape (encode_lower bytes) ≡ encode_lower bytes
unfolding encode_with
digest_plain [] h = refl
digest_plain (b ∷ rest) h =
    let fits : b < 256 = h 0 in
    let high : b / 16 < 16 = omega arith in
    let low : b % 16 < 16 = omega arith in
    rw (digit_plain (b / 16) high, digit_plain (b % 16) low, digest_plain rest (λ k. h (suc k))) refl

pub unit_plain : (u : RepeatUnit) → escape (unit_text u) ≡ unit_text u
unfolding escape_byte
unit_plain Hour = refl
unit_plain Day = refl
unit_plain Week = refl
unit_plain Month = refl
unit_plain MonthWeekday = refl
unit_plain Year = refl

pub integer_text : (z : ℤ) → number_text (of_integer z) ≡ signed_decimal z
integer_text (pos n) = refl
integer_text (negsuc n) = refl

-- ---- weekdays

-- those from a weekday on
abbrev pub days_left : ℕ → ℕ → Items
days_left days w = items_of (map whole (filter (is_chosen days) (drop (w - 1) week)))

chosen_first : (days w : ℕ) (ws : List ℕ) (b : Bool) → is_chosen days w ≡ b → items_of (map whole (if b then w ∷ filter (is_chosen days) ws else filter (is_chosen days) ws)) ≡ with_chosen days w (items_of (map whole (filter (is_chosen days) ws)))
chosen_first days w ws true e = rw e refl
chosen_first days w ws false e = rw e refl

day_at : (i : ℕ) → i < 7 → get_or week i 0 ≡ i + 1
unfolding passes_below
day_at i h = eqb-true _ _ (passes_at (λ n. get_or week n 0 == n + 1) 7 i refl h)

week_from : (w : ℕ) → 1 ≤ w → w < 8 → drop (w - 1) week ≡ w ∷ drop w week
week_from w some few =
    let low : w - 1 < 7 = omega arith in
    let here : get_or week (w - 1) 0 ≡ w = day_at (w - 1) low ∙ omega arith in
    let next : suc (w - 1) ≡ w = omega arith in
    drop-cons week (w - 1) 0 low ∙ rw (here, next) refl

-- the next weekday is written, or left out
pub days_next : (days w : ℕ) → 1 ≤ w → w < 8 → days_left days w ≡ with_chosen days w (days_left days (w + 1))
days_next days w some few =
    let next : w + 1 - 1 ≡ w = omega arith in
    rw next (ap (λ (ws : List ℕ). items_of (map whole (filter (is_chosen days) ws))) (week_from w some few) ∙ chosen_first days w (drop w week) (is_chosen days w) refl)
