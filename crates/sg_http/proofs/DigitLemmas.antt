-- Digits and the numbers that they write.
use Rattle.std.proofs.Common.{◌≡◌, ℕ, ◌^◌, ◌<◌, ◌≤◌, min, nat_lt, nat_le, Bool, true, false, ◌&&◌, List, [], ◌∷◌, length, refl, ap, ◌∙◌, arith, Option, Some, None, if◌then◌else◌, lit<}
use Rattle.std.proofs.Math.Nat.{pow-le-pow_right}
use Rattle.std.proofs.lemmas.Bool.{and_parts, and_from, le-leb}
use Rattle.std.proofs.lemmas.Bool.Decides.{nat_tests}
use Rattle.std.proofs.lemmas.Int.Digits.{digits_value-lt}
use Rattle.std.specs.Char.{is_ascii_digit, digit_value}
use Rattle.std.specs.List.{list_all}
use Rattle.std.specs.Str.Parse.{AllDigits, digits_value}
use Rattle.sg_http.specs.Fields.{is_number}
use Rattle.sg_http.specs.Replies.{short_number}

digit_below : (b : ℕ) → is_ascii_digit b ≡ true → digit_value b < 10
digit_below b digit = grind (arith, nat_tests)

digit_from : (b : ℕ) → digit_value b < 10 → is_ascii_digit b ≡ true
digit_from b below = grind (arith, nat_tests)

pub AllDigits-from_test : (ds : List ℕ) → list_all is_ascii_digit ds ≡ true → AllDigits 10 ds
AllDigits-from_test [] pass = tt
AllDigits-from_test (d ∷ ds) pass =
    let parts = and_parts (is_ascii_digit d) (list_all is_ascii_digit ds) pass in
    (digit_below d parts.0, AllDigits-from_test ds parts.1)

pub digits_pass : (ds : List ℕ) → AllDigits 10 ds → list_all is_ascii_digit ds ≡ true
digits_pass [] digits = refl
digits_pass (d ∷ ds) digits =
    and_from (is_ascii_digit d) (list_all is_ascii_digit ds) (digit_from d digits.0) (digits_pass ds digits.1)

-- ten digits write less than this
few_digits : (ds : List ℕ) → length ds ≤ 10 → is_number ds ≡ true → digits_value 10 ds < 10000000000
few_digits ds short number =
    let digits = AllDigits-from_test ds (and_parts (nat_lt 0 (length ds)) (list_all is_ascii_digit ds) number).1 in
    let most : 10 ^ length ds ≤ 10 ^ 10 = pow-le-pow_right {n = 10} (lit< tt) short in
    omega (arith, digits_value-lt 10 ds digits, most)

-- of ten digits at most nothing is cut
pub short_is : (value : List ℕ) (r : Option ℕ) → length value ≤ 10
    → r ≡ (if is_number value then Some (min (digits_value 10 value) 10000000000) else None) → r ≡ short_number value
short_is value r short is = by_test (is_number value) refl is
  where
    by_test : (number : Bool) → is_number value ≡ number
        → r ≡ (if number then Some (min (digits_value 10 value) 10000000000) else None)
        → r ≡ (if number && nat_le (length value) 10 then Some (digits_value 10 value) else None)
    by_test false test is = is
    by_test true test is =
        let less : min (digits_value 10 value) 10000000000 ≡ digits_value 10 value =
        omega (arith, few_digits value short test) in
        let fits : nat_le (length value) 10 ≡ true = le-leb _ _ short in
        rw fits (is ∙ ap Some less)
