-- Numbers and values of fields, byte by byte and field by field.
use Rattle.std.proofs.Common.{◌≡◌, ℕ, ◌+◌, ◌*◌, ◌-◌, ◌<◌, min, true, List, [], ◌∷◌, get_or, length, drop, refl, arith}
use Rattle.std.proofs.lemmas.Bool.Decides.{nat_tests}
use Rattle.std.proofs.lemmas.List.{drop_more}
use Rattle.std.specs.Char.{is_ascii_digit, digit_value}
use Rattle.std.specs.List.{list_all}
use Rattle.std.specs.Str.Parse.{digits_value_after}
use Rattle.sg_http.specs.Fields.{is_repeated}

-- a number that is cut is cut to the same, whatever digits follow
pub cut_number : (digits : List ℕ) (most n m : ℕ) → min n most ≡ min m most
    → min (digits_value_after 10 n digits) most ≡ min (digits_value_after 10 m digits) most
cut_number [] most n m same = same
cut_number (d ∷ digits) most n m same =
    let x = digit_value d in
    let next : min (n * 10 + x) most ≡ min (m * 10 + x) most = omega arith in
    cut_number digits most (n * 10 + x) (m * 10 + x) next

pub digit_is : (b : ℕ) → is_ascii_digit b ≡ true → digit_value b ≡ b - 48
digit_is b digit = grind (arith, nat_tests)

pub digit_passed : (value : List ℕ) (i : ℕ) → i < length value → is_ascii_digit (get_or value i 0) ≡ true
    → list_all is_ascii_digit (drop i value) ≡ list_all is_ascii_digit (drop (i + 1) value)
digit_passed value i inside digit = rw (drop_more value i 0 inside, digit) refl

pub number_passed : (value : List ℕ) (i n m most : ℕ) → i < length value
    → m ≡ min (n * 10 + digit_value (get_or value i 0)) most
    → min (digits_value_after 10 m (drop (i + 1) value)) most ≡ min (digits_value_after 10 n (drop i value)) most
number_passed value i n m most inside cut =
    let next = n * 10 + digit_value (get_or value i 0) in
    let same : min m most ≡ min next most = omega arith in
    rw (drop_more value i 0 inside) (cut_number (drop (i + 1) value) most m next same)

pub repeated : (vs ws us : List (List ℕ)) (v w : List ℕ) → vs ≡ v ∷ ws → ws ≡ w ∷ us → is_repeated vs ≡ true
repeated vs ws us v w first second = rw (first, second) refl
