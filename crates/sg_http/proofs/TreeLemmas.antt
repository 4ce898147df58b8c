-- The trees of the grammar for the heads that are made here: fields with one space before their value, and CR LF at
-- each end.
use Rattle.std.proofs.Common.{◌≡◌, ℕ, ◌<◌, Bool, true, false, ◌&&◌, not, IsTrue, List, [], ◌∷◌, ◌++◌, length, map, reverse, refl, arith, append_assoc}
use Rattle.std.specs.Prelude.{All, decimal, ◌^◌}
use Rattle.std.specs.List.{flat_map, list_all}
use Rattle.std.specs.Char.{is_ascii_digit}
use Rattle.std.proofs.lemmas.Bool.{and_parts, and_from, cond-false}
use Rattle.std.proofs.lemmas.Bool.Decides.{nat_tests}
use Rattle.std.proofs.lemmas.List.{reverse-append}
use Rattle.std.proofs.lemmas.List.Elements.{All-cons, All-nil}
use Rattle.std.proofs.lemmas.List.Folds.{list_all-append}
use Rattle.std.proofs.lemmas.Fmt.{decimal_is_IsNumeral}
use Rattle.httparse.specs.Grammar.{AllPass, Field, IsField, crlf, print_field, is_token_byte, is_value_byte, is_ows, skip_ows, trim_ows}
use Rattle.httparse.proofs.TrimLemmas.{trim_ows_space}
use Rattle.sg_http.specs.Texts.{lines_text}
use Rattle.sg_http.specs.Head.{is_newline}
use Rattle.sg_http.proofs.LineLemmas.{is_clean}
use Rattle.sg_http.proofs.DigitLemmas.{digits_pass}

-- a field by its name and its value
abbrev pub Pair : Type 0
Pair = List ℕ × List ℕ

abbrev pub field_of : Pair → Field
field_of pair = record { name = pair.0; raw = 32 ∷ pair.1; end = crlf }

abbrev pub line_of : Pair → List ℕ
line_of pair = pair.0 ++ (58 ∷ 32 ∷ pair.1)

pub fields_text : (pairs : List Pair) → flat_map print_field (map field_of pairs) ≡ lines_text (map line_of pairs)
fields_text [] = refl
fields_text (pair ∷ pairs) = let more = fields_text pairs in rw more (simp append_assoc)

-- a test of all bytes as a fact
pub AllPass-from_test : (test : ℕ → Bool) (bytes : List ℕ) → list_all test bytes ≡ true → AllPass test bytes
AllPass-from_test test [] pass = All-nil (λ b. IsTrue (test b))
AllPass-from_test test (b ∷ bytes) pass =
    let parts = and_parts (test b) (list_all test bytes) pass in
    All-cons (λ b. IsTrue (test b)) b bytes parts.0 (AllPass-from_test test bytes parts.1)

-- a name of token bytes, and a value of value bytes
pub record IsPair (pair : Pair) : Type 0 where
  pub some : 0 < length pair.0
  pub name : list_all is_token_byte pair.0 ≡ true
  pub value : list_all is_value_byte pair.1 ≡ true

pub IsField-from_pair : (pair : Pair) → IsPair pair → IsField (field_of pair)
IsField-from_pair pair is = record {
  name = (is.some, AllPass-from_test is_token_byte pair.0 is.name);
  raw = AllPass-from_test is_value_byte (32 ∷ pair.1) is.value;
}

abbrev pub ArePairs : List Pair → Type 0
ArePairs [] = Unit {0}
ArePairs (pair ∷ pairs) = IsPair pair × ArePairs pairs

pub fields_are : (pairs : List Pair) → ArePairs pairs → All IsField (map field_of pairs)
fields_are [] are = All-nil IsField
fields_are (pair ∷ pairs) are =
    All-cons IsField (field_of pair) (map field_of pairs) (IsField-from_pair pair are.0) (fields_are pairs are.1)

-- ---- digits as a value

digit_is_value : (b : ℕ) → is_ascii_digit b ≡ true → is_value_byte b ≡ true
digit_is_value b digit = grind (arith, nat_tests)

digit_is_no_blank : (b : ℕ) → is_ascii_digit b ≡ true → is_ows b ≡ false
digit_is_no_blank b digit = grind (arith, nat_tests)

pub digits_are_value : (ds : List ℕ) → list_all is_ascii_digit ds ≡ true → list_all is_value_byte ds ≡ true
digits_are_value [] pass = refl
digits_are_value (d ∷ ds) pass =
    let parts = and_parts (is_ascii_digit d) (list_all is_ascii_digit ds) pass in
    and_from (is_value_byte d) (list_all is_value_byte ds) (digit_is_value d parts.0) (digits_are_value ds parts.1)

no_blank_first : (ds : List ℕ) → list_all is_ascii_digit ds ≡ true → skip_ows ds ≡ ds
no_blank_first [] pass = refl
no_blank_first (d ∷ ds) pass =
    cond-false _ _ _ (digit_is_no_blank d (and_parts (is_ascii_digit d) (list_all is_ascii_digit ds) pass).0)

digits_back : (ds : List ℕ) → list_all is_ascii_digit ds ≡ true → list_all is_ascii_digit (reverse ds) ≡ true
digits_back [] pass = refl
digits_back (d ∷ ds) pass =
    let parts = and_parts (is_ascii_digit d) (list_all is_ascii_digit ds) pass in
    let end : reverse (d ∷ ds) ≡ reverse ds ++ (d ∷ []) = reverse-append (d ∷ []) ds in
    rw (end, list_all-append is_ascii_digit (reverse ds) (d ∷ []))
    (and_from (list_all is_ascii_digit (reverse ds)) (is_ascii_digit d && true) (digits_back ds parts.1)
    (and_from (is_ascii_digit d) true parts.0 refl))

-- digits behind a space come back without it
pub digits_trim : (ds : List ℕ) → list_all is_ascii_digit ds ≡ true → trim_ows (32 ∷ ds) ≡ ds
digits_trim ds pass = trim_ows_space ds (no_blank_first ds pass) (no_blank_first (reverse ds) (digits_back ds pass))

pub decimal_passes : (n : ℕ) → n < 2 ^ 64 → list_all is_ascii_digit (decimal n) ≡ true
decimal_passes n fits = digits_pass (decimal n) (decimal_is_IsNumeral n fits).0.1

digit_is_clean : (b : ℕ) → is_ascii_digit b ≡ true → not (is_newline b) ≡ true
digit_is_clean b digit = grind (arith, nat_tests)

pub digits_clean : (ds : List ℕ) → list_all is_ascii_digit ds ≡ true → is_clean ds ≡ true
digits_clean [] pass = refl
digits_clean (d ∷ ds) pass =
    let parts = and_parts (is_ascii_digit d) (list_all is_ascii_digit ds) pass in
    and_from (not (is_newline d)) (is_clean ds) (digit_is_clean d parts.0) (digits_clean ds parts.1)
