-- A word is a number exactly where it is the decimal that the number is written as.
use Rattle.std.proofs.Common.{◌≡◌, ◌∙◌, ℕ, ◌<◌, ◌≤◌, ◌^◌, ◌&&◌, nat_le, Bool, true, false, cond, List, ap, sym, refl, arith, Option, None, Some}
use Rattle.std.specs.Prelude.{MatchOption, option_and_then}
use Rattle.std.specs.Fmt.{decimal}
use Rattle.std.specs.Str.{bytes_eq}
use Rattle.std.specs.Str.Parse.{digits_value}
use Rattle.std.proofs.lemmas.Bool.{leb-true}
use Rattle.std.proofs.lemmas.Fmt.{decimal_is_IsNumeral}
use Rattle.std.proofs.lemmas.Slice.Eq.{bytes_eq-Decides}
use Rattle.sg_values.specs.Values.{number_at, ranged}

out_of_range : (low high n : ℕ) → (n ≤ high → ⊥) → ranged low high n ≡ None
out_of_range low high n none = elim (nat_le n high) as (λ b. nat_le n high ≡ b → cond (nat_le low n && b) (Some n) None ≡ None) [
  | true ↦ λ e. absurd (none (leb-true n high e))
  | false ↦ λ _. elim (nat_le low n) as (λ c. cond (c && false) (Some n) None ≡ None) [ true ↦ refl | false ↦ refl ]
] refl

pub number_is : (o : Option ℕ) (low high : ℕ) (word : List ℕ) → high < 2 ^ 64 → MatchOption o ((n : ℕ) → n < 2 ^ 64 → word ≡ decimal n → ⊥) (λ n. (n < 2 ^ 64) × (word ≡ decimal n))
    → option_and_then (ranged low high) o ≡ number_at low high word
number_is None low high word fits none =
    let m : ℕ = digits_value 10 word in
    elim (bytes_eq word (decimal m)) as (λ b. bytes_eq word (decimal m) ≡ b → None ≡ cond b (ranged low high m) None) [
      | true ↦ λ e. sym (out_of_range low high m (λ le. none m (omega arith) ((bytes_eq-Decides word (decimal m)).0 e)))
      | false ↦ λ _. refl
    ] refl
number_is (Some n) low high word fits is =
    let same : digits_value 10 word ≡ n = ap (digits_value 10) is.1 ∙ (decimal_is_IsNumeral n is.0).1 in
    let written : bytes_eq word (decimal (digits_value 10 word)) ≡ true = (bytes_eq-Decides word (decimal (digits_value 10 word))).1 (is.1 ∙ ap decimal (sym same)) in
    ap (ranged low high) (sym same) ∙ sym (ap (λ (b : Bool). cond b (ranged low high (digits_value 10 word)) None) written)
