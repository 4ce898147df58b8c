-- The number that a text names.
use Rattle.std.proofs.Common.{◌≡◌, ◌≢◌, ℕ, ◌<◌, ◌^◌, List, ◌∷◌, [], ◌++◌, codes, decimal, MatchOption, None, Some, Ok, Result, sym, ◌∙◌, ap, subst, arith}
use Rattle.std.specs.declared.option.Option.{Option}
use Rattle.std.proofs.lemmas.Fmt.{IsAscii-decimal, decimal_injective}
use Rattle.std.proofs.lemmas.List.{append_cancel_left, append_cancel_right}
use Rattle.std.proofs.lemmas.Str.{IsUtf8-from_ascii}
use Rattle.std.specs.Str.{IsUtf8}
use Rattle.sg_exchange.specs.Ends.{number_text}

wide : (n : ℕ) → n < 2 ^ 32 → n < 2 ^ 64
wide n lt = omega (arith, lt)

pub digits_utf8 : (digits : List ℕ) (n : ℕ) → n < 2 ^ 32 → digits ≡ decimal n → IsUtf8 digits
digits_utf8 digits n lt is = subst IsUtf8 (sym is) (IsUtf8-from_ascii (decimal n) (IsAscii-decimal n (wide n lt)))

-- a text names one number
pub one_number : (before : List ℕ) (m n : ℕ) → m < 2 ^ 64 → n < 2 ^ 64 → number_text before m ≡ number_text before n → m ≡ n
one_number before m n small few is =
    decimal_injective m n small few
    (append_cancel_right (decimal m) (decimal n) (codes "}")
    (append_cancel_left before (decimal m ++ codes "}") (decimal n ++ codes "}") is))

pub ok_is : {E : Type 0} (r : Result ℕ E) (m n : ℕ) → r ≡ Ok m → r ≡ Ok n → m ≡ n
ok_is r m n is same = cc

-- the number between a text and a closing brace
pub between_is : (bytes before after digits : List ℕ) (r : Option ℕ) → bytes ≡ before ++ after → after ≡ digits ++ codes "}"
    → MatchOption r ((n : ℕ) → n < 2 ^ 32 → digits ≢ decimal n) (λ n. digits ≡ decimal n)
    → MatchOption r ((n : ℕ) → n < 2 ^ 32 → bytes ≢ number_text before n) (λ n. bytes ≡ number_text before n)
between_is bytes before after digits None front back none = λ n lt is.
    none n lt
    (append_cancel_right digits (decimal n) (codes "}")
    (append_cancel_left before (digits ++ codes "}") (decimal n ++ codes "}")
    (sym (front ∙ ap (λ (l : List ℕ). before ++ l) back) ∙ is)))
between_is bytes before after digits (Some n) front back found =
    front ∙ ap (λ (l : List ℕ). before ++ l) (back ∙ ap (λ (l : List ℕ). l ++ codes "}") found)
