-- A record of numbers is their digits with commas between them, since none of them gets quotes.
use Rattle.std.proofs.Common.{◌≡◌, ◌∙◌, ℕ, ◌^◌, ◌<◌, ◌≤◌, ◌||◌, List, [], ◌∷◌, ◌++◌, Bool, false, cond, ap, refl, arith, codes, append_assoc}
use Rattle.std.specs.Char.{digit_value}
use Rattle.std.specs.Fmt.{decimal}
use Rattle.std.specs.Io.KnownBytes.{Appends}
use Rattle.std.specs.Prelude.{Option, None, Some}
use Rattle.std.proofs.Common.{subst}
use Rattle.std.specs.List.{list_any}
use Rattle.std.specs.Str.Parse.{AllDigits}
use Rattle.std.proofs.lemmas.Bool.{ne_eqb}
use Rattle.std.proofs.lemmas.Fmt.{decimal_is_IsNumeral_wide}
use Rattle.std.proofs.lemmas.List.{append-nil}
use Rattle.std.proofs.lemmas.Str.Parse.{digit_from_value}
use Rattle.csv.specs.Writing.{default_writer, field_text, fields_text, is_blank, needs_byte, quoted, row_text}
use Rattle.sg_report.specs.declared.line.Line.{Line}
use Rattle.sg_report.specs.Lines.{head_text, line_text}

plain_digit : (c : ℕ) → digit_value c < 10 → needs_byte default_writer c ≡ false
plain_digit c h =
    let range = digit_from_value c h in
    let low : 48 ≤ c = range.0 in
    rw (ne_eqb c 44 (omega arith), ne_eqb c 34 (omega arith), ne_eqb c 13 (omega arith), ne_eqb c 10 (omega arith)) refl

plain_digits : (ds : List ℕ) → AllDigits 10 ds → list_any (needs_byte default_writer) ds ≡ false
plain_digits [] a = refl
plain_digits (d ∷ ds) a = ap (λ (b : Bool). b || list_any (needs_byte default_writer) ds) (plain_digit d a.0) ∙ plain_digits ds a.1

plain_number : (n : ℕ) → n < 2 ^ 128 → field_text default_writer (decimal n) ≡ decimal n
plain_number n h = ap (λ (b : Bool). cond b (quoted default_writer (decimal n)) (decimal n)) (plain_digits (decimal n) (decimal_is_IsNumeral_wide n (omega arith)).0.1)

joined : (a b c d : List ℕ) → (a ++ (44 ∷ (b ++ (44 ∷ (c ++ (44 ∷ (d ++ []))))))) ++ (10 ∷ []) ≡ a ++ codes "," ++ b ++ codes "," ++ c ++ codes "," ++ d ++ codes "\n"
joined a b c d = simp (append_assoc, append-nil)

four_fields : (a b c d : List ℕ) → row_text default_writer (a ∷ b ∷ c ∷ d ∷ []) ≡ (field_text default_writer a ++ (44 ∷ (field_text default_writer b ++ (44 ∷ (field_text default_writer c ++ (44 ∷ (field_text default_writer d ++ []))))))) ++ (10 ∷ [])
unfolding fields_text is_blank
four_fields a b c d = refl

pub line_row : (line : Line) → line.display < 2 ^ 128 → line.layout < 2 ^ 128 → line.count < 2 ^ 128 → line.seconds < 2 ^ 128
    → row_text default_writer (decimal line.display ∷ decimal line.layout ∷ decimal line.count ∷ decimal line.seconds ∷ []) ≡ line_text line
unfolding line_text
line_row line h i j k =
    four_fields (decimal line.display) (decimal line.layout) (decimal line.count) (decimal line.seconds)
    ∙ ((λ x. (plain_number line.display h x ++ (44 ∷ (plain_number line.layout i x ++ (44 ∷ (plain_number line.count j x ++ (44 ∷ (plain_number line.seconds k x ++ []))))))) ++ (10 ∷ []))
    ∙ joined (decimal line.display) (decimal line.layout) (decimal line.count) (decimal line.seconds))

pub head_row : row_text default_writer (codes "display" ∷ codes "layout" ∷ codes "count" ∷ codes "seconds" ∷ []) ≡ head_text
unfolding fields_text is_blank
head_row = refl

-- what is appended to nothing is all that there is
pub appends_first : (old new : Option (List ℕ)) (text : List ℕ) → old ≡ Some [] → Appends old new text → new ≡ Some text
appends_first old None text is a = absurd (subst (λ (o : Option (List ℕ)). Appends o None text) is a)
appends_first old (Some now) text is a = ap Some (subst (λ (o : Option (List ℕ)). Appends o (Some now) text) is a)
