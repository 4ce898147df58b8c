-- A head made of lines ends at its empty line, and nowhere before.
use Rattle.std.proofs.Common.{◌≡◌, ℕ, suc, ◌+◌, ◌<◌, Bool, true, false, ◌&&◌, ◌||◌, not, List, [], ◌∷◌, ◌++◌, length, refl, sym, ap, ◌∙◌, arith, append_assoc, Option, Some, None, option_map}
use Rattle.std.specs.Prelude.{◌==◌, if◌then◌else◌, slice_index}
use Rattle.std.specs.List.{list_all}
use Rattle.std.proofs.lemmas.Bool.{and_parts, and_right, cond-false, not-true}
use Rattle.std.proofs.lemmas.List.{length-append, append-nil}
use Rattle.sg_http.specs.Head.{is_newline, begins_short_line, begins_long_line, empty_end, head_end}
use Rattle.sg_http.specs.Texts.{lines_text, head_lines}
use Rattle.sg_http.proofs.HeadLemmas.{empty_end_more, empty_end_within}
use Rattle.sg_http.proofs.SearchLemmas.{from_start}

abbrev pub is_clean : List ℕ → Bool
is_clean line = list_all (λ b. not (is_newline b)) line

-- a line has a byte, and neither CR nor LF
pub record IsLine (line : List ℕ) : Type 0 where
  pub some : 0 < length line
  pub clean : is_clean line ≡ true

abbrev pub AreLines : List (List ℕ) → Type 0
AreLines [] = Unit {0}
AreLines (line ∷ lines) = IsLine line × AreLines lines

by_tests : (short long : Bool) (o : Option ℕ) → short ≡ false → long ≡ false
    → (if short then Some 2 else (if long then Some 3 else o)) ≡ o
by_tests short long o a b = rw (a, b) refl

-- a byte that is no LF begins no empty line
passed : (b : ℕ) (bytes : List ℕ) → (b == 10) ≡ false → empty_end (b ∷ bytes) ≡ option_map (λ n. 1 + n) (empty_end bytes)
passed b bytes other =
    let short : begins_short_line (b ∷ bytes) ≡ false = and_right (slice_index (b ∷ bytes) 1 == 10) (b == 10) other in
    let inner : (slice_index (b ∷ bytes) 1 == 13 && b == 10) ≡ false = and_right (slice_index (b ∷ bytes) 1 == 13) (b == 10) other in
    let long : begins_long_line (b ∷ bytes) ≡ false =
    and_right (slice_index (b ∷ bytes) 2 == 10) (slice_index (b ∷ bytes) 1 == 13 && b == 10) inner in
    by_tests (begins_short_line (b ∷ bytes)) (begins_long_line (b ∷ bytes)) (option_map (λ n. 1 + n) (empty_end bytes)) short long

-- a LF before a byte that is neither LF nor CR
passed_before : (c : ℕ) (bytes : List ℕ) → (c == 13) ≡ false → (c == 10) ≡ false
    → empty_end (10 ∷ c ∷ bytes) ≡ option_map (λ n. 1 + n) (empty_end (c ∷ bytes))
passed_before c bytes no_cr no_lf =
    let short : begins_short_line (10 ∷ c ∷ bytes) ≡ false = rw no_lf refl in
    let long : begins_long_line (10 ∷ c ∷ bytes) ≡ false =
    and_right (slice_index (c ∷ bytes) 1 == 10) (c == 13 && true) (rw no_cr refl) in
    by_tests (begins_short_line (10 ∷ c ∷ bytes)) (begins_long_line (10 ∷ c ∷ bytes))
    (option_map (λ n. 1 + n) (empty_end (c ∷ bytes))) short long

clean_byte : (b : ℕ) → not (is_newline b) ≡ true → ((b == 13) ≡ false) × ((b == 10) ≡ false)
clean_byte b clean = split (b == 13) (b == 10) (not-true (is_newline b) clean)
  where
    split : (x y : Bool) → (x || y) ≡ false → (x ≡ false) × (y ≡ false)
    split true y e = cc
    split false true e = cc
    split false false e = (refl, refl)

added : (j k : ℕ) (o : Option ℕ) → option_map (λ n. j + n) (option_map (λ n. k + n) o) ≡ option_map (λ n. j + k + n) o
added j k None = refl
added j k (Some n) = let e : j + (k + n) ≡ j + k + n = omega arith in ap Some e

clean_passed : (line rest : List ℕ) → is_clean line ≡ true
    → empty_end (line ++ rest) ≡ option_map (λ n. length line + n) (empty_end rest)
clean_passed [] rest clean = sym (from_start (empty_end rest))
clean_passed (b ∷ line) rest clean =
    let parts = and_parts (not (is_newline b)) (is_clean line) clean in
    passed b (line ++ rest) (clean_byte b parts.0).1
    ∙ ap (option_map (λ n. 1 + n)) (clean_passed line rest parts.1)
    ∙ added 1 (length line) (empty_end rest)
    ∙ ap (λ (k : ℕ). option_map (λ n. k + n) (empty_end rest)) (let e : 1 + length line ≡ suc (length line) = omega arith in e)

-- behind a line's LF: the lines that are left, and the empty line
rest_end : (lines : List (List ℕ)) (after : List ℕ) → AreLines lines
    → empty_end (10 ∷ (head_lines lines ++ after)) ≡ Some (1 + length (head_lines lines))
rest_end [] after are = refl
rest_end ([] ∷ lines) after are = absurd (let h = are.0.some in omega arith)
rest_end ((c ∷ cs) ∷ lines) after are =
    let first = and_parts (not (is_newline c)) (is_clean cs) are.0.clean in
    let byte = clean_byte c first.0 in
    let tail = 13 ∷ 10 ∷ (head_lines lines ++ after) in
    let text : head_lines ((c ∷ cs) ∷ lines) ++ after ≡ (c ∷ cs) ++ tail = simp append_assoc in
    let one : empty_end ((c ∷ cs) ++ tail) ≡ option_map (λ n. length (c ∷ cs) + n) (empty_end tail) =
    clean_passed (c ∷ cs) tail are.0.clean in
    let two : empty_end tail ≡ Some (1 + (1 + length (head_lines lines))) =
    passed 13 (10 ∷ (head_lines lines ++ after)) refl ∙ ap (option_map (λ n. 1 + n)) (rest_end lines after are.1) in
    let size : length (head_lines ((c ∷ cs) ∷ lines)) ≡ length (c ∷ cs) + (2 + length (head_lines lines)) = length_lines (c ∷ cs) lines in
    let sum : 1 + (length (c ∷ cs) + (1 + (1 + length (head_lines lines)))) ≡ 1 + length (head_lines ((c ∷ cs) ∷ lines)) = omega arith in
    ap (λ (l : List ℕ). empty_end (10 ∷ l)) text
    ∙ passed_before c (cs ++ tail) byte.0 byte.1
    ∙ ap (option_map (λ n. 1 + n)) (one ∙ ap (option_map (λ n. length (c ∷ cs) + n)) two)
    ∙ ap Some sum
  where
    length_lines : (line : List ℕ) (lines : List (List ℕ)) → length (head_lines (line ∷ lines)) ≡ length line + (2 + length (head_lines lines))
    length_lines line lines =
        omega (
          arith,
          length-append (line ++ (13 ∷ 10 ∷ lines_text lines)) (13 ∷ 10 ∷ []),
          length-append line (13 ∷ 10 ∷ lines_text lines),
          length-append (lines_text lines) (13 ∷ 10 ∷ []),
        )

-- the first empty line of a head is its end
pub head_ends : (line : List ℕ) (lines : List (List ℕ)) (after : List ℕ) → IsLine line → AreLines lines
    → empty_end (head_lines (line ∷ lines) ++ after) ≡ Some (length (head_lines (line ∷ lines)))
head_ends line lines after is are =
    let tail = 13 ∷ 10 ∷ (head_lines lines ++ after) in
    let text : head_lines (line ∷ lines) ++ after ≡ line ++ tail = simp append_assoc in
    let two : empty_end tail ≡ Some (1 + (1 + length (head_lines lines))) =
    passed 13 (10 ∷ (head_lines lines ++ after)) refl ∙ ap (option_map (λ n. 1 + n)) (rest_end lines after are) in
    let size : length (head_lines (line ∷ lines)) ≡ length line + (2 + length (head_lines lines)) =
    omega (
      arith,
      length-append (line ++ (13 ∷ 10 ∷ lines_text lines)) (13 ∷ 10 ∷ []),
      length-append line (13 ∷ 10 ∷ lines_text lines),
      length-append (lines_text lines) (13 ∷ 10 ∷ []),
    ) in
    let sum : length line + (1 + (1 + length (head_lines lines))) ≡ length (head_lines (line ∷ lines)) = omega arith in
    ap empty_end text ∙ clean_passed line tail is.clean ∙ ap (option_map (λ n. length line + n)) two ∙ ap Some sum

-- a front of a head that isn't the whole of it has no empty line
pub cut_head : (line : List ℕ) (lines : List (List ℕ)) (p q : List ℕ) → IsLine line → AreLines lines
    → p ++ q ≡ head_lines (line ∷ lines) → 0 < length q → empty_end p ≡ None
cut_head line lines p q is are split some = by_end (empty_end p) refl
  where
    by_end : (end : Option ℕ) → empty_end p ≡ end → end ≡ None
    by_end None e = refl
    by_end (Some n) e =
        let whole : empty_end (head_lines (line ∷ lines)) ≡ Some (length (head_lines (line ∷ lines))) =
        ap empty_end (sym (append-nil (head_lines (line ∷ lines)))) ∙ head_ends line lines [] is are in
        let there : empty_end (head_lines (line ∷ lines)) ≡ Some n = ap empty_end (sym split) ∙ empty_end_more p q n e in
        let same : n ≡ length (head_lines (line ∷ lines)) = cc in
        let within = empty_end_within p n e in
        absurd (omega (arith, ap length split, length-append p q))

-- the same end where the head has to begin with another byte than CR and LF
pub head_ends_too : (line : List ℕ) (lines : List (List ℕ)) (after : List ℕ) → IsLine line → AreLines lines
    → head_end (head_lines (line ∷ lines) ++ after) ≡ Some (length (head_lines (line ∷ lines)))
head_ends_too [] lines after is are = absurd (let h = is.some in omega arith)
head_ends_too (b ∷ line) lines after is are =
    let parts = and_parts (not (is_newline b)) (is_clean line) is.clean in
    cond-false _ _ _ (not-true (is_newline b) parts.0) ∙ head_ends (b ∷ line) lines after is are
