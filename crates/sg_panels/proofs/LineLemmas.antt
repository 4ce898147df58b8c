-- Lines that are put one after another.
use Rattle.std.proofs.Common.{◌≡◌, ℕ, ◌+◌, ◌-◌, ◌<◌, List, [], ◌∷◌, ◌++◌, replicate, length, suc, sym, ◌∙◌, ap, subst, arith, append_assoc, None, Some}
use Rattle.std.specs.declared.option.Option.{Option}
use Rattle.std.specs.Io.KnownBytes.{Appends}
use Rattle.std.specs.List.{concat}
use Rattle.std.proofs.lemmas.List.{append-nil, replicate-append-replicate}
use Rattle.std.proofs.lemmas.List.Folds.{concat-append}
use Rattle.sg_outside.specs.Streams.{AppendsPart}
use Rattle.sg_panels.specs.declared.mark.Marks.{Marks}
use Rattle.sg_panels.specs.Marks.{EndsInLine, dropped_line, line_if, lines_from, place_lines, replaced_line}

pub appends_none : (a : Option (List ℕ)) → Appends a a []
appends_none None = tt
appends_none (Some xs) = sym (append-nil xs)

pub appends_joined : (a b c : Option (List ℕ)) (x y : List ℕ) → Appends a b x → Appends b c y → Appends a c (x ++ y)
appends_joined None b c x y first next = tt
appends_joined (Some xs) None c x y first next = absurd first
appends_joined (Some xs) (Some ys) None x y first next = absurd next
appends_joined (Some xs) (Some ys) (Some zs) x y first next = next ∙ ap (λ (l : List ℕ). l ++ y) first ∙ append_assoc xs x y

-- the lines of two lists
pub lines_joined : (a b c : Option (List ℕ)) (xs ys : List (List ℕ)) → Appends a b (concat xs) → Appends b c (concat ys) → Appends a c (concat (xs ++ ys))
lines_joined a b c xs ys first next =
    subst (λ (l : List ℕ). Appends a c l) (sym (concat-append xs ys)) (appends_joined a b c (concat xs) (concat ys) first next)

-- it failed in the first list
pub ends_first : (a b : Option (List ℕ)) (xs ys : List (List ℕ)) → EndsInLine a b xs → EndsInLine a b (xs ++ ys)
ends_first a b xs ys ends = record {
  done = ends.done;
  last = ends.last;
  rest = ends.rest ++ ys;
  split = sym (append_assoc ends.done (ends.last ∷ ends.rest) ys) ∙ ap (λ (l : List (List ℕ)). l ++ ys) ends.split;
  between = ends.between;
  whole = ends.whole;
  part = ends.part;
}

-- it failed in the second list
pub ends_later : (a b c : Option (List ℕ)) (xs ys : List (List ℕ)) → Appends a b (concat xs) → EndsInLine b c ys → EndsInLine a c (xs ++ ys)
ends_later a b c xs ys first ends = record {
  done = xs ++ ends.done;
  last = ends.last;
  rest = ends.rest;
  split = append_assoc xs ends.done (ends.last ∷ ends.rest) ∙ ap (λ (l : List (List ℕ)). xs ++ l) ends.split;
  between = ends.between;
  whole = lines_joined a b ends.between xs ends.done first ends.whole;
  part = ends.part;
}

-- ---- a line, so many times

same_again : (n : ℕ) (line : List ℕ) → replicate n line ++ (line ∷ []) ≡ replicate (n + 1) line
same_again n line = replicate-append-replicate n 1 line

pub times_more : (a b c : Option (List ℕ)) (n : ℕ) (line : List ℕ) → Appends a b (concat (replicate n line)) → Appends b c line
    → Appends a c (concat (replicate (n + 1) line))
times_more a b c n line so_far next =
    subst (λ (l : List (List ℕ)). Appends a c (concat l)) (same_again n line)
    (lines_joined a b c (replicate n line) (line ∷ []) so_far (subst (λ (l : List ℕ). Appends b c l) (sym (append-nil line)) next))

pub times_stopped : (a b c : Option (List ℕ)) (n times : ℕ) (line : List ℕ) → n < times → Appends a b (concat (replicate n line)) → AppendsPart b c line
    → EndsInLine a c (replicate times line)
times_stopped a b c n times line lt so_far part = record {
  done = replicate n line;
  last = line;
  rest = replicate (times - n - 1) line;
  split = replicate-append-replicate n (suc (times - n - 1)) line ∙ ap (λ (k : ℕ). replicate k line) (all_of n times lt);
  between = b;
  whole = so_far;
  part = part;
}
  where
    all_of : (n times : ℕ) → n < times → n + suc (times - n - 1) ≡ times
    all_of n times lt = omega (arith, lt)

-- ---- the lines of one place

-- it failed in the lines of the spares
pub place_ends_spares : (a b c : Option (List ℕ)) (place : ℕ) (marks : Marks) (x y : List ℕ) → x ≡ dropped_line place → y ≡ dropped_line place
    → Appends a b (concat (line_if marks.failed x)) → EndsInLine b c (replicate marks.spares y) → EndsInLine a c (place_lines place marks)
place_ends_spares a b c place marks x y is same first ends =
    ends_later a b c (line_if marks.failed (dropped_line place)) (replicate marks.spares (dropped_line place) ++ line_if marks.replaced (replaced_line place))
    (subst (λ (l : List ℕ). Appends a b (concat (line_if marks.failed l))) is first)
    (ends_first b c (replicate marks.spares (dropped_line place)) (line_if marks.replaced (replaced_line place))
    (subst (λ (l : List ℕ). EndsInLine b c (replicate marks.spares l)) same ends))

-- it failed in the last line
pub place_ends_last : (a b c d : Option (List ℕ)) (place : ℕ) (marks : Marks) (x y z : List ℕ) → x ≡ dropped_line place → y ≡ dropped_line place → z ≡ replaced_line place
    → Appends a b (concat (line_if marks.failed x)) → Appends b c (concat (replicate marks.spares y)) → EndsInLine c d (line_if marks.replaced z)
    → EndsInLine a d (place_lines place marks)
place_ends_last a b c d place marks x y z is same last first next ends =
    ends_later a b d (line_if marks.failed (dropped_line place)) (replicate marks.spares (dropped_line place) ++ line_if marks.replaced (replaced_line place))
    (subst (λ (l : List ℕ). Appends a b (concat (line_if marks.failed l))) is first)
    (ends_later b c d (replicate marks.spares (dropped_line place)) (line_if marks.replaced (replaced_line place))
    (subst (λ (l : List ℕ). Appends b c (concat (replicate marks.spares l))) same next)
    (subst (λ (l : List ℕ). EndsInLine c d (line_if marks.replaced l)) last ends))

pub place_whole : (a b c d : Option (List ℕ)) (place : ℕ) (marks : Marks) (x y z : List ℕ) → x ≡ dropped_line place → y ≡ dropped_line place → z ≡ replaced_line place
    → Appends a b (concat (line_if marks.failed x)) → Appends b c (concat (replicate marks.spares y)) → Appends c d (concat (line_if marks.replaced z))
    → Appends a d (concat (place_lines place marks))
place_whole a b c d place marks x y z is same last first next rest =
    lines_joined a b d (line_if marks.failed (dropped_line place)) (replicate marks.spares (dropped_line place) ++ line_if marks.replaced (replaced_line place))
    (subst (λ (l : List ℕ). Appends a b (concat (line_if marks.failed l))) is first)
    (lines_joined b c d (replicate marks.spares (dropped_line place)) (line_if marks.replaced (replaced_line place))
    (subst (λ (l : List ℕ). Appends b c (concat (replicate marks.spares l))) same next)
    (subst (λ (l : List ℕ). Appends c d (concat (line_if marks.replaced l))) last rest))

-- ---- the lines of all places

-- the lines of one place more
lines_more : (place : ℕ) (marks : List Marks) (mark : Marks) → lines_from place (marks ++ mark ∷ []) ≡ lines_from place marks ++ place_lines (place + length marks) mark
lines_more place [] mark = append-nil (place_lines place mark) ∙ ap (λ (n : ℕ). place_lines n mark) (at_first place)
  where
    at_first : (place : ℕ) → place ≡ place + 0
    at_first place = omega arith
lines_more place (m ∷ marks) mark =
    ap (λ (l : List (List ℕ)). place_lines place m ++ l) (lines_more (place + 1) marks mark)
    ∙ sym (append_assoc (place_lines place m) (lines_from (place + 1) marks) (place_lines (place + 1 + length marks) mark))
    ∙ ap (λ (n : ℕ). (place_lines place m ++ lines_from (place + 1) marks) ++ place_lines n mark) (further place marks)
  where
    further : (place : ℕ) (marks : List Marks) → place + 1 + length marks ≡ place + suc (length marks)
    further place marks = omega arith

the_place : (i place : ℕ) (marks : List Marks) → length marks ≡ i → place ≡ i + 1 → place ≡ 1 + length marks
the_place i place marks long is = omega (arith, long, is)

pub place_put : (a b c : Option (List ℕ)) (i place : ℕ) (marks : List Marks) (mark : Marks) → length marks ≡ i → place ≡ i + 1
    → Appends a b (concat (lines_from 1 marks)) → Appends b c (concat (place_lines place mark)) → Appends a c (concat (lines_from 1 (marks ++ mark ∷ [])))
place_put a b c i place marks mark long is so_far next =
    subst (λ (l : List (List ℕ)). Appends a c (concat l)) (sym (lines_more 1 marks mark))
    (lines_joined a b c (lines_from 1 marks) (place_lines (1 + length marks) mark) so_far
    (subst (λ (n : ℕ). Appends b c (concat (place_lines n mark))) (the_place i place marks long is) next))

pub place_stopped : (a b c : Option (List ℕ)) (i place : ℕ) (marks : List Marks) (mark : Marks) → length marks ≡ i → place ≡ i + 1
    → Appends a b (concat (lines_from 1 marks)) → EndsInLine b c (place_lines place mark) → EndsInLine a c (lines_from 1 (marks ++ mark ∷ []))
place_stopped a b c i place marks mark long is so_far ends =
    subst (λ (l : List (List ℕ)). EndsInLine a c l) (sym (lines_more 1 marks mark))
    (ends_later a b c (lines_from 1 marks) (place_lines (1 + length marks) mark) so_far
    (subst (λ (n : ℕ). EndsInLine b c (place_lines n mark)) (the_place i place marks long is) ends))
