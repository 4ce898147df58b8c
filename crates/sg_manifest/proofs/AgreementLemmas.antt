-- A text that comes piece by piece agrees with bytes as far as the whole text does.
use Rattle.std.proofs.Common.{◌≡◌, ℕ, suc, ◌+◌, ◌-◌, ◌<◌, ◌≤◌, ◌==◌, nat_lt, Bool, true, false, List, [], ◌∷◌, ◌++◌, length, take, drop, drop-cons, length-drop, Option, Some, None, refl, sym, ap, ◌∙◌, arith, eqb-true, length-append}
use Rattle.std.proofs.lemmas.Bool.{ltb-true, ltb-false}
use Rattle.std.proofs.lemmas.Bool.Decides.{nat_tests}
use Rattle.std.proofs.lemmas.List.{drop_all, drop-drop, take_all}
use Rattle.std.specs.Prelude.{if◌then◌else◌, IsNone, IfSome}
use Rattle.sg_manifest.specs.Reading.{common}
use Rattle.sg_manifest.proofs.TextLemmas.{common_none}
use Rattle.sg_manifest.specs.Agreement.{Agreement, start, against, first_left, difference}

-- ---- how many first bytes two texts have in common

most_if : (b : Bool) (n m : ℕ) → n ≤ m → (if b then n + 1 else 0) ≤ suc m
most_if true n m h = omega arith
most_if false n m h = omega arith

common_within : (xs ys : List ℕ) → common xs ys ≤ length xs
common_within [] ys = omega arith
common_within (x ∷ xs) [] = omega arith
common_within (x ∷ xs) (y ∷ ys) = most_if (x == y) (common xs ys) (length xs) (common_within xs ys)

common_most : (xs ys : List ℕ) → common xs ys ≤ length ys
common_most [] ys = omega arith
common_most (x ∷ xs) [] = omega arith
common_most (x ∷ xs) (y ∷ ys) = most_if (x == y) (common xs ys) (length ys) (common_most xs ys)

short_if : (b : Bool) (n m k : ℕ) → (n < k → m ≡ n) → (if b then n + 1 else 0) < suc k → (if b then m + 1 else 0) ≡ (if b then n + 1 else 0)
short_if true n m k same h = let below : n < k = omega arith in ap (λ j. j + 1) (same below)
short_if false n m k same h = refl

-- texts that differ before the end of the second do so whatever comes after it
common_short : (xs ys zs : List ℕ) → common xs ys < length ys → common xs (ys ++ zs) ≡ common xs ys
common_short [] ys zs h = refl
common_short (x ∷ xs) [] zs h = absurd (omega arith)
common_short (x ∷ xs) (y ∷ ys) zs h = short_if (x == y) (common xs ys) (common xs (ys ++ zs)) (length ys) (common_short xs ys zs) h

whole_if : (b : Bool) (n k m rest : ℕ) → (n ≡ k → m ≡ k + rest) → (if b then n + 1 else 0) ≡ suc k → (if b then m + 1 else 0) ≡ suc k + rest
whole_if true n k m rest same h = let below : n ≡ k = omega arith in omega (arith, same below)
whole_if false n k m rest same h = absurd (omega arith)

-- one that begins another agrees with it as far as it goes, and then the rest does
common_whole : (xs ys zs : List ℕ) → common xs ys ≡ length ys → common xs (ys ++ zs) ≡ length ys + common (drop (length ys) xs) zs
common_whole xs [] zs h = omega arith
common_whole [] (y ∷ ys) zs h = absurd (omega arith)
common_whole (x ∷ xs) (y ∷ ys) zs h = whole_if (x == y) (common xs ys) (length ys) (common xs (ys ++ zs)) (common (drop (length ys) xs) zs) (common_whole xs ys zs) h

common_self : (xs : List ℕ) → common xs xs ≡ length xs
common_self [] = refl
common_self (x ∷ xs) = let here : (x == x) ≡ true = grind (arith, nat_tests) in rw (here, common_self xs) (omega arith)

equal_if : (b : Bool) (n k : ℕ) (x y : ℕ) (xs ys : List ℕ) → (x == y) ≡ b → (n ≡ k → xs ≡ ys) → (if b then n + 1 else 0) ≡ suc k → x ∷ xs ≡ y ∷ ys
equal_if true n k x y xs ys e same h = let first = eqb-true x y e in let below : n ≡ k = omega arith in let rest = same below in cc
equal_if false n k x y xs ys e same h = absurd (omega arith)

-- texts that agree to the ends of both are the same
common_ends : (xs ys : List ℕ) → common xs ys ≡ length ys → drop (length ys) xs ≡ [] → xs ≡ ys
common_ends xs [] h e = e
common_ends [] (y ∷ ys) h e = absurd (omega arith)
common_ends (x ∷ xs) (y ∷ ys) h e = equal_if (x == y) (common xs ys) (length ys) x y xs ys refl (λ k. common_ends xs ys k e) h

-- ---- a text in pieces

same_agreement : (xs ys : List ℕ) (n m : ℕ) (a b : Bool) → xs ≡ ys → n ≡ m → a ≡ b
    → (let r : Agreement = record { left = xs; count = n; apart = a } in r) ≡ record { left = ys; count = m; apart = b }
same_agreement xs ys n m a b e f g = cc

apart_longer : (n k m : ℕ) → nat_lt (n + k) (n + m) ≡ nat_lt k m
apart_longer n k m = grind (arith, nat_tests)

longer_apart : (n k m : ℕ) → n < k → nat_lt n (k + m) ≡ true
longer_apart n k m h = grind (arith, nat_tests)

in_two : (xs ys zs : List ℕ) (count : ℕ) (b : Bool) → nat_lt (common xs ys) (length ys) ≡ b
    → against (record { left = drop (common xs ys) xs; count = count + common xs ys; apart = b }) zs ≡ against (record { left = xs; count = count; apart = false }) (ys ++ zs)
in_two xs ys zs count true e =
    let short = ltb-true (common xs ys) (length ys) e in
    let same = common_short xs ys zs short in
    let apart : nat_lt (common xs ys) (length (ys ++ zs)) ≡ true = rw (length-append ys zs) (longer_apart (common xs ys) (length ys) (length zs) short) in
    rw (same, apart) refl
in_two xs ys zs count false e =
    let most = common_most xs ys in
    let least = ltb-false (common xs ys) (length ys) e in
    let whole : common xs ys ≡ length ys = omega (arith, most, least) in
    let same = common_whole xs ys zs whole in
    let more = common (drop (length ys) xs) zs in
    rw (same, whole, length-append ys zs)
    (same_agreement
    (drop more (drop (length ys) xs)) (drop (length ys + more) xs) (count + length ys + more) (count + (length ys + more))
    (nat_lt more (length zs)) (nat_lt (length ys + more) (length ys + length zs))
    (drop-drop more (length ys) xs) (omega arith) (sym (apart_longer (length ys) more (length zs))))

pub against_append : (a : Agreement) (ys zs : List ℕ) → against (against a ys) zs ≡ against a (ys ++ zs)
against_append a ys zs = by_apart a.left a.count a.apart
  where
    by_apart : (left : List ℕ) (count : ℕ) (apart : Bool) → against (against (record { left = left; count = count; apart = apart }) ys) zs ≡ against (record { left = left; count = count; apart = apart }) (ys ++ zs)
    by_apart left count true = refl
    by_apart left count false = in_two left ys zs count (nat_lt (common left ys) (length ys)) refl

from_place : (bytes : List ℕ) (place : ℕ) → take (length bytes - place) (drop place bytes) ≡ drop place bytes
from_place bytes place = take_all (length bytes - place) (drop place bytes) (omega (arith, length-drop place bytes))

-- how many bytes agree from a place on
pub agreeing : (bytes : List ℕ) (place : ℕ) (text : List ℕ) (n : ℕ) → n ≡ common (take (length bytes - place) (drop place bytes)) text → n ≡ common (drop place bytes) text
agreeing bytes place text n e = e ∙ ap (λ (xs : List ℕ). common xs text) (from_place bytes place)

pub agreeing_inside : (bytes : List ℕ) (place : ℕ) (text : List ℕ) (n : ℕ) → n ≡ common (take (length bytes - place) (drop place bytes)) text → place ≤ length bytes → place + n ≤ length bytes
agreeing_inside bytes place text n e h = omega (arith, agreeing bytes place text n e, common_within (drop place bytes) text, length-drop place bytes)

-- what stands at a place of bytes, once a text came
pub further_at : (bytes : List ℕ) (place : ℕ) (text rest : List ℕ) (n : ℕ) → n ≡ common (drop place bytes) text
    → against (record { left = drop (place + n) bytes; count = place + n; apart = nat_lt n (length text) }) rest
    ≡ against (record { left = drop place bytes; count = place; apart = false }) (text ++ rest)
further_at bytes place text rest n e =
    ap (λ (r : Agreement). against r rest) (same_agreement (drop (place + n) bytes) (drop (common (drop place bytes) text) (drop place bytes)) (place + n) (place + common (drop place bytes) text) (nat_lt n (length text)) (nat_lt (common (drop place bytes) text) (length text)) (rw e (sym (drop-drop (common (drop place bytes) text) place bytes))) (ap (λ k. place + k) e) (ap (λ k. nat_lt k (length text)) e))
    ∙ in_two (drop place bytes) text rest place (nat_lt (common (drop place bytes) text) (length text)) refl

-- ---- the difference

pub left_some : (bytes : List ℕ) (place n : ℕ) → place < length bytes → first_left (drop place bytes) n ≡ Some n
left_some bytes place n h = rw (drop-cons bytes place 0 h) refl

pub left_none : (bytes : List ℕ) (place n : ℕ) → length bytes ≤ place → first_left (drop place bytes) n ≡ None
left_none bytes place n h = rw (drop_all place bytes h) refl

first_none : (xs : List ℕ) (n : ℕ) → first_left xs n ≡ None → xs ≡ []
first_none [] n e = refl
first_none (x ∷ xs) n e = absurd (cc)

first_some : (xs : List ℕ) (n k : ℕ) → first_left xs n ≡ Some k → k ≡ n
first_some [] n k e = absurd (cc)
first_some (x ∷ xs) n k e = cc

none_if : (b : Bool) (n : ℕ) (o : Option ℕ) → (if b then Some n else o) ≡ None → (b ≡ false) × (o ≡ None)
none_if true n o e = absurd (cc)
none_if false n o e = (refl, e)

some_if : (b : Bool) (n k : ℕ) (xs : List ℕ) → (if b then Some n else first_left xs n) ≡ Some k → k ≡ n
some_if true n k xs e = cc
some_if false n k xs e = first_some xs n k e

pub none_same : (bytes text : List ℕ) → difference (against (start bytes) text) ≡ None → bytes ≡ text
none_same bytes text e =
    let parts = none_if (nat_lt (common bytes text) (length text)) (0 + common bytes text) (first_left (drop (common bytes text) bytes) (0 + common bytes text)) e in
    let most = common_most bytes text in
    let least = ltb-false (common bytes text) (length text) parts.0 in
    let whole : common bytes text ≡ length text = omega (arith, most, least) in
    common_ends bytes text whole (ap (λ n. drop n bytes) (sym whole) ∙ first_none (drop (common bytes text) bytes) (0 + common bytes text) parts.1)

pub same_none : (bytes text : List ℕ) → bytes ≡ text → difference (against (start bytes) text) ≡ None
same_none bytes text e = rw e (self text)
  where
    self : (xs : List ℕ) → difference (against (start xs) xs) ≡ None
    self xs =
        let whole = common_self xs in
        let level : nat_lt (common xs xs) (length xs) ≡ false = grind (arith, nat_tests) in
        let none : drop (common xs xs) xs ≡ [] = rw whole (drop_all (length xs) xs (omega arith)) in
        rw (level, none) refl

pub some_place : (bytes text : List ℕ) (n : ℕ) → difference (against (start bytes) text) ≡ Some n → n ≡ common bytes text
some_place bytes text n e = some_if (nat_lt (common bytes text) (length text)) (0 + common bytes text) n (drop (common bytes text) bytes) e ∙ omega arith

-- nothing came
pub against_nothing : (a : Agreement) → against a [] ≡ a
against_nothing a = by_apart a.left a.count a.apart
  where
    by_apart : (left : List ℕ) (count : ℕ) (apart : Bool) → (let r : Agreement = record { left = left; count = count; apart = apart } in against r [] ≡ r)
    by_apart left count true = refl
    by_apart left count false = rw (common_none left) (same_agreement left left (count + 0) count false false refl (omega arith) refl)

pub none_or_same : (o : Option ℕ) (bytes text : List ℕ) → o ≡ difference (against (start bytes) text) → (IsNone o → bytes ≡ text) × (bytes ≡ text → IsNone o)
none_or_same None bytes text e = (λ h. none_same bytes text (sym e), λ h. refl)
none_or_same (Some n) bytes text e = (λ h. absurd (cc), λ h. let none = same_none bytes text h in absurd (cc))

pub place_of : (o : Option ℕ) (bytes text : List ℕ) → o ≡ difference (against (start bytes) text) → IfSome o (λ n. n ≡ common bytes text)
place_of None bytes text e = tt
place_of (Some n) bytes text e = some_place bytes text n (sym e)
