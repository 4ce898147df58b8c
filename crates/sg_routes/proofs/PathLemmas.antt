-- Written paths, read back.
use Rattle.std.proofs.Common.{◌≡◌, ℕ, zero, suc, ◌-◌, ◌^◌, ◌<◌, ◌≤◌, ◌==◌, ◌||◌, true, false, not, List, [], ◌∷◌, ◌++◌, length, get_or, refl, ap, ◌∙◌, arith, lit<, lit≤}
use Rattle.std.specs.Prelude.{Some, Ok, All, codes, decimal, nat_lt, nat_le, slice_index}
use Rattle.std.specs.Char.{is_ascii_digit}
use Rattle.std.specs.List.{list_all, list_any}
use Rattle.std.specs.Str.Parse.{digits_value}
use Rattle.std.proofs.lemmas.Bool.{and_parts, le-leb, lt-ltb}
use Rattle.std.proofs.lemmas.Bool.Decides.{nat_tests}
use Rattle.std.proofs.lemmas.List.Elements.{All-cons, All-nil}
use Rattle.std.proofs.lemmas.Fmt.{decimal_is_IsNumeral, first_decimal, length-decimal-le}
use Rattle.std.proofs.lemmas.List.Folds.{list_any-append}
use Rattle.std.proofs.lemmas.List.Splits.{slice_split_at, slice_split_none}
use Rattle.sg_base.specs.declared.limits.TheConstants.{LAST_MOMENT}
use Rattle.sg_http.proofs.TreeLemmas.{decimal_passes}
use Rattle.sg_routes.specs.declared.asked.Asked.{Asked}
use Rattle.sg_routes.specs.declared.asked.Asked.TheVariants as asked
use Rattle.sg_routes.specs.declared.route.Route.{Route}
use Rattle.sg_routes.specs.declared.route.Route.TheVariants.{Edits, Media, Report, Enrol, Manifest, File, Plays}
use Rattle.sg_routes.specs.Asked.{IsAskable, ask, asked_at, decimal_in, is_verb, path_of, route_for}
use Rattle.sg_routes.specs.Paths.{is_slash, route_of, segments, verb_for}

-- ---- numbers

digit_no_slash : (b : ℕ) → is_ascii_digit b ≡ true → is_slash b ≡ false
digit_no_slash b digit = grind (arith, nat_tests)

digit_no_question : (b : ℕ) → is_ascii_digit b ≡ true → (b == 63) ≡ false
digit_no_question b digit = grind (arith, nat_tests)

no_slash : (ds : List ℕ) → list_all is_ascii_digit ds ≡ true → All (λ b. is_slash b ≡ false) ds
no_slash [] pass = All-nil (λ b. is_slash b ≡ false)
no_slash (d ∷ ds) pass =
    let parts = and_parts (is_ascii_digit d) (list_all is_ascii_digit ds) pass in
    All-cons (λ b. is_slash b ≡ false) d ds (digit_no_slash d parts.0) (no_slash ds parts.1)

no_question : (ds : List ℕ) → list_all is_ascii_digit ds ≡ true → list_any (λ b. b == 63) ds ≡ false
no_question [] pass = refl
no_question (d ∷ ds) pass =
    let parts = and_parts (is_ascii_digit d) (list_all is_ascii_digit ds) pass in
    rw (digit_no_question d parts.0) (no_question ds parts.1)

no_zero : (n : ℕ) → n < 2 ^ 64 → (nat_le (length (decimal n)) 1 || not (slice_index (decimal n) 0 == 48)) ≡ true
no_zero zero fits = rw (le-leb (length (decimal 0)) 1 (length-decimal-le 1 0 (lit≤ tt) (lit< tt) fits)) refl
no_zero (suc n) fits =
    let above : 48 < get_or (decimal (suc n)) 0 0 = first_decimal (suc n) (omega arith) fits in
    grind (arith, nat_tests, above)

some_digit : (n : ℕ) → n < 2 ^ 64 → nat_lt 0 (length (decimal n)) ≡ true
some_digit n fits = lt-ltb 0 (length (decimal n)) (decimal_is_IsNumeral n fits).0.0

-- a number of a range is read back from its digits
number_back : (low high n : ℕ) → low ≤ n → n ≤ high → n < 2 ^ 64 → decimal_in low high (decimal n) ≡ Some n
number_back low high n least most fits =
    let value : digits_value 10 (decimal n) ≡ n = (decimal_is_IsNumeral n fits).1 in
    rw (value, some_digit n fits, decimal_passes n fits, no_zero n fits, le-leb low n least, le-leb n high most) refl

-- ---- segments

last_segment : (n : ℕ) → n < 2 ^ 64 → segments (decimal n) ≡ decimal n ∷ []
last_segment n fits = slice_split_none is_slash (decimal n) (no_slash (decimal n) (decimal_passes n fits))

next_segment : (n : ℕ) (rest : List ℕ) → n < 2 ^ 64 → segments (decimal n ++ 47 ∷ rest) ≡ decimal n ∷ segments rest
next_segment n rest fits = slice_split_at is_slash (decimal n) 47 rest (no_slash (decimal n) (decimal_passes n fits)) refl

two_last : (n m : ℕ) → n < 2 ^ 64 → m < 2 ^ 64 → segments (decimal n ++ (47 ∷ decimal m)) ≡ decimal n ∷ decimal m ∷ []
two_last n m fits short = next_segment n (decimal m) fits ∙ ap (λ l. decimal n ∷ l) (last_segment m short)

-- ---- question marks

plain_number : (n : ℕ) → n < 2 ^ 64 → list_any (λ b. b == 63) (decimal n) ≡ false
plain_number n fits = no_question (decimal n) (decimal_passes n fits)

plain_next : (n : ℕ) (rest : List ℕ) → n < 2 ^ 64 → list_any (λ b. b == 63) rest ≡ false → list_any (λ b. b == 63) (decimal n ++ rest) ≡ false
plain_next n rest fits plain = list_any-append (λ b. b == 63) (decimal n) rest ∙ rw (plain_number n fits, plain) refl

-- ---- asking

own_verb : (route : Route) → is_verb (verb_for route) (verb_for route) ≡ true
own_verb Edits = refl
own_verb Media = refl
own_verb Report = refl
own_verb Enrol = refl
own_verb Manifest = refl
own_verb File = refl
own_verb Plays = refl

asks : (route : Route) (path : List ℕ) (ss : List (List ℕ)) (a : Asked) → list_any (λ b. b == 63) path ≡ false → segments path ≡ ss
    → route_of ss ≡ Some route → asked_at route ss ≡ Some a → ask (verb_for route) path ≡ Ok a
asks route path ss a plain split found numbers = rw (plain, split, found, own_verb route, numbers) refl

two_found : (x y : List ℕ) → nat_lt 0 (length x) ≡ true → nat_lt 0 (length y) ≡ true → route_of ([] ∷ codes "media" ∷ x ∷ y ∷ []) ≡ Some Media
two_found x y some more = rw (some, more) refl

report_found : (x y : List ℕ) → nat_lt 0 (length x) ≡ true → nat_lt 0 (length y) ≡ true → route_of ([] ∷ codes "reports" ∷ codes "plays" ∷ x ∷ y ∷ []) ≡ Some Report
report_found x y some more = rw (some, more) refl

enrol_found : (x : List ℕ) → nat_lt 0 (length x) ≡ true → route_of ([] ∷ codes "displays" ∷ x ∷ codes "enrol" ∷ []) ≡ Some Enrol
enrol_found x some = rw some refl

manifest_found : (x : List ℕ) → nat_lt 0 (length x) ≡ true → route_of ([] ∷ codes "displays" ∷ x ∷ codes "manifest" ∷ []) ≡ Some Manifest
manifest_found x some = rw some refl

plays_found : (x : List ℕ) → nat_lt 0 (length x) ≡ true → route_of ([] ∷ codes "displays" ∷ x ∷ codes "plays" ∷ []) ≡ Some Plays
plays_found x some = rw some refl

file_found : (x y z : List ℕ) → nat_lt 0 (length x) ≡ true → nat_lt 0 (length y) ≡ true → nat_lt 0 (length z) ≡ true
    → route_of ([] ∷ codes "displays" ∷ x ∷ codes "files" ∷ y ∷ z ∷ []) ≡ Some File
file_found x y z some more last = rw (some, more, last) refl

of_display : (route : Route) (word : List ℕ) (n : ℕ) (a : Asked) → n < 2 ^ 64 → list_any (λ b. b == 63) word ≡ false → segments word ≡ word ∷ []
    → route_of ([] ∷ codes "displays" ∷ decimal n ∷ word ∷ []) ≡ Some route → asked_at route ([] ∷ codes "displays" ∷ decimal n ∷ word ∷ []) ≡ Some a
    → ask (verb_for route) (codes "/displays/" ++ (decimal n ++ (47 ∷ word))) ≡ Ok a
of_display route word n a fits plain one found numbers =
    asks route (codes "/displays/" ++ (decimal n ++ (47 ∷ word))) ([] ∷ codes "displays" ∷ decimal n ∷ word ∷ []) a (plain_next n (47 ∷ word) fits plain)
    (ap (λ l. [] ∷ codes "displays" ∷ l) (next_segment n word fits ∙ ap (λ l. decimal n ∷ l) one)) found numbers

pub read_back : (a : Asked) → IsAskable a → ask (verb_for (route_for a)) (path_of a) ≡ Ok a
read_back asked.Edits ok = refl
read_back (asked.Piece media offset) ok =
    let fits : media.0 < 2 ^ 64 = omega arith in
    let short : offset < 2 ^ 64 = omega arith in
    asks Media (path_of (asked.Piece media offset)) ([] ∷ codes "media" ∷ decimal media.0 ∷ decimal offset ∷ []) (asked.Piece media offset)
    (plain_next media.0 (47 ∷ decimal offset) fits (plain_number offset short))
    (ap (λ l. [] ∷ codes "media" ∷ l) (two_last media.0 offset fits short))
    (two_found (decimal media.0) (decimal offset) (some_digit media.0 fits) (some_digit offset short))
    (rw (number_back 1 (2 ^ 32 - 1) media.0 (omega arith) (omega arith) fits, number_back 0 (2 ^ 32 - 1) offset (omega arith) (omega arith) short) refl)
read_back (asked.Report from to) ok =
    let fits : from < 2 ^ 64 = omega arith in
    let short : to < 2 ^ 64 = omega arith in
    asks Report (path_of (asked.Report from to)) ([] ∷ codes "reports" ∷ codes "plays" ∷ decimal from ∷ decimal to ∷ []) (asked.Report from to)
    (plain_next from (47 ∷ decimal to) fits (plain_number to short))
    (ap (λ l. [] ∷ codes "reports" ∷ codes "plays" ∷ l) (two_last from to fits short))
    (report_found (decimal from) (decimal to) (some_digit from fits) (some_digit to short))
    (rw (number_back 0 LAST_MOMENT from (omega arith) ok.0 fits, number_back 0 LAST_MOMENT to (omega arith) ok.1 short) refl)
read_back (asked.Enrol display) ok =
    let fits : display.0 < 2 ^ 64 = omega arith in
    of_display Enrol (codes "enrol") display.0 (asked.Enrol display) fits refl refl (enrol_found (decimal display.0) (some_digit display.0 fits))
    (rw (number_back 1 (2 ^ 32 - 1) display.0 (omega arith) (omega arith) fits) refl)
read_back (asked.Manifest display) ok =
    let fits : display.0 < 2 ^ 64 = omega arith in
    of_display Manifest (codes "manifest") display.0 (asked.Manifest display) fits refl refl (manifest_found (decimal display.0) (some_digit display.0 fits))
    (rw (number_back 1 (2 ^ 32 - 1) display.0 (omega arith) (omega arith) fits) refl)
read_back (asked.File display media offset) ok =
    let fits : display.0 < 2 ^ 64 = omega arith in
    let short : media.0 < 2 ^ 64 = omega arith in
    let low : offset < 2 ^ 64 = omega arith in
    asks File (path_of (asked.File display media offset))
    ([] ∷ codes "displays" ∷ decimal display.0 ∷ codes "files" ∷ decimal media.0 ∷ decimal offset ∷ []) (asked.File display media offset)
    (plain_next display.0 (codes "/files/" ++ (decimal media.0 ++ (codes "/" ++ decimal offset))) fits (plain_next media.0 (47 ∷ decimal offset) short (plain_number offset low)))
    (ap (λ l. [] ∷ codes "displays" ∷ l)
    (next_segment display.0 (codes "files/" ++ (decimal media.0 ++ (47 ∷ decimal offset))) fits
    ∙ ap (λ l. decimal display.0 ∷ codes "files" ∷ l) (two_last media.0 offset short low)))
    (file_found (decimal display.0) (decimal media.0) (decimal offset) (some_digit display.0 fits) (some_digit media.0 short) (some_digit offset low))
    (rw (number_back 1 (2 ^ 32 - 1) display.0 (omega arith) (omega arith) fits, number_back 1 (2 ^ 32 - 1) media.0 (omega arith) (omega arith) short, number_back 0 (2 ^ 32 - 1) offset (omega arith) (omega arith) low) refl)
read_back (asked.Plays display) ok =
    let fits : display.0 < 2 ^ 64 = omega arith in
    of_display Plays (codes "plays") display.0 (asked.Plays display) fits refl refl (plays_found (decimal display.0) (some_digit display.0 fits))
    (rw (number_back 1 (2 ^ 32 - 1) display.0 (omega arith) (omega arith) fits) refl)
