-- The text of a player's request is read as what it is.
use Rattle.std.proofs.Common.{◌≡◌, ℕ, ◌+◌, ◌-◌, ◌^◌, ◌<◌, ◌≤◌, nat_lt, Bool, true, false, not, List, [], ◌∷◌, ◌++◌, length, take, map, refl, sym, ap, ◌∙◌, subst, arith, append_assoc, inl, codes, Option, Some, None, lit≤}
use Rattle.std.specs.Prelude.{decimal, slice_range}
use Rattle.std.specs.List.{list_all}
use Rattle.std.specs.Str.Parse.{digits_value}
use Rattle.std.proofs.lemmas.Bool.{lt-ltb, le-ltb, and_from, and_parts}
use Rattle.std.proofs.lemmas.Bool.Decides.{nat_tests}
use Rattle.std.proofs.lemmas.Fmt.{decimal_is_IsNumeral}
use Rattle.std.proofs.lemmas.List.{append-nil, length-append, take_at, drop_at}
use Rattle.std.proofs.lemmas.List.Folds.{list_all-append}
use Rattle.httparse.specs.Grammar.{is_token_byte, is_uri_byte, is_value_byte, trim_ows, crlf, RequestHead, IsRequestHead, print_request, ReadsRequest, IsToken}
use Rattle.httparse.specs.Spans.{name_and_value}
use Rattle.sg_base.specs.declared.limits.TheConstants.{MAX_HEAD, MAX_FIELDS, MAX_BODY}
use Rattle.sg_http.specs.declared.message.Verb.{Verb}
use Rattle.sg_http.specs.declared.message.Verb.TheVariants.{Get, Post, Put, Other}
use Rattle.sg_http.specs.Head.{is_newline, head_end}
use Rattle.sg_http.specs.Fields.{values, first_value, is_number, length_of, first_fault, length_fault, size_fault, verb_of, closes, fault_of}
use Rattle.sg_http.specs.Messages.{Request, Whole, head_text, IsHeadOf, Opens}
use Rattle.sg_http.specs.Texts.{verb_name, close_line, length_lines, body_bytes, request_lines, request_text, lines_text, head_lines, IsBodyOf, IsSendable}
use Rattle.sg_http.proofs.LineLemmas.{is_clean, IsLine, AreLines, head_ends_too}
use Rattle.sg_http.proofs.TreeLemmas.{Pair, field_of, line_of, fields_text, AllPass-from_test, ArePairs, fields_are, digits_are_value, digits_trim, decimal_passes, digits_clean}
use Rattle.sg_http.proofs.Laws.{opens_some}
use Rattle.sg_http.proofs.JudgeLemmas.{judged_whole, first_of}

abbrev length_pairs : Option (List ℕ) → List Pair
length_pairs None = []
length_pairs (Some body) = (codes "Content-Length", decimal (length body)) ∷ []

abbrev request_pairs : List ℕ → Option (List ℕ) → List Pair
request_pairs key body =
    (codes "Host", codes "signage") ∷ (codes "Sign-Key", key) ∷ (codes "Connection", codes "close") ∷ length_pairs body

abbrev tree_of : List ℕ → List ℕ → List Pair → RequestHead
tree_of method path pairs = record {
  blank = [];
  method = method;
  target = path;
  minor = 1;
  line_end = crlf;
  fields = map field_of pairs;
  last = crlf;
}

regroup : (method path text : List ℕ)
    → ((((method ++ (32 ∷ path)) ++ (32 ∷ codes "HTTP/1.1")) ++ (13 ∷ 10 ∷ [])) ++ (text ++ (13 ∷ 10 ∷ [])))
    ≡ ((method ++ (32 ∷ (path ++ codes " HTTP/1.1"))) ++ (13 ∷ 10 ∷ text)) ++ (13 ∷ 10 ∷ [])
regroup method path text = simp append_assoc

print_tree : (method path : List ℕ) (pairs : List Pair)
    → print_request (tree_of method path pairs) ≡ head_lines ((method ++ (32 ∷ (path ++ codes " HTTP/1.1"))) ∷ map line_of pairs)
unfolding print_request
print_tree method path pairs =
    let fields = fields_text pairs in rw fields (regroup method path (lines_text (map line_of pairs)))

same_lines : (verb : Verb) (path key : List ℕ) (body : Option (List ℕ))
    → (verb_name verb ++ (32 ∷ (path ++ codes " HTTP/1.1"))) ∷ map line_of (request_pairs key body) ≡ request_lines verb path key body
same_lines verb path key None = refl
same_lines verb path key (Some body) = refl

-- ---- its parts are of the grammar

pairs_are : (key : List ℕ) (body : Option (List ℕ)) → list_all is_value_byte key ≡ true → length (body_bytes body) < 2 ^ 64
    → ArePairs (request_pairs key body)
unfolding is_token_byte
pairs_are key None value fits = (
  record { some = lit≤ tt; name = refl; value = refl },
  (record { some = lit≤ tt; name = refl; value = value }, (record { some = lit≤ tt; name = refl; value = refl }, tt)),
)
pairs_are key (Some body) value fits = (
  record { some = lit≤ tt; name = refl; value = refl },
  (
    record { some = lit≤ tt; name = refl; value = value },
    (
      record { some = lit≤ tt; name = refl; value = refl },
      (
        record {
          some = lit≤ tt;
          name = refl;
          value = digits_are_value (decimal (length body)) (decimal_passes (length body) fits);
        },
        tt,
      ),
    ),
  ),
)

verb_token : (verb : Verb) (body : Option (List ℕ)) → IsBodyOf verb body → IsToken (verb_name verb)
unfolding is_token_byte
verb_token Get body is = (lit≤ tt, AllPass-from_test is_token_byte (codes "GET") refl)
verb_token Post body is = (lit≤ tt, AllPass-from_test is_token_byte (codes "POST") refl)
verb_token Put body is = (lit≤ tt, AllPass-from_test is_token_byte (codes "PUT") refl)
verb_token Other body is = absurd is

few_pairs : (key : List ℕ) (body : Option (List ℕ)) → length (map field_of (request_pairs key body)) ≤ MAX_FIELDS
few_pairs key None = lit≤ tt
few_pairs key (Some body) = lit≤ tt

-- ---- its lines

uri_is_clean : (b : ℕ) → is_uri_byte b ≡ true → not (is_newline b) ≡ true
uri_is_clean b uri = grind (arith, nat_tests)

value_is_clean : (b : ℕ) → is_value_byte b ≡ true → not (is_newline b) ≡ true
value_is_clean b value = grind (arith, nat_tests)

clean_by : (test : ℕ → Bool) → ((b : ℕ) → test b ≡ true → not (is_newline b) ≡ true) → (bytes : List ℕ)
    → list_all test bytes ≡ true → is_clean bytes ≡ true
clean_by test clean [] pass = refl
clean_by test clean (b ∷ bytes) pass =
    let parts = and_parts (test b) (list_all test bytes) pass in
    and_from (not (is_newline b)) (is_clean bytes) (clean b parts.0) (clean_by test clean bytes parts.1)

path_is_clean : (path : List ℕ) → list_all is_uri_byte path ≡ true → is_clean (path ++ codes " HTTP/1.1") ≡ true
path_is_clean path uri =
    list_all-append (λ b. not (is_newline b)) path (codes " HTTP/1.1")
    ∙ and_from (is_clean path) true (clean_by is_uri_byte uri_is_clean path uri) refl

first_is_line : (verb : Verb) (path : List ℕ) (body : Option (List ℕ)) → IsBodyOf verb body → list_all is_uri_byte path ≡ true
    → IsLine (verb_name verb ++ (32 ∷ (path ++ codes " HTTP/1.1")))
first_is_line Get path body is uri = record { some = omega arith; clean = path_is_clean path uri }
first_is_line Post path body is uri = record { some = omega arith; clean = path_is_clean path uri }
first_is_line Put path body is uri = record { some = omega arith; clean = path_is_clean path uri }
first_is_line Other path body is uri = absurd is

abbrev after_first : List ℕ → Option (List ℕ) → List (List ℕ)
after_first key body = codes "Host: signage" ∷ (codes "Sign-Key: " ++ key) ∷ close_line ∷ length_lines body

after_are_lines : (key : List ℕ) (body : Option (List ℕ)) → list_all is_value_byte key ≡ true
    → length (body_bytes body) < 2 ^ 64 → AreLines (after_first key body)
after_are_lines key None value fits = (
  record { some = lit≤ tt; clean = refl },
  (
    record { some = omega arith; clean = clean_by is_value_byte value_is_clean key value },
    (record { some = lit≤ tt; clean = refl }, tt),
  ),
)
after_are_lines key (Some body) value fits = (
  record { some = lit≤ tt; clean = refl },
  (
    record { some = omega arith; clean = clean_by is_value_byte value_is_clean key value },
    (
      record { some = lit≤ tt; clean = refl },
      (
        record {
          some = omega arith;
          clean = digits_clean (decimal (length body)) (decimal_passes (length body) fits);
        },
        tt,
      ),
    ),
  ),
)

-- ---- what its fields say

abbrev texts : List ℕ → Option (List ℕ) → List (List ℕ × List ℕ)
texts key body = map name_and_value (map field_of (request_pairs key body))

length_is_number : (n : ℕ) → n < 2 ^ 64
    → (is_number (trim_ows (32 ∷ decimal n)) ≡ true) × (digits_value 10 (trim_ows (32 ∷ decimal n)) ≡ n)
length_is_number n fits =
    let numeral = decimal_is_IsNumeral n fits in
    let pass = decimal_passes n fits in
    let some : nat_lt 0 (length (decimal n)) ≡ true = lt-ltb 0 (length (decimal n)) numeral.0.0 in
    let trimmed = digits_trim (decimal n) pass in (
      ap is_number trimmed ∙ and_from (nat_lt 0 (length (decimal n))) _ some pass,
      ap (digits_value 10) trimmed ∙ numeral.1,
    )

length_passes : (verb : Verb) (v : List ℕ) → is_number v ≡ true → digits_value 10 v ≤ MAX_BODY
    → first_fault (length_fault (v ∷ [])) (size_fault verb (v ∷ [])) ≡ None
length_passes Get v number fits = let small : nat_lt MAX_BODY (digits_value 10 v) ≡ false = le-ltb _ _ fits in rw (number, small) refl
length_passes Post v number fits = let small : nat_lt MAX_BODY (digits_value 10 v) ≡ false = le-ltb _ _ fits in rw (number, small) refl
length_passes Put v number fits = let small : nat_lt MAX_BODY (digits_value 10 v) ≡ false = le-ltb _ _ fits in rw (number, small) refl
length_passes Other v number fits = let small : nat_lt MAX_BODY (digits_value 10 v) ≡ false = le-ltb _ _ fits in rw (number, small) refl

no_fault : (verb : Verb) (key : List ℕ) (body : Option (List ℕ)) → IsBodyOf verb body → length (body_bytes body) ≤ MAX_BODY
    → fault_of verb 1 (texts key body) ≡ None
unfolding fault_of
no_fault Get key None is fits = refl
no_fault Get key (Some body) is fits = cc
no_fault Post key None is fits = absurd (is refl)
no_fault Post key (Some body) is fits =
    let number = length_is_number (length body) (omega arith) in
    length_passes Post (trim_ows (32 ∷ decimal (length body))) number.0 (omega (arith, number.1))
no_fault Put key None is fits = absurd (is refl)
no_fault Put key (Some body) is fits =
    let number = length_is_number (length body) (omega arith) in
    length_passes Put (trim_ows (32 ∷ decimal (length body))) number.0 (omega (arith, number.1))
no_fault Other key body is fits = absurd is

says_length : (key : List ℕ) (body : Option (List ℕ)) → length (body_bytes body) < 2 ^ 64
    → length (body_bytes body) ≡ length_of (values (codes "Content-Length") (texts key body))
says_length key None fits = refl
says_length key (Some body) fits = sym (length_is_number (length body) fits).1

verb_back : (verb : Verb) (body : Option (List ℕ)) → IsBodyOf verb body → verb_of (verb_name verb) ≡ verb
verb_back Get body is = refl
verb_back Post body is = refl
verb_back Put body is = refl
verb_back Other body is = absurd is

says_close : (verb : Verb) (key : List ℕ) (body : Option (List ℕ)) → IsBodyOf verb body
    → closes (verb_name verb) 1 (texts key body) ≡ true
unfolding trim_ows
says_close Get key None is = refl
says_close Get key (Some body) is = refl
says_close Post key None is = refl
says_close Post key (Some body) is = refl
says_close Put key None is = refl
says_close Put key (Some body) is = refl
says_close Other key body is = absurd is

says_key : (key : List ℕ) (body : Option (List ℕ)) → trim_ows key ≡ key
    → first_value (values (codes "Sign-Key") (texts key body)) ≡ Some key
unfolding trim_ows
says_key key None trimmed = ap Some trimmed
says_key key (Some body) trimmed = ap Some trimmed

-- ---- reading it back

request_same : (verb verb' : Verb) (path : List ℕ) (key key' : Option (List ℕ)) (body body' : List ℕ) (close close' : Bool)
    → verb' ≡ verb → key' ≡ key → body' ≡ body → close' ≡ close
    → (let wanted : Request = record { method = verb; target = path; key = key; body = body; close = close } in
    let found : Request = record { method = verb'; target = path; key = key'; body = body'; close = close' } in found ≡ wanted)
request_same verb verb' path key key' body body' close close' a b c d =
    λ i. record { method = a i; target = path; key = b i; body = c i; close = d i }

pub request_read : (verb : Verb) (path key : List ℕ) (body : Option (List ℕ)) (more : List ℕ) → IsSendable verb path key body
    → Opens (request_text verb path key body ++ more)
    (Whole (record { method = verb; target = path; key = Some key; body = body_bytes body; close = true })
    (length (request_text verb path key body)))
request_read verb path key body more is =
    let bytes = body_bytes body in
    let fits : length bytes < 2 ^ 64 = omega (arith, is.size) in
    let pairs = request_pairs key body in
    let tree = tree_of (verb_name verb) path pairs in
    let head = head_lines (request_lines verb path key body) in
    let after = bytes ++ more in
    let same : print_request tree ≡ head = print_tree (verb_name verb) path pairs
    ∙ ap head_lines (same_lines verb path key body) in
    let is_head : IsRequestHead tree = record {
      method = verb_token verb body is.method;
      target = (is.some, AllPass-from_test is_uri_byte path is.target);
      target_text = is.text;
      minor = lit≤ tt;
      fields = fields_are pairs (pairs_are key body is.value fits);
    } in
    let reads : ReadsRequest head tree [] = (is_head, sym (append-nil (print_request tree) ∙ same)) in
    let here : IsHeadOf head tree = record { rest = []; reads = reads; few = few_pairs key body } in
    let front : take (length head) (head ++ after) ≡ head = take_at head after (length head) refl in
    let P : List ℕ → Type 0 = λ l. IsHeadOf l tree in
    let ends : head_end (take MAX_HEAD (head ++ after)) ≡ Some (length head) =
    ap head_end (first_of MAX_HEAD head after is.head)
    ∙ head_ends_too (verb_name verb ++ (32 ∷ (path ++ codes " HTTP/1.1"))) (after_first key body)
    (take (MAX_HEAD - length head) after) (first_is_line verb path body is.method is.target)
    (after_are_lines key body is.value fits) in
    let used : length (print_request tree) ≡ length head = ap length same in
    let there : length (print_request tree) + length bytes ≤ length (head ++ after) =
    omega (arith, length-append head after, length-append bytes more) in
    let fault : fault_of (verb_of (verb_name verb)) 1 (texts key body) ≡ None =
    ap (λ (v : Verb). fault_of v 1 (texts key body)) (verb_back verb body is.method) ∙ no_fault verb key body is.method is.size in
    let judged_is = judged_whole (head_text tree) (head ++ after) (length bytes) fault (says_length key body fits) there in
    let part : slice_range (head ++ after) (length (print_request tree)) (length (print_request tree) + length bytes) ≡ bytes =
    body_there head after bytes more (length (print_request tree)) used refl in
    let wanted = request_same verb (verb_of (verb_name verb)) path (Some key) (first_value (values (codes "Sign-Key") (texts key body)))
    bytes _ true (closes (verb_name verb) 1 (texts key body)) (verb_back verb body is.method) (says_key key body is.trimmed)
    part (says_close verb key body is.method) in
    let total : length (print_request tree) + length bytes ≡ length (head ++ bytes) = omega (arith, length-append head bytes) in
    let is_whole = judged_is ∙ ap (λ (r : Request). Whole r (length (print_request tree) + length bytes)) wanted
    ∙ ap (Whole (record { method = verb; target = path; key = Some key; body = bytes; close = true })) total in
    let Q : List ℕ → Type 0 = λ l. Opens l (Whole (record { method = verb; target = path; key = Some key; body = bytes; close = true }) (length (head ++ bytes))) in
    subst Q (sym (append_assoc head bytes more))
    (opens_some (head ++ after) _ (length head) ends (inl (tree, subst P (sym front) here, sym is_whole)))
  where
    body_there : (head after bytes more : List ℕ) (used : ℕ) → used ≡ length head → after ≡ bytes ++ more
        → slice_range (head ++ after) used (used + length bytes) ≡ bytes
    body_there head after bytes more used e f =
        let size : used + length bytes - used ≡ length bytes = omega arith in
        rw (size, drop_at head after used (sym e), f) (take_at bytes more (length bytes) refl)
