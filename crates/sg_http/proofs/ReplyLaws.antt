-- The text of a reply is read as what it is, and a front of it as cut.
use Rattle.std.proofs.Common.{◌≡◌, ℕ, ◌^◌, ◌<◌, ◌≤◌, nat_lt, nat_le, Bool, true, false, ◌||◌, List, [], ◌∷◌, ◌++◌, length, take, drop, map, refl, sym, ap, ◌∙◌, subst, arith, append_assoc, inl, inr, ◌⊎◌, codes, Option, Some, None, lit≤}
use Rattle.std.specs.Prelude.{◌==◌, decimal, MatchOption, MatchBool}
use Rattle.std.specs.List.{list_all}
use Rattle.std.specs.Char.{is_ascii_digit}
use Rattle.std.proofs.lemmas.Bool.{lt-ltb, le-ltb, le-leb, eq-eqb, and_from, cases_lt}
use Rattle.std.proofs.lemmas.Fmt.{decimal_is_IsNumeral, length-decimal-le}
use Rattle.std.proofs.lemmas.List.{append-nil, length-append, length-drop, take_at, drop_at, take-append-le, take-append-drop}
use Rattle.httparse.specs.Grammar.{is_token_byte, crlf, is_value_byte, trim_ows, ResponseHead, IsResponseHead, print_response, ReadsResponse, status_code}
use Rattle.httparse.specs.Spans.{name_and_value}
use Rattle.httparse.proofs.GrammarLemmas.{response_unique}
use Rattle.sg_base.specs.declared.limits.TheConstants.{MAX_FIELDS}
use Rattle.sg_http.specs.declared.message.Verb.{Verb}
use Rattle.sg_http.specs.declared.message.Verb.TheVariants.{Get, Post, Put, Other}
use Rattle.sg_http.specs.declared.reply.Form.{Form}
use Rattle.sg_http.specs.declared.reply.Form.TheVariants.{Json, Octets, Csv}
use Rattle.sg_http.specs.Head.{empty_end}
use Rattle.sg_http.specs.Texts.{reason, IsStatus, form_name, verb_name, status_line, type_line, length_line, allow_lines, close_lines, reply_head, reply_text, lines_text, head_lines}
use Rattle.sg_http.specs.Replies.{Reading, Answer, Part, NoReply, agrees_with, may_be_http, short_number, reply_length, reply_head_text, with_length, reply_judged, IsReplyHeadOf, ReplyHeads, Reads}
use Rattle.sg_http.proofs.LineLemmas.{is_clean, IsLine, AreLines, head_ends, cut_head}
use Rattle.sg_http.proofs.StatusLemmas.{good_status}
use Rattle.sg_http.proofs.TreeLemmas.{Pair, field_of, line_of, fields_text, AllPass-from_test, ArePairs, fields_are, digits_are_value, digits_trim, decimal_passes, digits_clean}
use Rattle.sg_http.proofs.ReadingLemmas.{reads_head, reads_part}

-- ---- the tree of a reply's head

abbrev pub allow_pairs : Option Verb → List Pair
allow_pairs None = []
allow_pairs (Some verb) = (codes "Allow", verb_name verb) ∷ []

abbrev pub close_pairs : Bool → List Pair
close_pairs true = (codes "Connection", codes "close") ∷ []
close_pairs false = []

abbrev pub reply_pairs : Form → Option Verb → ℕ → Bool → List Pair
reply_pairs form allow n close =
    (codes "Content-Type", form_name form) ∷ (codes "Content-Length", decimal n) ∷ (allow_pairs allow ++ close_pairs close)

abbrev pub tree_of : List ℕ → List ℕ → List Pair → ResponseHead
tree_of digits phrase pairs = record {
  blank = [];
  minor = 1;
  digits = digits;
  reason = Some phrase;
  line_end = crlf;
  fields = map field_of pairs;
  last = crlf;
}

regroup : (digits phrase text : List ℕ)
    → ((((codes "HTTP/1.1" ++ (32 ∷ digits)) ++ (32 ∷ phrase)) ++ (13 ∷ 10 ∷ [])) ++ (text ++ (13 ∷ 10 ∷ [])))
    ≡ ((codes "HTTP/1.1 " ++ (digits ++ (32 ∷ phrase))) ++ (13 ∷ 10 ∷ text)) ++ (13 ∷ 10 ∷ [])
regroup digits phrase text = simp append_assoc

print_tree : (digits phrase : List ℕ) (pairs : List Pair)
    → print_response (tree_of digits phrase pairs) ≡ head_lines ((codes "HTTP/1.1 " ++ (digits ++ (32 ∷ phrase))) ∷ map line_of pairs)
unfolding print_response
print_tree digits phrase pairs =
    let fields = fields_text pairs in rw fields (regroup digits phrase (lines_text (map line_of pairs)))

same_lines : (form : Form) (allow : Option Verb) (n : ℕ) (close : Bool)
    → map line_of (reply_pairs form allow n close) ≡ type_line form ∷ length_line n ∷ (allow_lines allow ++ close_lines close)
same_lines form None n true = refl
same_lines form None n false = refl
same_lines form (Some verb) n true = refl
same_lines form (Some verb) n false = refl

form_value : (form : Form) → list_all is_value_byte (form_name form) ≡ true
form_value Json = refl
form_value Octets = refl
form_value Csv = refl

verb_value : (verb : Verb) → list_all is_value_byte (verb_name verb) ≡ true
verb_value Get = refl
verb_value Post = refl
verb_value Put = refl
verb_value Other = refl

form_clean : (form : Form) → is_clean (type_line form) ≡ true
form_clean Json = refl
form_clean Octets = refl
form_clean Csv = refl

more_pairs : (allow : Option Verb) (close : Bool) → ArePairs (allow_pairs allow ++ close_pairs close)
unfolding is_token_byte
more_pairs None true = (record { some = lit≤ tt; name = refl; value = refl }, tt)
more_pairs None false = tt
more_pairs (Some verb) true = (
  record { some = lit≤ tt; name = refl; value = verb_value verb },
  (record { some = lit≤ tt; name = refl; value = refl }, tt),
)
more_pairs (Some verb) false = (record { some = lit≤ tt; name = refl; value = verb_value verb }, tt)

reply_pairs_are : (form : Form) (allow : Option Verb) (n : ℕ) (close : Bool) → n < 2 ^ 64 → ArePairs (reply_pairs form allow n close)
unfolding is_token_byte
reply_pairs_are form allow n close fits = (
  record { some = lit≤ tt; name = refl; value = form_value form },
  (record { some = lit≤ tt; name = refl; value = digits_are_value (decimal n) (decimal_passes n fits) }, more_pairs allow close),
)

few_pairs : (form : Form) (allow : Option Verb) (n : ℕ) (close : Bool) → length (map field_of (reply_pairs form allow n close)) ≤ MAX_FIELDS
few_pairs form None n true = lit≤ tt
few_pairs form None n false = lit≤ tt
few_pairs form (Some verb) n true = lit≤ tt
few_pairs form (Some verb) n false = lit≤ tt

more_lines : (allow : Option Verb) (close : Bool) → AreLines (allow_lines allow ++ close_lines close)
more_lines None true = (record { some = lit≤ tt; clean = refl }, tt)
more_lines None false = tt
more_lines (Some Get) true = (record { some = lit≤ tt; clean = refl }, (record { some = lit≤ tt; clean = refl }, tt))
more_lines (Some Post) true = (record { some = lit≤ tt; clean = refl }, (record { some = lit≤ tt; clean = refl }, tt))
more_lines (Some Put) true = (record { some = lit≤ tt; clean = refl }, (record { some = lit≤ tt; clean = refl }, tt))
more_lines (Some Other) true = (record { some = lit≤ tt; clean = refl }, (record { some = lit≤ tt; clean = refl }, tt))
more_lines (Some Get) false = (record { some = lit≤ tt; clean = refl }, tt)
more_lines (Some Post) false = (record { some = lit≤ tt; clean = refl }, tt)
more_lines (Some Put) false = (record { some = lit≤ tt; clean = refl }, tt)
more_lines (Some Other) false = (record { some = lit≤ tt; clean = refl }, tt)

abbrev after_status : Form → Option Verb → ℕ → Bool → List (List ℕ)
after_status form allow n close = type_line form ∷ length_line n ∷ (allow_lines allow ++ close_lines close)

status_is_line : (status : ℕ) → IsStatus status → IsLine (status_line status)
status_is_line status is = record { some = omega arith; clean = (good_status status is).clean }

after_are_lines : (form : Form) (allow : Option Verb) (n : ℕ) (close : Bool) → n < 2 ^ 64 → AreLines (after_status form allow n close)
after_are_lines form allow n close fits = (
  record { some = omega arith; clean = form_clean form },
  (record { some = omega arith; clean = digits_clean (decimal n) (decimal_passes n fits) }, more_lines allow close),
)

-- ---- what its fields say

decimal_short : (n : ℕ) → n < 10000000000 → short_number (decimal n) ≡ Some n
decimal_short n short =
    let fits : n < 2 ^ 64 = omega arith in
    let numeral = decimal_is_IsNumeral n fits in
    let some : nat_lt 0 (length (decimal n)) ≡ true = lt-ltb 0 (length (decimal n)) numeral.0.0 in
    let few : nat_le (length (decimal n)) 10 ≡ true = le-leb _ _ (length-decimal-le 10 n (lit≤ tt) short fits) in
    let pass = decimal_passes n fits in
    rw (some, pass, few) (ap Some numeral.1)

trimmed : (n : ℕ) → n < 10000000000 → short_number (trim_ows (32 ∷ decimal n)) ≡ Some n
trimmed n short =
    ap short_number (digits_trim (decimal n) (decimal_passes n (omega arith))) ∙ decimal_short n short

fields_length : (form : Form) (allow : Option Verb) (n : ℕ) (close : Bool)
    → reply_length (map name_and_value (map field_of (reply_pairs form allow n close))) ≡ short_number (trim_ows (32 ∷ decimal n))
fields_length form None n true = refl
fields_length form None n false = refl
fields_length form (Some verb) n true = refl
fields_length form (Some verb) n false = refl

-- ---- its first bytes

agrees_front : (text x p q : List ℕ) → p ++ q ≡ text ++ x → agrees_with text p ≡ true
agrees_front [] x [] q split = refl
agrees_front [] x (b ∷ p) q split = refl
agrees_front (t ∷ text) x [] q split = refl
agrees_front (t ∷ text) x (b ∷ p) q split =
    let same : b ≡ t = cc in
    let rest : p ++ q ≡ text ++ x = cc in
    and_from (b == t) (agrees_with text p) (eq-eqb b t same) (agrees_front text x p q rest)

pub front_is_http : (status : ℕ) (form : Form) (allow : Option Verb) (n : ℕ) (close : Bool) (p q after : List ℕ)
    → p ++ q ≡ reply_head status form allow n close ++ after → may_be_http p ≡ true
front_is_http status form allow n close p q after split =
    let x = (((decimal status ++ (32 ∷ reason status)) ++ (13 ∷ 10 ∷ lines_text (after_status form allow n close))) ++ (13 ∷ 10 ∷ [])) ++ after in
    let agrees : agrees_with (codes "HTTP/1.1 ") p ≡ true = agrees_front (codes "HTTP/1.1 ") x p q split in
    by_first (agrees_with (codes "HTTP/1.1 ") p) (agrees_with (codes "HTTP/1.0 ") p) agrees
  where
    by_first : (a b : Bool) → a ≡ true → (a || b) ≡ true
    by_first a b e = rw e refl

-- ---- reading it back

with_same : (s s' : ℕ) (d d' : List ℕ) (o o' : Option ℕ) → s ≡ s' → d ≡ d' → o ≡ o' → with_length s' d' o' ≡ with_length s d o
with_same s s' d d' o o' p q r = sym (λ i. with_length (p i) (q i) (r i))

pub reads_after : (status : ℕ) (form : Form) (allow : Option Verb) (n : ℕ) (close : Bool) (after : List ℕ)
    → IsStatus status → n < 10000000000
    → Reads (reply_head status form allow n close ++ after) (with_length status after (Some n))
reads_after status form allow n close after is short =
    let fits : n < 2 ^ 64 = omega arith in
    let good = good_status status is in
    let pairs = reply_pairs form allow n close in
    let tree = tree_of (decimal status) (reason status) pairs in
    let head = reply_head status form allow n close in
    let same : print_response tree ≡ head = print_tree (decimal status) (reason status) pairs
    ∙ ap (λ (lines : List (List ℕ)). head_lines (status_line status ∷ lines)) (same_lines form allow n close) in
    let is_head : IsResponseHead tree = record {
      minor = lit≤ tt;
      digits = (good.three, AllPass-from_test is_ascii_digit (decimal status) good.digits);
      reason = AllPass-from_test is_value_byte (reason status) good.phrase;
      fields = fields_are pairs (reply_pairs_are form allow n close fits);
    } in
    let reads : ReadsResponse head tree [] = (is_head, sym (append-nil (print_response tree) ∙ same)) in
    let front : take (length head) (head ++ after) ≡ head = take_at head after (length head) refl in
    let here : IsReplyHeadOf head tree = record { rest = []; reads = reads; few = few_pairs form allow n close } in
    let P : List ℕ → Type 0 = λ l. IsReplyHeadOf l tree in
    let behind : drop (length (print_response tree)) (head ++ after) ≡ after =
    ap (λ (l : List ℕ). drop (length l) (head ++ after)) same ∙ drop_at head after (length head) refl in
    let judged : with_length status after (Some n) ≡ reply_judged (reply_head_text tree) (head ++ after) =
    with_same (status_code tree) status (drop (length (print_response tree)) (head ++ after)) after
    (reply_length (map name_and_value (map field_of pairs))) (Some n) good.value behind
    (fields_length form allow n close ∙ trimmed n short) in
    let http = front_is_http status form allow n close (head ++ after) [] after (append-nil (head ++ after)) in
    reads_head (head ++ after) (length head) (with_length status after (Some n)) http
    (head_ends (status_line status) (after_status form allow n close) after (status_is_line status is) (after_are_lines form allow n close fits))
    (inl (tree, subst P (sym front) here, judged))

-- whole, whatever follows
pub reads_whole : (status : ℕ) (form : Form) (allow : Option Verb) (close : Bool) (body more : List ℕ)
    → IsStatus status → length body < 10000000000
    → Reads (reply_text status form allow body close ++ more) (Answer status body)
reads_whole status form allow close body more is short =
    let head = reply_head status form allow (length body) close in
    let enough : nat_lt (length (body ++ more)) (length body) ≡ false = le-ltb _ _ (omega (arith, length-append body more)) in
    let all : take (length body) (body ++ more) ≡ body = take_at body more (length body) refl in
    let is_whole : with_length status (body ++ more) (Some (length body)) ≡ Answer status body = rw (enough, all) refl in
    let P : List ℕ → Type 0 = λ l. Reads l (Answer status body) in
    let Q : Reading → Type 0 = λ r. Reads (head ++ (body ++ more)) r in
    subst P (sym (append_assoc head body more))
    (subst Q is_whole (reads_after status form allow (length body) close (body ++ more) is short))

-- cut in its body
pub reads_body : (status : ℕ) (form : Form) (allow : Option Verb) (n : ℕ) (close : Bool) (got : List ℕ)
    → IsStatus status → n < 10000000000 → length got < n
    → Reads (reply_head status form allow n close ++ got) (Part status (length got) n got)
reads_body status form allow n close got is short less =
    let test : nat_lt (length got) n ≡ true = lt-ltb _ _ less in
    let is_part : with_length status got (Some n) ≡ Part status (length got) n got = rw test refl in
    let Q : Reading → Type 0 = λ r. Reads (reply_head status form allow n close ++ got) r in
    subst Q is_part (reads_after status form allow n close got is short)

-- cut in its head
pub reads_cut : (status : ℕ) (form : Form) (allow : Option Verb) (n : ℕ) (close : Bool) (part rest : List ℕ)
    → IsStatus status → n < 10000000000 → part ++ rest ≡ reply_head status form allow n close → 0 < length rest
    → Reads part (Part 0 (length part) 0 [])
reads_cut status form allow n close part rest is short split some =
    let head = reply_head status form allow n close in
    let fits : n < 2 ^ 64 = omega arith in
    let http = front_is_http status form allow n close part rest [] (split ∙ sym (append-nil head)) in
    reads_part part http
    (cut_head (status_line status) (after_status form allow n close) part rest (status_is_line status is)
    (after_are_lines form allow n close fits) split some)

-- a front of two lists in a row: a front of the first, or the first and a front of the second
pub front_of_two : (a b p q : List ℕ) → p ++ q ≡ a ++ b → 0 < length q
    → ((r : List ℕ) × (p ++ r ≡ a) × (0 < length r)) ⊎ ((r : List ℕ) × (a ++ r ≡ p) × (length r < length b))
front_of_two a b p q split some = by_length (cases_lt (length p) (length a))
  where
    by_length : (length p < length a) ⊎ (length a ≤ length p)
        → ((r : List ℕ) × (p ++ r ≡ a) × (0 < length r)) ⊎ ((r : List ℕ) × (a ++ r ≡ p) × (length r < length b))
    by_length (inl less) =
        let k = length p in
        let front : take k a ≡ p =
        sym (take-append-le k a b (omega arith)) ∙ ap (take k) (sym split) ∙ take_at p q k refl in
        inl (drop k a, ap (λ (l : List ℕ). l ++ drop k a) (sym front) ∙ take-append-drop k a, omega (arith, length-drop k a))
    by_length (inr more) =
        let k = length a in
        let front : take k p ≡ a =
        sym (take-append-le k p q more) ∙ ap (take k) split ∙ take_at a b k refl in
        inr (
          drop k p,
          ap (λ (l : List ℕ). l ++ drop k p) (sym front) ∙ take-append-drop k p,
          omega (arith, length-drop k p, ap length split, length-append p q, length-append a b),
        )

-- a front of a reply is read as cut
pub reads_front : (status : ℕ) (form : Form) (allow : Option Verb) (close : Bool) (body part rest : List ℕ)
    → IsStatus status → length body < 10000000000 → part ++ rest ≡ reply_text status form allow body close → 0 < length rest
    → (s g n : ℕ) × (b : List ℕ) × Reads part (Part s g n b)
reads_front status form allow close body part rest is short split some =
    by_place (front_of_two (reply_head status form allow (length body) close) body part rest split some)
  where
    by_place : ((r : List ℕ) × (part ++ r ≡ reply_head status form allow (length body) close) × (0 < length r))
        ⊎ ((r : List ℕ) × (reply_head status form allow (length body) close ++ r ≡ part) × (length r < length body))
        → (s g n : ℕ) × (b : List ℕ) × Reads part (Part s g n b)
    by_place (inl x) =
        (0, length part, 0, [], reads_cut status form allow (length body) close part x.0 is short x.1 x.2)
    by_place (inr x) =
        let P : List ℕ → Type 0 = λ l. Reads l (Part status (length x.0) (length body) x.0) in
        (status, length x.0, length body, x.0, subst P x.1 (reads_body status form allow (length body) close x.0 is short x.2))

-- ---- the bytes say one thing

same_reply_heads : (front bytes : List ℕ) (a b : Reading) → ReplyHeads front bytes a → ReplyHeads front bytes b → a ≡ b
same_reply_heads front bytes a b (inl x) (inl y) =
    let one = response_unique front x.0 y.0 x.1.rest y.1.rest x.1.reads y.1.reads in
    x.2 ∙ ap (λ (h : ResponseHead). reply_judged (reply_head_text h) bytes) one.0 ∙ sym y.2
same_reply_heads front bytes a b (inl x) (inr y) = absurd (y.0 x.0 x.1)
same_reply_heads front bytes a b (inr x) (inl y) = absurd (x.0 y.0 y.1)
same_reply_heads front bytes a b (inr x) (inr y) = x.1 ∙ sym y.1

pub reads_one : (bytes : List ℕ) (a b : Reading) → Reads bytes a → Reads bytes b → a ≡ b
unfolding Reads
reads_one bytes a b x y = by_first (may_be_http bytes) (empty_end bytes) x y
  where
    by_first : (http : Bool) (end : Option ℕ)
        → MatchBool http (MatchOption end (a ≡ Part 0 (length bytes) 0 []) (λ n. ReplyHeads (take n bytes) bytes a)) (a ≡ NoReply)
        → MatchBool http (MatchOption end (b ≡ Part 0 (length bytes) 0 []) (λ n. ReplyHeads (take n bytes) bytes b)) (b ≡ NoReply)
        → a ≡ b
    by_first false end x y = x ∙ sym y
    by_first true None x y = x ∙ sym y
    by_first true (Some n) x y = same_reply_heads (take n bytes) bytes a b x y
