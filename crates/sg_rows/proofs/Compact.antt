-- The compact text of a plain value reads back as that value. The text is UTF-8, and nothing in the value is a float.
use Rattle.std.proofs.Common.{◌≡◌, ℕ, suc, ◌^◌, ◌<◌, ◌≤◌, max, ◌==◌, pos, negsuc, List, [], ◌∷◌, ◌++◌, length, Bool, true, false, Some, option_and_then, decimal, refl, sym, ap, ap₂, ◌∙◌, arith, append-nil, ne_eqb, IsUtf8, Ordering, Less, Equal, Greater}
use Rattle.std.proofs.lemmas.Cmp.{nat_list_cmp_total}
use Rattle.std.proofs.lemmas.Fmt.{decimal_is_IsNumeral, decimal_nonempty, IsAscii-decimal}
use Rattle.std.proofs.lemmas.Str.{IsUtf8-from_ascii, IsUtf8-append, IsUtf8-nil}
use Rattle.std.specs.Prelude.{⊤}
use Rattle.std.specs.Ordering.{nat_cmp, is_lt}
use Rattle.std.specs.Cmp.Lexicographic.{slice_cmp}
use Rattle.std.specs.Char.{digit_value}
use Rattle.std.specs.Str.Parse.{AllDigits}
use Rattle.json.specs.Lex.{tokens}
use Rattle.json.specs.Word.{after_number, head}
use Rattle.json.specs.Print.{IsNumber}
use Rattle.json.specs.Json as json
use Rattle.json.specs.Tree as tree
use Rattle.json.proofs.Printed.Tokens.{tokens-print}
use Rattle.json.proofs.Printed.Trees.{value-json_tokens, ArePrintable-json_tokens}
use Rattle.json.proofs.Printed.Decimals.{IsNumber-decimal}
use Rattle.json.proofs.Printed.Utf8.{IsUtf8-quoted, IsUtf8-boolean, IsUtf8-are_ascii}
use Rattle.serde_json.specs.Data.{Num, unsigned, negative, float, Data, null, boolean, number, string, array, object, Items, no_items, item, Members, no_members, member, put, depth, items_depth, members_depth}
use Rattle.serde_json.specs.Read.{number_of, of_json, of_items, of_members, max_depth, read}
use Rattle.serde_json.specs.Written.{number_text, outline, items_outline, members_outline, has_float, items_have_float, members_have_float, comma_if, compact_text, items_text, members_text}
use Rattle.serde_json.specs.Find.{is_float}
use Rattle.serde_json.proofs.Texts.{print-outline}
use Rattle.serde_json.proofs.Numbers.{number_of-decimal, number_of-negative}
use Rattle.sg_rows.specs.Compact.{IsInteger, precedes, IsPlain, AreItemsPlain, AreMembersPlain}

-- ---- numbers

number_of-number_text : (n : Num) → IsInteger n → number_of (number_text n) ≡ Some n
number_of-number_text (unsigned n) h = number_of-decimal n h
number_of-number_text (negative (pos n)) h = absurd h
number_of-number_text (negative (negsuc n)) h = number_of-negative n h
number_of-number_text (float x) h = absurd h

not_minus : (ds : List ℕ) → AllDigits 10 ds → 0 < length ds → (head ds == 45) ≡ false
not_minus [] h some = absurd (omega arith)
not_minus (d ∷ ds) h some = ne_eqb d 45 (λ e. let digit : digit_value d < 10 = h.0 in grind arith)

IsNumber-minus : (ds : List ℕ) → (head ds == 45) ≡ false → IsNumber ds → IsNumber (45 ∷ ds)
unfolding after_number
IsNumber-minus ds e h = rw e at h

IsNumber-number_text : (n : Num) → IsInteger n → IsNumber (number_text n)
IsNumber-number_text (unsigned n) h = IsNumber-decimal n h
IsNumber-number_text (negative (pos n)) h = absurd h
IsNumber-number_text (negative (negsuc n)) h =
    let fits : suc n < 2 ^ 64 = omega arith in
    IsNumber-minus (decimal (suc n)) (not_minus _ (decimal_is_IsNumeral (suc n) fits).0.1 (decimal_nonempty (suc n) fits)) (IsNumber-decimal (suc n) fits)
IsNumber-number_text (float x) h = absurd h

mutual
  HasNumbers-outline : (d : Data) → IsPlain d → tree.HasNumbers (outline d)
  HasNumbers-outline null h = tt
  HasNumbers-outline (boolean b) h = tt
  HasNumbers-outline (number n) h = IsNumber-number_text n h
  HasNumbers-outline (string s) h = tt
  HasNumbers-outline (array ds) h = ItemsHaveNumbers-outline ds h
  HasNumbers-outline (object ms) h = MembersHaveNumbers-outline ms h

  ItemsHaveNumbers-outline : (ds : Items) → AreItemsPlain ds → tree.ItemsHaveNumbers (items_outline ds)
  ItemsHaveNumbers-outline no_items h = tt
  ItemsHaveNumbers-outline (item d ds) h = (HasNumbers-outline d h.0, ItemsHaveNumbers-outline ds h.1)

  MembersHaveNumbers-outline : (ms : Members) → AreMembersPlain ms → tree.MembersHaveNumbers (members_outline ms)
  MembersHaveNumbers-outline no_members h = tt
  MembersHaveNumbers-outline (member k d ms) h = (HasNumbers-outline d h.2, MembersHaveNumbers-outline ms h.3)

-- ---- the outline nests as deep

mutual
  depth-outline : (d : Data) → tree.depth (outline d) ≡ depth d
  depth-outline null = refl
  depth-outline (boolean b) = refl
  depth-outline (number n) = refl
  depth-outline (string s) = refl
  depth-outline (array ds) = ap suc (depth-items_outline ds)
  depth-outline (object ms) = ap suc (depth-members_outline ms)

  depth-items_outline : (ds : Items) → tree.items_depth (items_outline ds) ≡ items_depth ds
  depth-items_outline no_items = refl
  depth-items_outline (item d ds) = ap₂ max (depth-outline d) (depth-items_outline ds)

  depth-members_outline : (ms : Members) → tree.members_depth (members_outline ms) ≡ members_depth ms
  depth-members_outline no_members = refl
  depth-members_outline (member k d ms) = ap₂ max (depth-outline d) (depth-members_outline ms)

-- ---- members that go in with ascending keys stand in that order

abbrev join : Members → Members → Members
join no_members ms = ms
join (member l e rest) ms = member l e (join rest ms)

-- each key stands before k
abbrev AreBefore : Members → List ℕ → Type 0
AreBefore no_members k = ⊤
AreBefore (member l e rest) k = (slice_cmp nat_cmp l k ≡ Less) × AreBefore rest k

-- each key of the first stands before the keys of the second
abbrev LeadTo : Members → Members → Type 0
LeadTo found no_members = ⊤
LeadTo found (member k d ms) = AreBefore found k

is_less : (o : Ordering) → is_lt o ≡ true → o ≡ Less
is_less Less e = refl
is_less Equal e = absurd (cc)
is_less Greater e = absurd (cc)

before_next : (found : Members) (k l : List ℕ) → AreBefore found k → slice_cmp nat_cmp k l ≡ Less → AreBefore found l
before_next no_members k l h less = tt
before_next (member j e rest) k l h less = (nat_list_cmp_total.trans j k l h.0 less, before_next rest k l h.1 less)

before_joined : (found : Members) (k l : List ℕ) (d : Data) → AreBefore found l → slice_cmp nat_cmp k l ≡ Less → AreBefore (join found (member k d no_members)) l
before_joined no_members k l d h less = (less, tt)
before_joined (member j e rest) k l d h less = (h.0, before_joined rest k l d h.1 less)

lead_on : (found : Members) (k : List ℕ) (d : Data) (ms : Members) → AreBefore found k → precedes k ms ≡ true → LeadTo (join found (member k d no_members)) ms
lead_on found k d no_members h e = tt
lead_on found k d (member l f ms) h e = let less = is_less (slice_cmp nat_cmp k l) e in before_joined found k l d (before_next found k l h less) less

put_last : (k : List ℕ) (d : Data) (found : Members) → AreBefore found k → put k d found ≡ join found (member k d no_members)
put_last k d no_members h = refl
put_last k d (member l e rest) h = rw (nat_list_cmp_total.antisymm k l, h.0) (ap (member l e) (put_last k d rest h.1))

join-join : (found : Members) (k : List ℕ) (d : Data) (ms : Members) → join (join found (member k d no_members)) ms ≡ join found (member k d ms)
join-join no_members k d ms = refl
join-join (member l e rest) k d ms = ap (member l e) (join-join rest k d ms)

join-none : (found : Members) → join found no_members ≡ found
join-none no_members = refl
join-none (member l e rest) = ap (member l e) (join-none rest)

nothing_leads : (ms : Members) → LeadTo no_members ms
nothing_leads no_members = tt
nothing_leads (member k d ms) = tt

mutual
  of_json-outline : (d : Data) → IsPlain d → of_json (outline d) ≡ Some d
  of_json-outline null h = refl
  of_json-outline (boolean b) h = refl
  of_json-outline (number n) h = rw (number_of-number_text n h)
  of_json-outline (string s) h = refl
  of_json-outline (array ds) h = rw (of_items-outline ds h)
  of_json-outline (object ms) h = rw (of_members-outline no_members ms h (nothing_leads ms))

  of_items-outline : (ds : Items) → AreItemsPlain ds → of_items (items_outline ds) ≡ Some ds
  of_items-outline no_items h = refl
  of_items-outline (item d ds) h = rw (of_json-outline d h.0, of_items-outline ds h.1)

  of_members-outline : (found ms : Members) → AreMembersPlain ms → LeadTo found ms → of_members (members_outline ms) found ≡ Some (join found ms)
  of_members-outline found no_members h lead = ap Some (sym (join-none found))
  of_members-outline found (member k d ms) h lead =
      rw (of_json-outline d h.2, put_last k d found lead)
      (of_members-outline (join found (member k d no_members)) ms h.3 (lead_on found k d ms lead h.1) ∙ ap Some (join-join found k d ms))

-- ---- the text is UTF-8

IsUtf8-number_text : (n : Num) → IsInteger n → IsUtf8 (number_text n)
IsUtf8-number_text (unsigned n) h = IsUtf8-from_ascii _ (IsAscii-decimal n h)
IsUtf8-number_text (negative (pos n)) h = absurd h
IsUtf8-number_text (negative (negsuc n)) h =
    let fits : suc n < 2 ^ 64 = omega arith in
    IsUtf8-append (45 ∷ []) (decimal (suc n)) (IsUtf8-are_ascii _ refl) (IsUtf8-from_ascii _ (IsAscii-decimal (suc n) fits))
IsUtf8-number_text (float x) h = absurd h

IsUtf8-comma_if : (later : Bool) → IsUtf8 (comma_if later)
IsUtf8-comma_if true = IsUtf8-are_ascii _ refl
IsUtf8-comma_if false = IsUtf8-nil

mutual
  pub IsUtf8-compact_text : (d : Data) → IsPlain d → IsUtf8 (compact_text d)
  IsUtf8-compact_text null h = IsUtf8-are_ascii _ refl
  IsUtf8-compact_text (boolean b) h = IsUtf8-boolean b
  IsUtf8-compact_text (number n) h = IsUtf8-number_text n h
  IsUtf8-compact_text (string s) h = IsUtf8-quoted s h
  IsUtf8-compact_text (array ds) h = IsUtf8-append (91 ∷ []) _ (IsUtf8-are_ascii _ refl) (IsUtf8-items_text false ds h)
  IsUtf8-compact_text (object ms) h = IsUtf8-append (123 ∷ []) _ (IsUtf8-are_ascii _ refl) (IsUtf8-members_text false ms h)

  IsUtf8-items_text : (later : Bool) (ds : Items) → AreItemsPlain ds → IsUtf8 (items_text later ds)
  IsUtf8-items_text later no_items h = IsUtf8-are_ascii _ refl
  IsUtf8-items_text later (item d ds) h =
      IsUtf8-append _ _ (IsUtf8-comma_if later) (IsUtf8-append _ _ (IsUtf8-compact_text d h.0) (IsUtf8-items_text true ds h.1))

  IsUtf8-members_text : (later : Bool) (ms : Members) → AreMembersPlain ms → IsUtf8 (members_text later ms)
  IsUtf8-members_text later no_members h = IsUtf8-are_ascii _ refl
  IsUtf8-members_text later (member k d ms) h =
      let value = IsUtf8-append _ _ (IsUtf8-compact_text d h.2) (IsUtf8-members_text true ms h.3) in
      IsUtf8-append _ _ (IsUtf8-comma_if later) (IsUtf8-append _ _ (IsUtf8-quoted k h.0) (IsUtf8-append (58 ∷ []) _ (IsUtf8-are_ascii _ refl) value))

-- ---- nothing in the value is a float

is_float-integer : (n : Num) → IsInteger n → is_float n ≡ false
is_float-integer (unsigned n) h = refl
is_float-integer (negative z) h = refl
is_float-integer (float x) h = absurd h

mutual
  pub has_float-plain : (d : Data) → IsPlain d → has_float d ≡ false
  has_float-plain null h = refl
  has_float-plain (boolean b) h = refl
  has_float-plain (number n) h = is_float-integer n h
  has_float-plain (string s) h = refl
  has_float-plain (array ds) h = items_have_float-plain ds h
  has_float-plain (object ms) h = members_have_float-plain ms h

  items_have_float-plain : (ds : Items) → AreItemsPlain ds → items_have_float ds ≡ false
  items_have_float-plain no_items h = refl
  items_have_float-plain (item d ds) h = rw (has_float-plain d h.0) (items_have_float-plain ds h.1)

  members_have_float-plain : (ms : Members) → AreMembersPlain ms → members_have_float ms ≡ false
  members_have_float-plain no_members h = refl
  members_have_float-plain (member k d ms) h = rw (has_float-plain d h.2) (members_have_float-plain ms h.3)

-- ---- the law

tokens-compact_text : (d : Data) → IsPlain d → tokens (compact_text d) ≡ tree.json_tokens (outline d) ++ []
tokens-compact_text d h =
    ap tokens (sym (print-outline d)) ∙ tokens-print _ (ArePrintable-json_tokens (outline d) (HasNumbers-outline d h)) ∙ sym (append-nil _)

pub read-compact_text : (d : Data) → IsPlain d → depth d ≤ max_depth → read (compact_text d) ≡ Some d
read-compact_text d h shallow =
    let fits : tree.depth (outline d) ≤ max_depth = omega (arith, depth-outline d) in
    ap (λ ts. option_and_then of_json (option_and_then (λ p. json.if_last p.0 p.1) (json.value max_depth ts))) (tokens-compact_text d h)
    ∙ ap (λ r. option_and_then of_json (option_and_then (λ p. json.if_last p.0 p.1) r)) (value-json_tokens (outline d) max_depth [] fits)
    ∙ of_json-outline d h
