-- Which values are plain and how deep they nest, by their outer constructor; and that such a value's text reads back.
use Rattle.std.proofs.Common.{◌≡◌, ℕ, suc, ◌^◌, ◌<◌, ◌≤◌, ◌&&◌, nat_le, ℤ, pos, negsuc, List, [], ◌∷◌, map, Bool, true, false, Some, FitsSigned, IsUtf8, arith}
use Rattle.std.proofs.lemmas.Bool.{and_parts}
use Rattle.std.specs.Prelude.{⊤}
use Rattle.std.specs.List.{AllByRecursion}
use Rattle.std.specs.Int.{w64}
use Rattle.std.specs.Str.{is_utf8}
use Rattle.std.proofs.lemmas.Str.{is_utf8-from_IsUtf8}
use borrow.Author.Tests.{leb-true}
use Rattle.json.proofs.Printed.Utf8.{are_ascii, IsUtf8-are_ascii}
use Rattle.serde_json.specs.Data.{unsigned, Data, null, boolean, number, string, array, object, Items, no_items, item, Members, no_members, member, depth, items_depth, members_depth}
use Rattle.serde_json.specs.Find.{of_integer}
use Rattle.serde_json.specs.View.{items_of}
use Rattle.serde_json.specs.Read.{max_depth, read}
use Rattle.serde_json.specs.Written.{compact_text, has_float}
use Rattle.sg_rows.proofs.Compact.{read-compact_text, IsUtf8-compact_text, has_float-plain}
use Rattle.sg_rows.specs.Compact.{precedes, IsPlain, AreItemsPlain, AreMembersPlain}

-- plain, and with arrays and objects that nest no deeper than n
pub record Sound (n : ℕ) (d : Data) : Type 0 where
  pub plain : IsPlain d
  pub shallow : depth d ≤ n

-- ---- values with nothing inside, at any depth

pub Sound-null : {n : ℕ} → Sound n null
Sound-null = record { plain = tt; shallow = omega arith }

pub Sound-boolean : {n : ℕ} (b : Bool) → Sound n (boolean b)
Sound-boolean b = record { plain = tt; shallow = omega arith }

pub Sound-unsigned : {n : ℕ} (k : ℕ) → k < 2 ^ 64 → Sound n (number (unsigned k))
Sound-unsigned k h = record { plain = h; shallow = omega arith }

pub Sound-of_integer : {n : ℕ} (z : ℤ) → FitsSigned w64 z → Sound n (number (of_integer z))
Sound-of_integer (pos k) h = record { plain = omega arith; shallow = omega arith }
Sound-of_integer (negsuc k) h = record { plain = omega arith; shallow = omega arith }

pub Sound-string : {n : ℕ} (s : List ℕ) → IsUtf8 s → Sound n (string s)
Sound-string s u = record { plain = u; shallow = omega arith }

-- `refl` shows the test of a literal
pub Sound-literal : {n : ℕ} (s : List ℕ) → are_ascii s ≡ true → Sound n (string s)
Sound-literal s e = Sound-string s (IsUtf8-are_ascii s e)

-- ---- a bound may be raised; `refl` shows the test of two numerals

pub Sound-deeper : {m n : ℕ} {d : Data} → nat_le m n ≡ true → Sound m d → Sound n d
Sound-deeper {m} {n} e s = record { plain = s.plain; shallow = omega (arith, leb-true m n e, s.shallow) }

-- ---- arrays

abbrev pub AreItemsSound : ℕ → Items → Type 0
AreItemsSound n no_items = ⊤
AreItemsSound n (item d ds) = Sound n d × AreItemsSound n ds

record Inside (n : ℕ) (ds : Items) : Type 0 where
  plain : AreItemsPlain ds
  shallow : items_depth ds ≤ n

items_inside : (n : ℕ) (ds : Items) → AreItemsSound n ds → Inside n ds
items_inside n no_items h = record { plain = tt; shallow = omega arith }
items_inside n (item d ds) h = let rest = items_inside n ds h.1 in record { plain = (h.0.plain, rest.plain); shallow = omega (arith, h.0.shallow, rest.shallow) }

-- the items are known one by one
pub Sound-array : {n : ℕ} {ds : Items} → AreItemsSound n ds → Sound (suc n) (array ds)
Sound-array {n} {ds} h = let inside = items_inside n ds h in record { plain = inside.plain; shallow = omega (arith, inside.shallow) }

AreItemsSound-map : {A : Type 0} {P : A → Type 0} (n : ℕ) (f : A → Data) → ((x : A) → P x → Sound n (f x)) → (xs : List A) → AllByRecursion P xs → AreItemsSound n (items_of (map f xs))
AreItemsSound-map n f each [] h = tt
AreItemsSound-map n f each (x ∷ xs) h = (each x h.0, AreItemsSound-map n f each xs h.1)

-- the items are made of a list's, each of which keeps P
pub Sound-list : {A : Type 0} {P : A → Type 0} {n : ℕ} {f : A → Data} → ((x : A) → P x → Sound n (f x)) → (xs : List A) → AllByRecursion P xs → Sound (suc n) (array (items_of (map f xs)))
Sound-list {n = n} {f = f} each xs h = Sound-array (AreItemsSound-map n f each xs h)

-- ---- objects

-- the keys are ASCII and ascend
abbrev pub are_keys : Members → Bool
are_keys no_members = true
are_keys (member k d ms) = are_ascii k && (precedes k ms && are_keys ms)

abbrev pub AreMembersSound : ℕ → Members → Type 0
AreMembersSound n no_members = ⊤
AreMembersSound n (member k d ms) = Sound n d × AreMembersSound n ms

record Within (n : ℕ) (ms : Members) : Type 0 where
  plain : AreMembersPlain ms
  shallow : members_depth ms ≤ n

members_within : (n : ℕ) (ms : Members) → are_keys ms ≡ true → AreMembersSound n ms → Within n ms
members_within n no_members e h = record { plain = tt; shallow = omega arith }
members_within n (member k d ms) e h =
    let first = and_parts _ _ e in
    let second = and_parts _ _ first.1 in
    let rest = members_within n ms second.1 h.1 in
    record { plain = (IsUtf8-are_ascii k first.0, second.0, h.0.plain, rest.plain); shallow = omega (arith, h.0.shallow, rest.shallow) }

-- `refl` shows the test of literal keys
pub Sound-object : {n : ℕ} {ms : Members} → are_keys ms ≡ true → AreMembersSound n ms → Sound (suc n) (object ms)
Sound-object {n} {ms} e h = let within = members_within n ms e h in record { plain = within.plain; shallow = omega (arith, within.shallow) }

-- ---- the text of a sound value

-- `refl` shows the test of a numeral
pub read-Sound : {n : ℕ} {d : Data} → nat_le n max_depth ≡ true → Sound n d → read (compact_text d) ≡ Some d
read-Sound {n} {d} e s = read-compact_text d s.plain (omega (arith, leb-true n max_depth e, s.shallow))

pub is_utf8-Sound : {n : ℕ} {d : Data} → Sound n d → is_utf8 (compact_text d) ≡ true
is_utf8-Sound {d = d} s = is_utf8-from_IsUtf8 (compact_text d) (IsUtf8-compact_text d s.plain)

pub has_float-Sound : {n : ℕ} {d : Data} → Sound n d → has_float d ≡ false
has_float-Sound {d = d} s = has_float-plain d s.plain
