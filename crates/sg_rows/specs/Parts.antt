-- The parts of rows in JSON: members, numbers, ids, digests, lists.
use Rattle.std.specs.Prelude.{ℕ, ◌+◌, ◌^◌, ◌==◌, ◌&&◌, ◌||◌, ℤ, int_lt, pos, negsuc, List, [], ◌∷◌, ◌++◌, nat_lt, nat_le, Bool, true, false, if◌then◌else◌, is_some, unwrap_or, Option, Some, None, option_map, option_and_then, Result, Ok, Err}
use Rattle.std.specs.Result.{result_ok}
use Rattle.std.specs.List.{list_all}
use Rattle.serde_json.specs.Data.{Data, Items, no_items, item, Members, no_members, member}
use Rattle.serde_json.specs.Find.{get, as_null, as_number, as_str, as_array, as_object, as_u64, as_i64}
use Rattle.hex.specs.Hex.{decode_sized}
use Rattle.sg_rows.specs.declared.fault.RowFault.{RowFault}
use Rattle.sg_rows.specs.declared.fault.RowFault.TheVariants.{Shape}
use Rattle.sg_rows.specs.Faults.{◌>>=◌, needs, wants}

abbrev pub count_of : Members → ℕ
count_of no_members = 0
count_of (member k d ms) = count_of ms + 1

-- an object of this many members. Where as many names are found in it, it has no other
abbrev pub has_count : ℕ → Data → Bool
has_count n d = unwrap_or (option_map (λ ms. count_of ms == n) (as_object d)) false

abbrev pub exactly : ℕ → Data → Result (Unit {0}) RowFault
exactly n d = needs (has_count n d) Shape

abbrev pub has_member : List ℕ → Data → Bool
has_member name d = is_some (get name d)

-- the member of this name, read by f
abbrev pub member_at : {A : Type 0} → (Data → Result A RowFault) → List ℕ → Data → Result A RowFault
member_at f name d = wants (get name d) Shape >>= f

abbrev pub below : ℕ → ℕ → Option ℕ
below bound n = if nat_lt n bound then Some n else None

-- a whole number of 32 bits, written with no fraction or exponent
abbrev pub number_at : Data → Result ℕ RowFault
number_at d = wants (option_and_then (below (2 ^ 32)) (option_and_then as_u64 (as_number d))) Shape

abbrev pub positive : ℕ → Result ℕ RowFault
positive n = if nat_lt 0 n then Ok n else Err Shape

-- an id: a number of at least 1
unfoldable pub id_at : Data → Result ℕ RowFault
id_at d = do
  n ← number_at d
  positive n

abbrev pub text_at : Data → Result (List ℕ) RowFault
text_at d = wants (as_str d) Shape

-- an integer of 32 bits with sign
abbrev pub small_integer : ℤ → Option ℤ
small_integer z = if int_lt z (negsuc 2147483647) || int_lt (pos 2147483647) z then None else Some z

abbrev pub integer_at : Data → Result ℤ RowFault
integer_at d = wants (option_and_then small_integer (option_and_then as_i64 (as_number d))) Shape

-- a digit of a digest: 0 to 9 or a to f, and no capital letter
abbrev pub is_digit : ℕ → Bool
is_digit b = (nat_le 48 b && nat_le b 57) || (nat_le 97 b && nat_le b 102)

-- 32 such digits, two for each byte
unfoldable pub digest_at : Data → Result (List ℕ) RowFault
digest_at d = do
  digits ← text_at d
  lower ← needs (list_all is_digit digits) Shape
  wants (result_ok (decode_sized digits 16)) Shape

-- each entry, read by f
abbrev pub each_at : {A : Type 0} → (Data → Result A RowFault) → Items → Result (List A) RowFault
each_at f no_items = Ok []
each_at f (item d ds) = f d >>= (λ x. each_at f ds >>= (λ xs. Ok (x ∷ xs)))

-- how many entries there are
abbrev pub count_of_items : Items → ℕ
count_of_items no_items = 0
count_of_items (item d ds) = count_of_items ds + 1

abbrev pub items_at : Data → Result Items RowFault
items_at d = wants (as_array d) Shape

abbrev pub list_at : {A : Type 0} → (Data → Result A RowFault) → Data → Result (List A) RowFault
list_at f d = items_at d >>= each_at f

-- null, or a value that f reads
abbrev pub null_or : {A : Type 0} → Bool → (Data → Result A RowFault) → Data → Result (Option A) RowFault
null_or true f d = Ok None
null_or false f d = f d >>= (λ x. Ok (Some x))

abbrev pub nullable_at : {A : Type 0} → (Data → Result A RowFault) → Data → Result (Option A) RowFault
nullable_at f d = null_or (is_some (as_null d)) f d

-- for invariants: more rows behind those that were read
abbrev pub with_front : {F A : Type 0} → List A → Result (List A) F → Result (List A) F
with_front xs (Ok ys) = Ok (xs ++ ys)
with_front xs (Err e) = Err e
