-- The JSON of a valid row reads as the row.
use Rattle.std.proofs.Common.{◌≡◌, ℕ, suc, ◌/◌, ◌%◌, ◌^◌, ◌<◌, ◌≤◌, true, slice_index, List, [], ◌∷◌, Result, Ok, refl, lt-ltb, arith, ℤ, pos, negsuc}
use Rattle.std.proofs.lemmas.Bool.{le-ltb}
use Rattle.std.proofs.lemmas.Int.{ints}
use Rattle.std.specs.List.{AllByRecursion, list_all}
use Rattle.serde_json.specs.Data.{Data, number}
use Rattle.serde_json.specs.Find.{of_integer}
use Rattle.hex.specs.Hex.{IsBytes, encode_with, encode_lower, lower_digits}
use Rattle.hex.proofs.HexLemmas.{decode_sized-encode_lower}
use Rattle.sg_base.specs.declared.limits.TheConstants.{MAX_FILE_LEN}
use Rattle.sg_base.specs.declared.layout.Item.{Item}
use Rattle.sg_base.specs.declared.layout.Region.{Region}
use Rattle.sg_base.specs.declared.file.Listed.{Listed}
use Rattle.sg_base.specs.Layout.{LayoutRow}
use Rattle.sg_rows.specs.declared.fault.RowFault.{RowFault}
use Rattle.sg_rows.specs.Zone.{IsMinutes}
use Rattle.sg_rows.specs.Rows.{IsId, IsItem, IsRegion, IsLayoutRow, IsListed}
use Rattle.sg_rows.specs.Text.{whole, list_of, item_json, region_json, layout_json, file_json}
use Rattle.sg_rows.specs.Parts.{number_at, id_at, list_at, is_digit, digest_at, integer_at}
use Rattle.sg_rows.specs.Reading.{item_at, region_at, layout_at, file_at}
use Rattle.sg_rows.proofs.DayLemmas.{passes_below, passes_at}

-- each row reads again, and so does the list
pub list_again : {A : Type 0} (f : A → Data) (g : Data → Result A RowFault) (P : A → Type 0) → ((x : A) → P x → g (f x) ≡ Ok x) → (xs : List A) → AllByRecursion P xs → list_at g (list_of f xs) ≡ Ok xs
list_again f g P again [] h = refl
list_again f g P again (x ∷ xs) h = rw (again x h.0, list_again f g P again xs h.1) refl

pub number_again : (n : ℕ) → n < 2 ^ 32 → number_at (whole n) ≡ Ok n
number_again n h = rw (lt-ltb n (2 ^ 32) h) refl

pub id_again : (n : ℕ) → IsId n → id_at (whole n) ≡ Ok n
unfolding id_at
id_again n h = rw (lt-ltb n (2 ^ 32) h.fits, lt-ltb 0 n h.some) refl

pub item_again : (i : Item) → IsItem i → item_at (item_json i) ≡ Ok i
unfolding item_at
item_again i h = rw (id_again i.media.0 h.media, lt-ltb i.seconds (2 ^ 32) h.seconds) refl

pub region_again : (r : Region) → IsRegion r → region_at (region_json r) ≡ Ok r
unfolding region_at
region_again r h = rw (id_again r.id h.id, list_again item_json item_at IsItem item_again r.items h.items) refl

pub layout_again : (l : LayoutRow) → IsLayoutRow l → layout_at (layout_json l) ≡ Ok l
unfolding layout_at
layout_again l h = rw (id_again l.id.0 h.id, list_again region_json region_at IsRegion region_again l.regions h.regions, h.accepted.sound) refl

-- the digits of an encoding are those of a digest
low_digit : (d : ℕ) → d < 16 → is_digit (slice_index lower_digits d) ≡ true
unfolding passes_below
low_digit d h = passes_at (λ n. is_digit (slice_index lower_digits n)) 16 d refl h

are_digits : (bytes : List ℕ) → IsBytes bytes → list_all is_digit (encode_lower bytes) ≡ true
unfolding encode_with
are_digits [] h = refl
are_digits (b ∷ rest) h =
    let fits : b < 256 = h 0 in
    let high : b / 16 < 16 = omega arith in
    let low : b % 16 < 16 = omega arith in
    rw (low_digit (b / 16) high, low_digit (b % 16) low) (are_digits rest (λ k. h (suc k)))

pub file_again : (f : Listed) → IsListed f → file_at (file_json f) ≡ Ok f
unfolding file_at digest_at
file_again f h =
    let low : f.length < 2 ^ 32 = omega (arith, h.few) in
    let some : 0 < f.length = omega (arith, h.some) in
    let digest = decode_sized-encode_lower f.md5 16 h.digest h.bytes in
    rw (id_again f.media.0 h.media, lt-ltb f.length (2 ^ 32) low, le-ltb MAX_FILE_LEN f.length h.few, lt-ltb 0 f.length some, are_digits f.md5 h.bytes, digest) refl

pub integer_again : (z : ℤ) → IsMinutes z → integer_at (number (of_integer z)) ≡ Ok z
integer_again (pos n) h =
    let most : n ≤ 840 = omega (arith, ints, h.high) in
    let fits : n < 2 ^ 63 = omega arith in
    let small : n ≤ 2147483647 = omega arith in
    rw (lt-ltb n (2 ^ 63) fits, le-ltb 2147483647 n small) refl
integer_again (negsuc n) h =
    let most : n ≤ 2147483647 = omega (arith, ints, h.low) in
    rw (le-ltb 2147483647 n most) refl
