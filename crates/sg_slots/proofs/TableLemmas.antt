-- The table that a switch writes reads back as its files.
use Rattle.std.proofs.Common.{◌≡◌, ℕ, zero, suc, ◌+◌, ◌*◌, ◌^◌, ◌<◌, ◌≤◌, List, [], ◌∷◌, ◌++◌, length, get_or, take, drop, map, All, refl, sym, ◌∙◌, ap, arith, length-append, length-drop}
use Rattle.std.specs.List.{flat_map}
use Rattle.std.specs.Int.{w32, w64, from_le_bytes}
use Rattle.std.proofs.lemmas.Nat.{from_le_bytes-to_le_bytes_4, from_le_bytes-to_le_bytes_8}
use Rattle.std.proofs.lemmas.List.{same_lists, length-map, get_or-map, drop-append-le, take-append-le, drop-drop, drop_at, take_at}
use Rattle.sg_disk.specs.View.{range}
use Rattle.sg_disk.specs.Contents.{StoredFile}
use Rattle.sg_disk.specs.Contents.{Extent}
use Rattle.sg_disk.specs.StandsFor.{le32, le64, place_of, entry}
use Rattle.sg_placing.specs.Placing.{placed_of}
use Rattle.sg_slots.specs.Bytes.{u32_at, u64_at, placed_at, entries_of}
use Rattle.sg_slots.proofs.SlotLemmas.{length-entries, get_or-entries}

-- the fields of a file fit an entry
pub record FitsEntry (f : StoredFile) : Type 0 where
  pub media : f.listed.media.0 < 2 ^ 32
  pub long : f.listed.length < 2 ^ 32
  pub digest : length f.listed.md5 ≡ 16
  pub place : place_of f.stand < 2 ^ 64

-- a range of the front of a list
range_left : (xs ys : List ℕ) (p n : ℕ) → p + n ≤ length xs → range (xs ++ ys) p n ≡ range xs p n
unfolding range
range_left xs ys p n le =
    let near : p ≤ length xs = omega (arith, le) in
    let far : n ≤ length (drop p xs) = omega (arith, le, length-drop p xs) in
    ap (λ (l : List ℕ). take n l) (drop-append-le p xs ys near) ∙ take-append-le n (drop p xs) ys far

-- a range behind the front of a list
range_right : (xs ys : List ℕ) (a p n : ℕ) → length xs ≡ a → range (xs ++ ys) (a + p) n ≡ range ys p n
unfolding range
range_right xs ys a p n is = ap (λ (l : List ℕ). take n l) (sym (drop-drop p a (xs ++ ys)) ∙ ap (λ (l : List ℕ). drop p l) (drop_at xs ys a is))

-- an entry, field by field
pub entry_long : (f : StoredFile) → length f.listed.md5 ≡ 16 → length (entry f) ≡ 32
unfolding entry le32 le64
entry_long f digest = simp length-append (omega (arith, digest))

entry_media : (f : StoredFile) → range (entry f) 0 4 ≡ le32 f.listed.media.0
unfolding entry le32 le64 range
entry_media f = refl

entry_length : (f : StoredFile) → range (entry f) 4 4 ≡ le32 f.listed.length
unfolding entry le32 le64 range
entry_length f = refl

entry_digest : (f : StoredFile) → length f.listed.md5 ≡ 16 → range (entry f) 8 16 ≡ f.listed.md5
unfolding entry le32 le64 range
entry_digest f digest = take_at f.listed.md5 (le64 (place_of f.stand)) 16 digest

front_long : (f : StoredFile) → length f.listed.md5 ≡ 16 → length (le32 f.listed.media.0 ++ le32 f.listed.length ++ f.listed.md5) ≡ 24
unfolding le32
front_long f digest = omega (arith, digest)

le64_whole : (n : ℕ) → range (le64 n) 0 8 ≡ le64 n
unfolding le64 range
le64_whole n = refl

entry_place : (f : StoredFile) → length f.listed.md5 ≡ 16 → range (entry f) 24 8 ≡ le64 (place_of f.stand)
unfolding entry
entry_place f digest = range_right (le32 f.listed.media.0 ++ le32 f.listed.length ++ f.listed.md5) (le64 (place_of f.stand)) 24 0 8 (front_long f digest) ∙ le64_whole (place_of f.stand)

-- an entry of a table
entry_in : (files : List StoredFile) (i p n : ℕ) (d : StoredFile) → All FitsEntry files → i < length files → p + n ≤ 32 → range (flat_map entry files) (32 * i + p) n ≡ range (entry (get_or files i d)) p n
entry_in [] i p n d fit lt le = absurd (omega (arith, lt))
entry_in (f ∷ files) zero p n d fit lt le =
    let fits = fit zero f (omega arith) in
    let at : 32 * zero + p ≡ p = omega arith in
    ap (λ (k : ℕ). range (entry f ++ flat_map entry files) k n) at ∙ range_left (entry f) (flat_map entry files) p n (omega (arith, le, entry_long f fits.digest))
entry_in (f ∷ files) (suc i) p n d fit lt le =
    let fits = fit zero f (omega arith) in
    let at : 32 * suc i + p ≡ 32 + (32 * i + p) = omega arith in
    ap (λ (k : ℕ). range (entry f ++ flat_map entry files) k n) at ∙ range_right (entry f) (flat_map entry files) 32 (32 * i + p) n (entry_long f fits.digest) ∙ entry_in files i p n d (λ k e below. fit (suc k) e (omega (arith, below))) (omega (arith, lt)) le

number_32 : (c : List ℕ) (place n : ℕ) → n < 2 ^ 32 → range c place 4 ≡ le32 n → u32_at c place ≡ n
unfolding u32_at le32
number_32 c place n lt is = ap (λ (l : List ℕ). from_le_bytes w32 l) is ∙ from_le_bytes-to_le_bytes_4 n lt

number_64 : (c : List ℕ) (place n : ℕ) → n < 2 ^ 64 → range c place 8 ≡ le64 n → u64_at c place ≡ n
unfolding u64_at le64
number_64 c place n lt is = ap (λ (l : List ℕ). from_le_bytes w64 l) is ∙ from_le_bytes-to_le_bytes_8 n lt

-- a number that stands at a place
pub number_at : (c : List ℕ) (place n : ℕ) → n < 2 ^ 32 → range c place 4 ≡ le32 n → u32_at c place ≡ n
number_at c place n lt is = number_32 c place n lt is

pub long_at : (c : List ℕ) (place n : ℕ) → n < 2 ^ 64 → range c place 8 ≡ le64 n → u64_at c place ≡ n
long_at c place n lt is = number_64 c place n lt is

placed_in_table : (files : List StoredFile) (i : ℕ) (d : StoredFile) → All FitsEntry files → i < length files → placed_at (flat_map entry files) (32 * i) ≡ placed_of (get_or files i d)
unfolding placed_at
placed_in_table files i d fit lt =
    let f : StoredFile = get_or files i d in
    let fits : FitsEntry f = fit i d lt in
    let table : List ℕ = flat_map entry files in
    let zeroth : 32 * i ≡ 32 * i + 0 = omega arith in
    let media : u32_at table (32 * i) ≡ f.listed.media.0 = ap (λ (k : ℕ). u32_at table k) zeroth ∙ number_32 table (32 * i + 0) f.listed.media.0 fits.media (entry_in files i 0 4 d fit lt (omega arith) ∙ entry_media f) in
    let long : u32_at table (32 * i + 4) ≡ f.listed.length = number_32 table (32 * i + 4) f.listed.length fits.long (entry_in files i 4 4 d fit lt (omega arith) ∙ entry_length f) in
    let digest : range table (32 * i + 8) 16 ≡ f.listed.md5 = entry_in files i 8 16 d fit lt (omega arith) ∙ entry_digest f fits.digest in
    let place : u64_at table (32 * i + 24) ≡ place_of f.stand = number_64 table (32 * i + 24) (place_of f.stand) fits.place (entry_in files i 24 8 d fit lt (omega arith) ∙ entry_place f fits.digest) in
    rw (media, long, digest, place)

-- the files of a table
pub entries_back : (files : List StoredFile) → All FitsEntry files → entries_of (flat_map entry files) (length files) ≡ map placed_of files
entries_back files fit =
    let table : List ℕ = flat_map entry files in
    same_lists (entries_of table (length files)) (map placed_of files) (length-entries table (length files) ∙ sym (length-map files placed_of)) (λ k d lt.
    let near : k < length files = omega (arith, lt, length-entries table (length files)) in
    get_or-entries table (length files) k d near ∙ placed_in_table files k nowhere_stored fit near ∙ sym (get_or-map placed_of files k nowhere_stored d near))
  where
    nowhere_stored : StoredFile
    nowhere_stored = record { listed = record { media = record { 0 = 0 }; length = 0; md5 = [] }; stand = Extent 0; bytes = [] }
