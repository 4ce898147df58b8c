-- Numbers and files as the store's bytes have them. Numbers stand low byte first.
use Rattle.std.specs.Prelude.{◌≡◌, ℕ, zero, suc, ◌+◌, ◌*◌, ◌<◌, ◌≤◌, List, [], ◌∷◌, ◌++◌, codes, slice_index, replicate}
use Rattle.std.specs.List.{flat_map}
use Rattle.std.specs.Int.{w32, w64, from_le_bytes}
use Rattle.sg_disk.specs.View.{range}
use Rattle.sg_disk.specs.StandsFor.{le32, le64}
use Rattle.sg_disk.specs.declared.places.TheConstants.{ENTRY_LEN, FILE_LEN, FILE_MD5, FILE_PLACE}
use Rattle.sg_placing.specs.declared.placed.Placed.{Placed}

-- the header from byte 4 on: version, mark, display, epoch and the length of the data area
unfoldable pub header_fields : ℕ → ℕ → ℕ → List ℕ
header_fields display epoch room = le32 1
    ++ (codes "SGNSTORE" ++ (le32 display ++ (le32 epoch ++ le64 room)))

-- the n bytes at a place are zeros
abbrev pub AreZeros : ℕ → ℕ → List ℕ → Type 0
AreZeros place n c = (p : ℕ) → place ≤ p → p < place + n → slice_index c p ≡ 0

-- the number of 4 bytes, and of 8
unfoldable pub u32_at : List ℕ → ℕ → ℕ
u32_at c place = from_le_bytes w32 (range c place 4)

unfoldable pub u64_at : List ℕ → ℕ → ℕ
u64_at c place = from_le_bytes w64 (range c place 8)

-- an entry of a table: medium, length, MD5 and place
unfoldable pub placed_at : List ℕ → ℕ → Placed
placed_at table place = record {
  file = record {
    media = record { 0 = u32_at table place };
    length = u32_at table (place + FILE_LEN);
    md5 = range table (place + FILE_MD5) 16;
  };
  place = u64_at table (place + FILE_PLACE);
}

-- the first n entries of a table
abbrev pub entries_of : List ℕ → ℕ → List Placed
entries_of table zero = []
entries_of table (suc n) = entries_of table n ++ placed_at table (ENTRY_LEN * n) ∷ []

-- the fields of a slot from byte 4 on: switch number, length of the text, number of files
unfoldable pub head_fields : ℕ → ℕ → ℕ → List ℕ
head_fields number text count = le32 number ++ (le32 text ++ le32 count)

-- a table entry: medium, length, MD5 and place
unfoldable pub placed_entry : Placed → List ℕ
placed_entry p = le32 p.file.media.0 ++ le32 p.file.length ++ p.file.md5 ++ le64 p.place

-- what a switch writes as its table: the entries, or one of zeros where there is no file
abbrev pub table_bytes : List Placed → List ℕ
table_bytes [] = replicate ENTRY_LEN 0
table_bytes (p ∷ files) = flat_map placed_entry (p ∷ files)
