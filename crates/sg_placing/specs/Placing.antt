-- Where the bytes of files stand in the data area, and the gaps between them.
use Rattle.std.specs.Prelude.{◌≡◌, ℕ, ◌+◌, ◌^◌, ◌<◌, ◌≤◌, List, [], ◌∷◌, All, AllPairs, Bool, false, ◌&&◌, ◌==◌, nat_eq}
use Rattle.std.specs.Cmp.Lexicographic.{pointwise}
use Rattle.std.specs.List.{list_any}
use Rattle.sg_base.specs.declared.file.Listed.{Listed}
use Rattle.sg_disk.specs.Contents.{Segment, StoredFile, IsClear, IsInside}
use Rattle.sg_disk.specs.StandsFor.{place_of}
use Rattle.sg_base.specs.declared.limits.TheConstants.{MAX_FILE_LEN}
use Rattle.sg_disk.specs.declared.places.TheConstants.{DATA}
use Rattle.sg_placing.specs.declared.placed.Placed.{Placed}

-- the bytes of a placed file: one segment of the listed length
abbrev pub segment_of : Placed → Segment
segment_of p = record { place = p.place; size = p.file.length }

abbrev pub segments_of_placed : Placed → List Segment
segments_of_placed p = segment_of p ∷ []

-- the place behind its last byte
abbrev pub end_of : Placed → ℕ
end_of p = p.place + p.file.length

-- a file of the contents, without its bytes
abbrev pub placed_of : StoredFile → Placed
placed_of f = record { file = f.listed; place = place_of f.stand }

-- a placed file lies in a data area of this length, and its own length is within the limit
pub record IsPlaced (room : ℕ) (p : Placed) : Type 0 where
  pub inside : IsInside room (segment_of p)
  pub length : (1 ≤ p.file.length) × (p.file.length ≤ MAX_FILE_LEN)
  pub media : (1 ≤ p.file.media.0) × (p.file.media.0 < 2 ^ 32)

-- none of the n bytes at a place is a placed file's
abbrev pub AreClearOf : List Placed → ℕ → ℕ → Type 0
AreClearOf taken n place = All (λ p. IsClear place n (segment_of p)) taken

-- no byte belongs to two files
abbrev pub AreApart : List Placed → Type 0
AreApart files = AllPairs (λ p q. IsClear q.place q.file.length (segment_of p)) files

-- the n bytes at a place are in a gap: they lie in the data area, and none is a placed file's
pub record IsFree (room : ℕ) (taken : List Placed) (n place : ℕ) : Type 0 where
  pub low : DATA ≤ place
  pub high : place + n ≤ DATA + room
  pub clear : AreClearOf taken n place

-- the front of the lowest gap that has n bytes: further down no n bytes are free
pub record IsLowest (room : ℕ) (taken : List Placed) (n place : ℕ) : Type 0 where
  pub free : IsFree room taken n place
  pub least : (q : ℕ) → IsFree room taken n q → place ≤ q

-- the length of the longest gap, 0 where nothing is free
pub record IsLongest (room : ℕ) (taken : List Placed) (longest : ℕ) : Type 0 where
  pub found : 0 < longest → (place : ℕ) × IsFree room taken longest place
  pub most : (n place : ℕ) → IsFree room taken n place → n ≤ longest

-- no file ends behind the first place and before the second
abbrev pub NoneEndsBetween : List Placed → ℕ → ℕ → Type 0
NoneEndsBetween files place q = All (λ p. end_of p ≤ q → end_of p ≤ place) files

-- two files have the same id, length and MD5
abbrev pub same_file : Listed → Listed → Bool
same_file a b = a.media.0 == b.media.0 && (a.length == b.length && pointwise nat_eq a.md5 b.md5)

-- a file is one of the listed ones
abbrev pub is_listed : List Listed → Listed → Bool
is_listed files file = list_any (λ f. same_file f file) files

-- by strictly ascending id
abbrev pub AreAscending : List Placed → Type 0
AreAscending files = AllPairs (λ p q. p.file.media.0 < q.file.media.0) files

-- no two of them have the same id, length and MD5
abbrev pub AreDistinct : List Placed → Type 0
AreDistinct files = AllPairs (λ p q. same_file p.file q.file ≡ false) files
