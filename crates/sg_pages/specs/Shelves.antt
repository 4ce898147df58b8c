-- Files on a shelf, and where each stands.
use Rattle.std.specs.Prelude.{◌≡◌, ◌≢◌, ℕ, ◌+◌, ◌*◌, ◌/◌, ◌%◌, ◌<◌, All, slice_index, ◌==◌, List, [], ◌∷◌, length, take, drop, sum_by, if◌then◌else◌}
use Rattle.std.specs.List.{flat_map}
use Rattle.sg_base.specs.declared.file.Listed.{Listed}
use Rattle.sg_disk.specs.Contents.{Segment, Stand, IsInside, taken_at}
use Rattle.sg_disk.specs.Contents.{Extent, Pages}
use Rattle.sg_disk.specs.declared.places.TheConstants.{DATA, PAGE}
use Rattle.sg_placing.specs.declared.placed.Placed.{Placed}
use Rattle.sg_pages.specs.Pages.{needed}
use Rattle.sg_pages.specs.declared.shelf.Found.{Found}

-- a file, and where it stands
pub record FileAt : Type 0 where
  pub file : Listed
  pub stand : Stand

-- what files take of the data area
abbrev pub all_taken_at : List FileAt → List Segment
all_taken_at files = flat_map (λ f. taken_at f.file.length f.stand) files

-- what is on a shelf: files, of which those with the place 0 stand in pages, and all pages of these
pub record Shelved : Type 0 where
  pub files : List Placed
  pub pages : List ℕ

-- how many pages a file has on a shelf: as many as its length needs, or none if it stands in one range
abbrev pub pages_for : Placed → ℕ
pages_for p = if p.place == 0 then needed p.file.length else 0

-- where a file stands, whose pages are the first of these
abbrev pub stand_in : List ℕ → Placed → Stand
stand_in pages p = if p.place == 0 then Pages (take (needed p.file.length) pages) else Extent p.place

-- where files stand: the pages are those of the first file, then those of the second, and so on
abbrev pub stands_in : List ℕ → List Placed → List FileAt
stands_in pages [] = []
stands_in pages (p ∷ files) = record { file = p.file; stand = stand_in pages p } ∷ stands_in (drop (pages_for p) pages) files

abbrev pub stands : Shelved → List FileAt
stands s = stands_in s.pages s.files

-- the range of a file that stands in one
abbrev pub extent_of : Placed → List Segment
extent_of p = if p.place == 0 then [] else record { place = p.place; size = p.file.length } ∷ []

-- a file stands in pages, or in a range of a data area of this length
abbrev pub IsPlacedIn : ℕ → Placed → Type 0
IsPlacedIn room p = p.place ≢ 0 → IsInside room (record { place = p.place; size = p.file.length })

-- all files of a shelf stand in a data area of this length
pub record IsShelfIn (room : ℕ) (s : Shelved) : Type 0 where
  pub filled : length s.pages ≡ sum_by pages_for s.files
  pub files : All (IsPlacedIn room) s.files
  pub pages : All (λ page. page < room / PAGE) s.pages

-- a file that was found, of which the first page is that one of these
abbrev pub found_at : List ℕ → Found → FileAt
found_at pages found = record { file = found.placed.file; stand = stand_in (drop found.first pages) found.placed }

-- a shelf has as many pages as its files need
abbrev pub IsFilled : Shelved → Type 0
IsFilled s = length s.pages ≡ sum_by pages_for s.files

-- where a byte of a file stands: behind its place, or in the page that the byte is in
abbrev pub byte_place : Stand → ℕ → ℕ
byte_place (Extent place) offset = place + offset
byte_place (Pages pages) offset = DATA + PAGE * slice_index pages (offset / PAGE) + offset % PAGE
