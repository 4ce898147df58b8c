-- Files that are staged beside those of a snapshot.
use Rattle.std.specs.Prelude.{◌≡◌, ℕ, ◌/◌, ◌+◌, ◌<◌, ◌≤◌, List, [], ◌∷◌, ◌++◌, length, find, Option, None, Some, IfSome, All, AllPairs, is_some, unwrap_or, Bool, false}
use Rattle.std.specs.List.{flat_map}
use Rattle.md5.specs.Md5.{Holds}
use Rattle.md5.specs.declared.Md5.{Md5}
use Rattle.sg_base.specs.declared.file.Listed.{Listed}
use Rattle.sg_base.specs.declared.limits.TheConstants.{MANIFEST_FILES, MAX_FILE_LEN}
use Rattle.sg_disk.specs.Contents.{IsInside, taken_at}
use Rattle.sg_disk.specs.Contents.{Pages}
use Rattle.sg_disk.specs.declared.places.TheConstants.{PAGE}
use Rattle.sg_placing.specs.Placing.{same_file}
use Rattle.sg_pages.specs.Pages.{needed, free_pages}
use Rattle.sg_pages.specs.Shelves.{FileAt, Shelved, IsFilled, all_taken_at, stands}
use Rattle.sg_pages.specs.declared.page_set.TheConstants.{MAX_PAGES}
use Rattle.sg_contents.specs.Lawful.{AreBeside, pages_at}

-- a file of which a part is staged: its pages, how many of its bytes have come, and their digest so far
pub record HalfStaged : Type 0 where
  pub file : Listed
  pub pages : List ℕ
  pub count : ℕ
  pub hasher : Md5

-- the files that are staged and sealed, in the order in which they were sealed, and the one of which a part is staged
pub record Staged : Type 0 where
  pub sealed : Shelved
  pub half : Option HalfStaged

abbrev pub nothing_staged : Staged
nothing_staged = record { sealed = record { files = []; pages = [] }; half = None }

-- where the half staged file stands
abbrev pub half_at : HalfStaged → FileAt
half_at h = record { file = h.file; stand = Pages h.pages }

abbrev pub half_stands : Option HalfStaged → List FileAt
half_stands None = []
half_stands (Some h) = half_at h ∷ []

-- the files whose bytes are whole, where they stand: those of the snapshot, and then the sealed ones
abbrev pub whole_files : Shelved → Staged → List FileAt
whole_files current s = stands current ++ stands s.sealed

-- all that takes room in the data area
abbrev pub taken_files : Shelved → Staged → List FileAt
taken_files current s = whole_files current s ++ half_stands s.half

-- the pages of files, in their order
abbrev pub pages_of_files : List FileAt → List ℕ
pages_of_files files = flat_map (λ f. pages_at f.stand) files

-- the pages that none of the whole files touches, lowest first
abbrev pub free_beside : ℕ → Shelved → Staged → List ℕ
free_beside room current s = free_pages (all_taken_at (whole_files current s)) (room / PAGE)

-- where a listed file stands, if it is among these
abbrev pub stands_as : List FileAt → Listed → Option FileAt
stands_as files listed = find (λ f. same_file f.file listed) files

-- one of the whole files has this id, length and MD5
abbrev pub is_among : Shelved → Staged → Listed → Bool
is_among current s listed = is_some (stands_as (whole_files current s) listed)

-- the file among these that is a listed one
abbrev pub chosen : List FileAt → Listed → FileAt
chosen files listed = unwrap_or (stands_as files listed) (record { file = listed; stand = Pages [] })

-- a file that stands in a data area of this length, with no byte taken twice, and in as many pages as it needs
pub record IsStanding (room : ℕ) (f : FileAt) : Type 0 where
  pub media : 1 ≤ f.file.media.0
  pub long : (1 ≤ f.file.length) × (f.file.length ≤ MAX_FILE_LEN)
  pub stored : (pages : List ℕ) → f.stand ≡ Pages pages → length pages ≡ needed f.file.length
  pub inside : All (IsInside room) (taken_at f.file.length f.stand)
  pub apart : AllPairs AreBeside (taken_at f.file.length f.stand)

-- no byte is of both
abbrev pub AreApart : FileAt → FileAt → Type 0
AreApart f g = All (λ s. All (AreBeside s) (taken_at g.file.length g.stand)) (taken_at f.file.length f.stand)

-- two files differ in id, length or MD5, and have no byte in common
pub record AreOthers (f g : FileAt) : Type 0 where
  pub other : same_file f.file g.file ≡ false
  pub apart : AreApart f g

-- What is staged beside a snapshot, whatever disk it is: each file stands in the data area, no two are the same, and no byte is
-- taken twice
pub record IsStagedIn (room : ℕ) (current : Shelved) (s : Staged) : Type 0 where
  pub filled : IsFilled current
  pub sealed : IsFilled s.sealed
  pub few : length s.sealed.files ≤ MANIFEST_FILES
  pub standing : All (IsStanding room) (taken_files current s)
  pub others : AllPairs AreOthers (taken_files current s)
  pub half : IfSome s.half (λ h. (h.count ≤ h.file.length) × (length s.sealed.files < MANIFEST_FILES))

-- the sealed files have room for the half staged one
pub record HasPlace (s : Staged) : Type 0 where
  pub filled : IsFilled s.sealed
  pub few : length s.sealed.files < MANIFEST_FILES
  pub pages : IfSome s.half (λ h. length s.sealed.pages + length h.pages ≤ MAX_PAGES)
  pub long : IfSome s.half (λ h. length h.pages ≡ needed h.file.length)

-- a file is half staged in these pages, with these bytes so far
pub record IsHalf (s : Staged) (file : Listed) (pages bytes : List ℕ) : Type 0 where
  pub half : HalfStaged
  pub is : s.half ≡ Some half
  pub file_is : half.file ≡ file
  pub pages_are : half.pages ≡ pages
  pub count : half.count ≡ length bytes
  pub holds : Holds half.hasher bytes
