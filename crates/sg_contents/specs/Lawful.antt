-- Lawful contents, whose files stand in pages or in ranges.
use Rattle.std.specs.Prelude.{◌≡◌, ℕ, ◌/◌, ◌^◌, ◌<◌, ◌≤◌, List, [], length, MatchOption, All, AllPairs}
use Rattle.std.specs.List.{flat_map}
use Rattle.sg_base.specs.declared.limits.TheConstants.{MANIFEST_TEXT, MAX_PLAYS}
use Rattle.sg_disk.specs.Contents.{Segment, Stand, StoredFile, Contents, AreListed, IsClear, IsInside, IsRoom, IsPlay, taken, all_taken}
use Rattle.sg_disk.specs.Contents.{Extent, Pages}
use Rattle.sg_disk.specs.declared.places.TheConstants.{PAGE}
use Rattle.sg_pages.specs.Pages.{needed}

-- a file in pages has as many as its length needs
abbrev pub IsStored : StoredFile → Type 0
IsStored f = (pages : List ℕ) → f.stand ≡ Pages pages → length pages ≡ needed f.listed.length

-- the pages of a file: none if it stands in a range
abbrev pub pages_at : Stand → List ℕ
pages_at (Extent place) = []
pages_at (Pages pages) = pages

-- the pages of all files, in the order of the files
abbrev pub all_pages : List StoredFile → List ℕ
all_pages files = flat_map (λ f. pages_at f.stand) files

-- two segments share no byte
abbrev pub AreBeside : Segment → Segment → Type 0
AreBeside s t = IsClear t.place t.size s

-- an opening finds no fault in a slot with this number, text, table and map
pub record IsSnapshot (room number : ℕ) (text : List ℕ) (files : List StoredFile) : Type 0 where
  pub numbered : (1 ≤ number) × (number < 2 ^ 32)
  pub long : (1 ≤ length text) × (length text ≤ MANIFEST_TEXT)
  pub listed : AreListed files
  pub stored : All IsStored files
  pub inside : All (λ f. All (IsInside room) (taken f)) files
  -- no byte is taken twice
  pub apart : AllPairs AreBeside (all_taken files)
  pub few_pages : length (all_pages files) ≤ room / PAGE

-- lawful contents, which alone the clauses on contents speak of
pub record IsLawful (p : Contents) : Type 0 where
  pub display : (1 ≤ p.display) × (p.display < 2 ^ 32)
  pub epoch : (1 ≤ p.epoch) × (p.epoch < 2 ^ 32)
  pub room : IsRoom p.room
  pub snapshot : MatchOption p.text ((p.number ≡ 0) × (p.files ≡ []))
      (λ text. IsSnapshot p.room p.number text p.files)
  pub plays : All IsPlay p.plays
  pub few : length p.plays ≤ MAX_PLAYS
  pub floor : 1 ≤ p.floor
