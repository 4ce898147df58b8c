-- What a store holds, as the layers above the disk speak of it.
use Rattle.std.specs.Prelude.{◌≡◌, ◌⊎◌, ℕ, ◌+◌, ◌-◌, ◌*◌, ◌%◌, ◌^◌, ◌<◌, ◌≤◌, min, List, [], ◌∷◌, ◌++◌, length, map, Option, None, Some, MatchOption, All, AllPairs}
use Rattle.std.specs.List.{flat_map}
use Rattle.sg_base.specs.declared.file.Listed.{Listed}
use Rattle.sg_base.specs.declared.play.PlayBody.{PlayBody}
use Rattle.sg_base.specs.declared.limits.TheConstants.{LAST_MOMENT, ROOM_UNIT, MAX_ROOM, MANIFEST_FILES, MANIFEST_TEXT, MAX_FILE_LEN, MAX_PLAYS}
use Rattle.sg_disk.specs.declared.places.TheConstants.{DATA, PAGE}

-- so many bytes of the disk at a place
pub record Segment : Type 0 where
  pub place : ℕ
  pub size : ℕ

-- where a file stands: in one range from a place, as in format 1, or in pages of the data area
pub data Stand : Type 0 where
  Extent : ℕ → Stand
  Pages : List ℕ → Stand

-- a file of a snapshot, where it stands, and its bytes
pub record StoredFile : Type 0 where
  pub listed : Listed
  pub stand : Stand
  pub bytes : List ℕ

-- a page of the data area
abbrev pub page_at : ℕ → Segment
page_at page = record { place = DATA + PAGE * page; size = PAGE }

-- what a file of n bytes takes of the data area: its range, or its pages whole
abbrev pub taken_at : ℕ → Stand → List Segment
taken_at n (Extent place) = record { place = place; size = n } ∷ []
taken_at n (Pages pages) = map page_at pages

abbrev pub taken : StoredFile → List Segment
taken f = taken_at f.listed.length f.stand

-- where n bytes stand in pages, one part behind another; of the last page only what is left
abbrev pub parts_of : ℕ → List ℕ → List Segment
parts_of n [] = []
parts_of n (page ∷ pages) = record { place = DATA + PAGE * page; size = min n PAGE } ∷ parts_of (n - PAGE) pages

-- where the bytes of a file stand
abbrev pub parts_at : ℕ → Stand → List Segment
parts_at n (Extent place) = record { place = place; size = n } ∷ []
parts_at n (Pages pages) = parts_of n pages

abbrev pub parts : StoredFile → List Segment
parts f = parts_at f.listed.length f.stand

-- What a store stands for. Without a snapshot there is no text.
-- The play with number n is the one at n - 1; those below the floor needn't be held
pub record Contents : Type 0 where
  pub display : ℕ
  pub epoch : ℕ
  pub room : ℕ  -- the length of the data area
  pub number : ℕ  -- the switch number
  pub text : Option (List ℕ)  -- the manifest of the snapshot
  pub files : List StoredFile
  pub seals : List StoredFile  -- the sealed files that outlive a crash: none in format 1
  pub plays : List PlayBody
  pub floor : ℕ

-- what all files take
abbrev pub all_taken : List StoredFile → List Segment
all_taken files = flat_map taken files

-- no byte of a segment is one of these n at a place
abbrev pub IsClear : ℕ → ℕ → Segment → Type 0
IsClear place n s = (s.place + s.size ≤ place) ⊎ (place + n ≤ s.place)

-- no byte that a file takes is one of these n at a place
abbrev pub AreClear : ℕ → ℕ → List StoredFile → Type 0
AreClear place n files = All (λ f. All (IsClear place n) (taken f)) files

-- a segment lies in the data area
abbrev pub IsInside : ℕ → Segment → Type 0
IsInside room s = (DATA ≤ s.place) × (s.place + s.size ≤ DATA + room)

-- the files of a table are by ascending id, each with a length within its limit and a digest of 16 bytes
pub record AreListed (files : List StoredFile) : Type 0 where
  pub few : length files ≤ MANIFEST_FILES
  pub ids : All (λ f. (1 ≤ f.listed.media.0) × (f.listed.media.0 < 2 ^ 32)) files
  pub ascending : AllPairs (λ f g. f.listed.media.0 < g.listed.media.0) files
  pub lengths : All (λ f. (1 ≤ f.listed.length) × (f.listed.length ≤ MAX_FILE_LEN)) files
  pub digests : All (λ f. length f.listed.md5 ≡ 16) files

-- in format 1 a file stands in one range
abbrev pub IsExtent : StoredFile → Type 0
IsExtent f = (place : ℕ) × (f.stand ≡ Extent place)

-- an opening finds no fault in a slot with this number, text and table
pub record IsSnapshot (room number : ℕ) (text : List ℕ) (files : List StoredFile) : Type 0 where
  pub numbered : (1 ≤ number) × (number < 2 ^ 32)
  pub long : (1 ≤ length text) × (length text ≤ MANIFEST_TEXT)
  pub listed : AreListed files
  pub extents : All IsExtent files
  pub inside : All (λ f. All (IsInside room) (taken f)) files
  -- no byte is taken twice
  pub apart : AllPairs (λ s t. IsClear t.place t.size s) (all_taken files)

-- the length of a data area
pub record IsRoom (room : ℕ) : Type 0 where
  pub low : ROOM_UNIT ≤ room
  pub high : room ≤ MAX_ROOM
  pub whole : room % ROOM_UNIT ≡ 0

-- a play that a journal may hold: a layout was shown from a moment up to a later one
pub record IsPlay (play : PlayBody) : Type 0 where
  pub event : play.event < 2 ^ 32
  pub layout : (1 ≤ play.layout) × (play.layout < 2 ^ 32)
  pub rises : play.from < play.to
  pub in_range : play.to ≤ LAST_MOMENT

-- lawful contents, which alone the clauses on contents speak of
pub record IsLawful (p : Contents) : Type 0 where
  pub display : (1 ≤ p.display) × (p.display < 2 ^ 32)
  pub epoch : (1 ≤ p.epoch) × (p.epoch < 2 ^ 32)
  pub room : IsRoom p.room
  pub snapshot : MatchOption p.text ((p.number ≡ 0) × (p.files ≡ []))
      (λ text. IsSnapshot p.room p.number text p.files)
  pub plays : All IsPlay p.plays
  pub few : length p.plays ≤ MAX_PLAYS
  pub floor : 1 ≤ p.floor

-- a store that has just been formatted
abbrev pub fresh : ℕ → ℕ → ℕ → Contents
fresh display epoch room = record {
  display = display;
  epoch = epoch;
  room = room;
  number = 0;
  text = None;
  files = [];
  seals = [];
  plays = [];
  floor = 1;
}

-- with one play more
abbrev pub played : Contents → PlayBody → Contents
played p play = record p { plays = p.plays ++ play ∷ [] }

-- with a new snapshot
abbrev pub switched : Contents → List ℕ → List StoredFile → Contents
switched p text files = record p { number = p.number + 1; text = Some text; files = files }

-- One change of the contents
pub data Change : Type 0 where
  Append : PlayBody → Change
  Switch : List ℕ → List StoredFile → Change

-- the contents after a change
abbrev pub changed : Contents → Change → Contents
changed p (Append play) = played p play
changed p (Switch text files) = switched p text files

-- the contents after changes, in their order
abbrev pub changed_all : Contents → List Change → Contents
changed_all p [] = p
changed_all p (change ∷ changes) = changed_all (changed p change) changes

-- Contents that may stand while a change is made, other than those before and after it: none, since each takes place
-- by one byte
abbrev pub Midway : Contents → Change → Contents → Type 0
Midway p (Append play) r = ⊥
Midway p (Switch text files) r = ⊥

-- the contents that may stand while a change is made
abbrev pub Amid : Contents → Change → Contents → Type 0
Amid p change r = (r ≡ p) ⊎ (r ≡ changed p change) ⊎ Midway p change r

-- the contents after some first of these changes, or midway of the next
abbrev pub Along : Contents → List Change → Contents → Type 0
Along p [] r = r ≡ p
Along p (change ∷ changes) r = (r ≡ p) ⊎ (Midway p change r ⊎ Along (changed p change) changes r)
