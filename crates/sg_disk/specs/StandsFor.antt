-- What the bytes of a disk stand for, in format 1. Each clause reads one area of the disk, as a list of bytes of its own.
use Rattle.std.specs.Prelude.{◌≡◌, ◌⊎◌, ℕ, ◌+◌, ◌-◌, ◌*◌, ◌%◌, ◌<◌, ◌≤◌, List, [], ◌∷◌, ◌++◌, length, replicate, Option, Some, MatchOption, All, slice_index, slice_get, codes}
use Rattle.std.specs.Int.{w32, w64, to_le_bytes}
use Rattle.std.specs.List.{flat_map}
use Rattle.sg_base.specs.declared.play.PlayBody.{PlayBody}
use Rattle.md5.specs.Md5.{md5}
use Rattle.sg_disk.specs.View.{View, range}
use Rattle.sg_disk.specs.Runs.{LeavesOnly}
use Rattle.sg_disk.specs.Contents.{Segment, Stand, StoredFile, Contents, Change, IsSnapshot, IsLawful, Along, parts}
use Rattle.sg_disk.specs.Contents.{Extent, Pages}
use Rattle.sg_base.specs.declared.limits.TheConstants.{JOURNAL_RECORDS}
use Rattle.sg_disk.specs.declared.places.TheConstants.{FIELDS, HEADER_LEN, VERSION, MARK, DISPLAY, EPOCH, ROOM, SLOT_ZERO, SLOT_ONE, SLOT_LEN, NUMBER, TEXT_LEN, COUNT, TABLE, TEXT, ENTRY_LEN, JOURNAL, JOURNAL_LEN, RECORD_LEN, DATA}

-- numbers stand low byte first
unfoldable pub le32 : ℕ → List ℕ
le32 n = to_le_bytes w32 n

unfoldable pub le64 : ℕ → List ℕ
le64 n = to_le_bytes w64 n

-- the header: an open gate, the version, the mark, and the fields
pub record IsHeader (display epoch room : ℕ) (header : List ℕ) : Type 0 where
  pub gate : slice_index header 0 ≡ 1
  pub version : range header VERSION 4 ≡ le32 1
  pub mark : range header MARK 8 ≡ codes "SGNSTORE"
  pub display_is : range header DISPLAY 4 ≡ le32 display
  pub epoch_is : range header EPOCH 4 ≡ le32 epoch
  pub room_is : range header ROOM 8 ≡ le64 room

-- where a file of one range begins
abbrev pub place_of : Stand → ℕ
place_of (Extent place) = place
place_of (Pages pages) = 0

-- a table entry: medium, length, MD5 and place
unfoldable pub entry : StoredFile → List ℕ
entry f = le32 f.listed.media.0 ++ le32 f.listed.length ++ f.listed.md5
    ++ le64 (place_of f.stand)

-- the fields of a slot, without its gate
pub record HasFields (number : ℕ) (text : List ℕ) (files : List StoredFile)
    (slot : List ℕ) : Type 0 where
  pub number_is : range slot NUMBER 4 ≡ le32 number
  pub long : range slot TEXT_LEN 4 ≡ le32 (length text)
  pub count : range slot COUNT 4 ≡ le32 (length files)
  pub table : range slot TABLE (ENTRY_LEN * length files) ≡ flat_map entry files
  pub text_is : range slot TEXT (length text) ≡ text

-- a gate is open where it is 1, and closed at every other byte
abbrev pub IsOpen : List ℕ → Type 0
IsOpen slot = slice_index slot 0 ≡ 1

-- The slot that isn't current: where it is open it has a lower number, and an opening finds no fault in it
abbrev pub IsOther : ℕ → ℕ → List ℕ → Type 0
IsOther room number slot = IsOpen slot
    → (lower : ℕ) × (text : List ℕ) × (files : List StoredFile) × (lower < number)
    × HasFields lower text files slot × IsSnapshot room lower text files

-- the current slot and the other one
pub record IsCurrent (room number : ℕ) (text : List ℕ) (files : List StoredFile)
    (current other : List ℕ) : Type 0 where
  pub gate : IsOpen current
  pub fields : HasFields number text files current
  pub rest : IsOther room number other

-- the current snapshot is that of the open slot with the greater number; without one no slot is open
abbrev pub AreSlots : ℕ → ℕ → Option (List ℕ) → List StoredFile → List ℕ → List ℕ → Type 0
AreSlots room number text files zero one =
    MatchOption text
    ((IsOpen zero → ⊥) × (IsOpen one → ⊥))
    (λ t. IsCurrent room number t files zero one ⊎ IsCurrent room number t files one zero)

-- the bytes of these segments, one behind another, in the data area
abbrev pub bytes_at : List ℕ → List Segment → List ℕ
bytes_at area segments = flat_map (λ s. range area (s.place - DATA) s.size) segments

-- a file's bytes stand in the data area, with the listed length and MD5 (RFC 1321)
pub record IsHeld (area : List ℕ) (f : StoredFile) : Type 0 where
  pub there : bytes_at area (parts f) ≡ f.bytes
  pub long : length f.bytes ≡ f.listed.length
  pub digest : md5 f.bytes ≡ f.listed.md5

abbrev pub AreFiles : List StoredFile → List ℕ → Type 0
AreFiles files area = All (IsHeld area) files

-- the gate of record k
abbrev pub gate : List ℕ → ℕ → ℕ
gate area k = slice_index area (RECORD_LEN * k)

-- the bytes behind its gate and the three after it
abbrev pub body : List ℕ → ℕ → List ℕ
body area k = range area (RECORD_LEN * k + FIELDS) (RECORD_LEN - FIELDS)

-- a record's bytes from 4 on: number, event, layout, from, to, epoch, and zeros
unfoldable pub fields : ℕ → ℕ → PlayBody → List ℕ
fields epoch number play = le32 number ++ le32 play.event ++ le32 play.layout ++ le32 play.from
    ++ le32 play.to ++ le32 epoch ++ replicate 36 0

-- The open records are the plays from a number on. Play n stands in record n - 1 modulo the number of records
pub record HoldsPlays (epoch from : ℕ) (plays : List PlayBody) (area : List ℕ) : Type 0 where
  pub starts : 1 ≤ from
  pub within : from ≤ length plays + 1
  pub last : 0 < length plays → from ≤ length plays
  pub ring : length plays < from + JOURNAL_RECORDS
  pub held : (i : ℕ) (play : PlayBody) → from ≤ i + 1 → slice_get plays i ≡ Some play
      → (gate area (i % JOURNAL_RECORDS) ≡ 1)
      × (body area (i % JOURNAL_RECORDS) ≡ fields epoch (i + 1) play)
  pub open_only : (k : ℕ) → k < JOURNAL_RECORDS → gate area k ≡ 1
      → (i : ℕ) × (from ≤ i + 1) × (i < length plays) × (i % JOURNAL_RECORDS ≡ k)

-- the journal holds the plays from some number on that isn't above the floor
abbrev pub IsJournal : ℕ → List PlayBody → ℕ → List ℕ → Type 0
IsJournal epoch plays floor area = (from : ℕ) × (from ≤ floor) × HoldsPlays epoch from plays area

abbrev pub journal_of : List ℕ → List ℕ
journal_of c = range c JOURNAL JOURNAL_LEN

-- the length of a disk whose data area has this length
abbrev pub disk_len : ℕ → ℕ
disk_len room = DATA + room

-- the bytes of a disk stand for these contents, which are lawful
pub record StandsFor (p : Contents) (c : List ℕ) : Type 0 where
  pub lawful : IsLawful p
  pub size : length c ≡ disk_len p.room
  pub header : IsHeader p.display p.epoch p.room (range c 0 HEADER_LEN)
  pub slots : AreSlots p.room p.number p.text p.files (range c SLOT_ZERO SLOT_LEN)
      (range c SLOT_ONE SLOT_LEN)
  pub journal : IsJournal p.epoch p.plays p.floor (journal_of c)
  pub files : AreFiles p.files (range c DATA p.room)
  pub seals : p.seals ≡ []

-- they stand for the ones or for the others
abbrev pub Either : Contents → Contents → List ℕ → Type 0
Either p q c = StandsFor p c ⊎ StandsFor q c

-- they stand for one of a set of contents
abbrev pub StandsForOne : (Contents → Type 0) → List ℕ → Type 0
StandsForOne P c = (p : Contents) × P p × StandsFor p c

-- two contents as a set
abbrev pub Two : Contents → Contents → Contents → Type 0
Two p q r = (r ≡ p) ⊎ (r ≡ q)

-- each image stands for these contents, and the disk tells what a read gives
pub record Settled (v : View) (p : Contents) : Type 0 where
  pub told : v.told
  pub each : (c : List ℕ) → v.images c → StandsFor p c

-- each image, what a read gives among them, stands for one of a set of contents
pub record Between (v : View) (P : Contents → Type 0) : Type 0 where
  pub told : v.told
  pub each : (c : List ℕ) → v.images c → StandsForOne P c

-- At every moment since old each image stands for the contents along these changes
pub record Made (changes : List Change) (old new : View) (p : Contents) : Type 0 where
  pub moments : LeavesOnly (StandsForOne (Along p changes)) old new
  pub told : old.told → new.told

-- every image has in the journal's area what a read gives there
abbrev pub HasOneJournal : View → Type 0
HasOneJournal v = (c : List ℕ) → v.images c → journal_of c ≡ journal_of v.bytes
