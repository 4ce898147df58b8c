-- A write in one area of the disk keeps what the others stand for.
use Rattle.std.proofs.Common.{◌≡◌, inl, inr, ℕ, ◌+◌, ◌*◌, ◌≤◌, List, length, Option, sym, ◌∙◌, subst, arith}
use Rattle.sg_base.specs.declared.play.PlayBody.{PlayBody}
use Rattle.sg_disk.specs.View.{View, range, Torn}
use Rattle.sg_disk.specs.Runs.{After, LeavesOnly, Within, HasOne}
use Rattle.sg_disk.specs.Contents.{StoredFile, Contents, AreClear}
use Rattle.sg_disk.specs.StandsFor.{AreFiles, IsJournal, journal_of}
use Rattle.sg_disk.specs.declared.places.TheConstants.{HEADER_LEN, SLOT_ZERO, SLOT_ONE, SLOT_LEN, JOURNAL, JOURNAL_LEN, DATA}
use Rattle.sg_disk.proofs.Ranges.{range_kept, torn_in, torn_wider}
use Rattle.sg_disk.proofs.Moments.{weaker}
use Rattle.sg_disk.proofs.Areas.{area_kept, files_kept}
use Rattle.sg_pages.specs.declared.maps.TheConstants.{MAP_LEN}
use Rattle.sg_contents.specs.Lawful.{IsLawful}
use Rattle.sg_contents.specs.StandsFor.{IsHeader, IsNew, IsFormat, IsFormat2, AreSlots, AreSealed, StandsFor, Settled, map_zero, map_one, seals_of}
use Rattle.sg_contents.specs.declared.places.TheConstants.{SEALS_LEN}
use Rattle.sg_contents.proofs.Standing.{lawful_inside}
use Rattle.sg_contents.proofs.Formats.{SameFormat, same_torn, format_same, not_both}

-- a write in the data area, clear of all files
pub staged : (p : Contents) (c d : List ℕ) (place n : ℕ) → DATA ≤ place → place + n ≤ DATA + p.room → AreClear place n p.files → Torn place n c d → StandsFor p c → StandsFor p d
staged p c d place n low high clear torn stands =
    let same : SameFormat p.room c d = same_torn p.room place n c d (omega (arith, low)) high torn in
    record {
      lawful = stands.lawful;
      header = subst (IsHeader p.display p.epoch p.room) (sym same.header) stands.header;
      format = format_same p.room p.number p.text p.files p.seals c d same stands.format;
      journal = area_kept (IsJournal p.epoch p.plays p.floor) JOURNAL JOURNAL_LEN place n c d torn (inl (omega (arith, low))) stands.journal;
      files = files_kept p.room place n p.files c d low high (lawful_inside p stands.lawful) clear torn stands.files;
    }

-- a write in the journal's area, which then holds these plays
pub recorded : (p : Contents) (plays : List PlayBody) (floor : ℕ) (c d : List ℕ) → Torn JOURNAL JOURNAL_LEN c d → IsLawful (record p { plays = plays; floor = floor }) → IsJournal p.epoch plays floor (journal_of d) → StandsFor p c → StandsFor (record p { plays = plays; floor = floor }) d
recorded p plays floor c d torn lawful journal stands =
    let same : SameFormat p.room c d = same_torn p.room JOURNAL JOURNAL_LEN c d (omega arith) (omega arith) torn in
    record {
      lawful = lawful;
      header = subst (IsHeader p.display p.epoch p.room) (sym same.header) stands.header;
      format = format_same p.room p.number p.text p.files p.seals c d same stands.format;
      journal = journal;
      files = area_kept (AreFiles p.files) DATA p.room JOURNAL JOURNAL_LEN c d torn (inr (omega arith)) stands.files;
    }

-- two disks differ in the slots and in the maps alone
pub record SameButSlots (room : ℕ) (c d : List ℕ) : Type 0 where
  pub size : length d ≡ length c
  pub header : range d 0 HEADER_LEN ≡ range c 0 HEADER_LEN
  pub journal : journal_of d ≡ journal_of c
  pub files : range d DATA room ≡ range c DATA room
  pub sealed : seals_of room d ≡ seals_of room c

-- a write in the slots, and one in the maps
pub but_slots : (room place n : ℕ) (c d : List ℕ) → SLOT_ZERO ≤ place → place + n ≤ JOURNAL → Torn place n c d → SameButSlots room c d
but_slots room place n c d low high torn = record {
  size = torn.same_length;
  header = range_kept place n 0 HEADER_LEN c d torn (inl (omega (arith, low)));
  journal = range_kept place n JOURNAL JOURNAL_LEN c d torn (inr high);
  files = range_kept place n DATA room c d torn (inr (omega (arith, high)));
  sealed = range_kept place n (DATA + room + 2 * MAP_LEN) SEALS_LEN c d torn (inr (omega (arith, high)));
}

pub but_maps : (room place n : ℕ) (c d : List ℕ) → DATA + room ≤ place → place + n ≤ DATA + room + 2 * MAP_LEN → Torn place n c d → SameButSlots room c d
but_maps room place n c d low high torn = record {
  size = torn.same_length;
  header = range_kept place n 0 HEADER_LEN c d torn (inl (omega (arith, low)));
  journal = range_kept place n JOURNAL JOURNAL_LEN c d torn (inl (omega (arith, low)));
  files = range_kept place n DATA room c d torn (inl low);
  sealed = range_kept place n (DATA + room + 2 * MAP_LEN) SEALS_LEN c d torn (inr high);
}

pub but_joined : (room : ℕ) (a b c : List ℕ) → SameButSlots room a b → SameButSlots room b c → SameButSlots room a c
but_joined room a b c first second = record {
  size = second.size ∙ first.size;
  header = second.header ∙ first.header;
  journal = second.journal ∙ first.journal;
  files = second.files ∙ first.files;
  sealed = second.sealed ∙ first.sealed;
}

-- the format of a disk whose header is of the new one
pub new_format : (room number : ℕ) (text : Option (List ℕ)) (files seals : List StoredFile) (c : List ℕ) → IsNew (range c 0 HEADER_LEN) → IsFormat room number text files seals c → IsFormat2 room number text files seals c
new_format room number text files seals c new (inl old) = absurd (not_both (range c 0 HEADER_LEN) old.version new)
new_format room number text files seals c new (inr is) = is

-- writes in the slots and in the maps, which then hold this snapshot
pub reslotted : (p : Contents) (number : ℕ) (text : Option (List ℕ)) (files : List StoredFile) (c d : List ℕ) → SameButSlots p.room c d → IsNew (range c 0 HEADER_LEN) → IsLawful (record p { number = number; text = text; files = files }) → AreSlots p.room number text files (range d SLOT_ZERO SLOT_LEN) (map_zero p.room d) (range d SLOT_ONE SLOT_LEN) (map_one p.room d) → AreFiles files (range c DATA p.room) → StandsFor p c → StandsFor (record p { number = number; text = text; files = files }) d
reslotted p number text files c d same new lawful slots held stands =
    let was = new_format p.room p.number p.text p.files p.seals c new stands.format in
    record {
      lawful = lawful;
      header = subst (IsHeader p.display p.epoch p.room) (sym same.header) stands.header;
      format = inr record {
        version = subst IsNew (sym same.header) new;
        size = same.size ∙ was.size;
        slots = slots;
        sealed = subst (AreSealed p.seals) (sym same.sealed) was.sealed;
      };
      journal = subst (IsJournal p.epoch p.plays p.floor) (sym same.journal) stands.journal;
      files = subst (AreFiles files) (sym same.files) held;
    }

-- A write in an area in which every image is what a read gives: what each image may be, at every moment
pub in_area : (v w : View) (p : Contents) (Q : List ℕ → Type 0) (a l place n : ℕ) → place + n ≤ l → Settled v p → HasOne a l v → Within (a + place) n v w → ((c d : List ℕ) → StandsFor p c → Torn a l c d → Torn place n (range v.bytes a l) (range d a l) → Q d) → LeavesOnly Q v w
in_area v w p Q a l place n fits settled one within may =
    weaker v w (After (Torn (a + place) n) v) Q (λ d was.
    let torn : Torn place n (range was.0 a l) (range d a l) = torn_in a l place n was.0 d fits was.2 in
    let wide : Torn a l was.0 d = torn_wider (a + place) n a l was.0 d (omega arith) (omega arith) was.2 in
    may was.0 d (settled.each was.0 was.1) wide (subst (λ (area : List ℕ). Torn place n area (range d a l)) (one was.0 was.1) torn)) within.moments
