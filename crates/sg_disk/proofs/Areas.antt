-- A write in one area of the disk keeps what the others stand for.
use Rattle.std.proofs.Common.{◌≡◌, ◌⊎◌, inl, inr, ℕ, zero, suc, ◌+◌, ◌-◌, ◌*◌, ◌<◌, ◌≤◌, List, [], ◌∷◌, ◌++◌, length, get_or, Option, All, refl, sym, ◌∙◌, ap, subst, arith}
use Rattle.std.specs.List.{flat_map}
use Rattle.sg_base.specs.declared.play.PlayBody.{PlayBody}
use Rattle.sg_disk.specs.View.{View, range, Torn, Only}
use Rattle.sg_disk.specs.Runs.{After, LeavesOnly, Within, HasOne}
use Rattle.sg_disk.specs.Contents.{Segment, StoredFile, Contents, IsLawful, IsInside, IsClear, AreClear, taken, parts}
use Rattle.sg_disk.specs.StandsFor.{HasFields, AreSlots, AreFiles, IsJournal, journal_of, IsHeader, StandsFor, Settled}
use Rattle.sg_disk.specs.declared.places.TheConstants.{HEADER_LEN, SLOT_ZERO, SLOT_ONE, SLOT_LEN, TABLE, TEXT, ENTRY_LEN, JOURNAL, JOURNAL_LEN, DATA}
use Rattle.sg_disk.proofs.Ranges.{range_kept, torn_in, torn_wider}
use Rattle.sg_disk.proofs.Moments.{weaker}
use Rattle.sg_disk.proofs.Writes.{one_stable}
use Rattle.sg_disk.proofs.Standing.{lawful_inside}
use Rattle.sg_disk.proofs.Extents.{clear_parts, inside_parts}

-- a clause on an area that isn't written
pub area_kept : (P : List ℕ → Type 0) (a l place n : ℕ) (c d : List ℕ) → Torn place n c d → (a + l ≤ place) ⊎ (place + n ≤ a) → P (range c a l) → P (range d a l)
area_kept P a l place n c d torn apart holds = subst P (sym (range_kept place n a l c d torn apart)) holds

-- the fields of a slot, where the gate and the three bytes behind it are written
pub fields_kept : (number : ℕ) (text : List ℕ) (files : List StoredFile) (place n : ℕ) (slot new : List ℕ) → place + n ≤ 4 → Torn place n slot new → HasFields number text files slot → HasFields number text files new
fields_kept number text files place n slot new le torn has = record {
  number_is = range_kept place n 4 4 slot new torn (inr le) ∙ has.number_is;
  long = range_kept place n 8 4 slot new torn (inr (omega (arith, le))) ∙ has.long;
  count = range_kept place n 12 4 slot new torn (inr (omega (arith, le))) ∙ has.count;
  table = range_kept place n TABLE (ENTRY_LEN * length files) slot new torn (inr (omega (arith, le))) ∙ has.table;
  text_is = range_kept place n TEXT (length text) slot new torn (inr (omega (arith, le))) ∙ has.text_is;
}

flat_map_same : {A B : Type 0} (f g : A → List B) (xs : List A) → ((k : ℕ) (d : A) → k < length xs → f (get_or xs k d) ≡ g (get_or xs k d)) → flat_map f xs ≡ flat_map g xs
flat_map_same f g [] same = refl
flat_map_same {A} {B} f g (x ∷ xs) same =
    ap (λ (l : List B). l ++ flat_map f xs) (same zero x (omega arith)) ∙ ap (λ (l : List B). g x ++ l) (flat_map_same f g xs (λ k d lt. same (suc k) d (omega (arith, lt))))

-- a segment that isn't written
segment_kept : (room place n : ℕ) (s : Segment) (c d : List ℕ) → DATA ≤ place → place + n ≤ DATA + room → IsInside room s → IsClear place n s → Torn place n c d → range (range d DATA room) (s.place - DATA) s.size ≡ range (range c DATA room) (s.place - DATA) s.size
segment_kept room place n s c d low high inside clear torn =
    let at : place ≡ DATA + (place - DATA) = omega (arith, low) in
    let here : Torn (DATA + (place - DATA)) n c d = subst (λ (k : ℕ). Torn k n c d) at torn in
    let area : Torn (place - DATA) n (range c DATA room) (range d DATA room) = torn_in DATA room (place - DATA) n c d (omega (arith, low, high)) here in
    range_kept (place - DATA) n (s.place - DATA) s.size (range c DATA room) (range d DATA room) area (apart clear)
  where
    apart : (s.place + s.size ≤ place) ⊎ (place + n ≤ s.place) → (s.place - DATA + s.size ≤ place - DATA) ⊎ (place - DATA + n ≤ s.place - DATA)
    apart (inl below) = inl (omega (arith, below, inside.0))
    apart (inr above) = inr (omega (arith, above, low))

-- the files' bytes, where no byte of a file is written
pub files_kept : (room place n : ℕ) (files : List StoredFile) (c d : List ℕ) → DATA ≤ place → place + n ≤ DATA + room → All (λ f. All (IsInside room) (taken f)) files → AreClear place n files → Torn place n c d → AreFiles files (range c DATA room) → AreFiles files (range d DATA room)
files_kept room place n files c d low high inside clear torn held k f lt =
    let file = get_or files k f in
    let was = held k f lt in
    record {
      there = flat_map_same (λ s. range (range d DATA room) (s.place - DATA) s.size) (λ s. range (range c DATA room) (s.place - DATA) s.size) (parts file) (λ j s below. segment_kept room place n (get_or (parts file) j s) c d low high (inside_parts room file (inside k f lt) j s below) (clear_parts place n file (clear k f lt) j s below) torn) ∙ was.there;
      long = was.long;
      digest = was.digest;
    }

-- a write in the data area, clear of all files
pub staged : (p : Contents) (c d : List ℕ) (place n : ℕ) → DATA ≤ place → place + n ≤ DATA + p.room → AreClear place n p.files → Torn place n c d → StandsFor p c → StandsFor p d
staged p c d place n low high clear torn stands = record {
  lawful = stands.lawful;
  size = torn.same_length ∙ stands.size;
  header = area_kept (IsHeader p.display p.epoch p.room) 0 HEADER_LEN place n c d torn (inl (omega (arith, low))) stands.header;
  slots = subst (λ (zero : List ℕ). AreSlots p.room p.number p.text p.files zero (range d SLOT_ONE SLOT_LEN)) (sym (range_kept place n SLOT_ZERO SLOT_LEN c d torn (inl (omega (arith, low)))))
      (area_kept (λ (one : List ℕ). AreSlots p.room p.number p.text p.files (range c SLOT_ZERO SLOT_LEN) one) SLOT_ONE SLOT_LEN place n c d torn (inl (omega (arith, low))) stands.slots);
  journal = area_kept (IsJournal p.epoch p.plays p.floor) JOURNAL JOURNAL_LEN place n c d torn (inl (omega (arith, low))) stands.journal;
  files = files_kept p.room place n p.files c d low high (lawful_inside p stands.lawful) clear torn stands.files;
  seals = stands.seals;
}

-- a write in the journal's area, which then holds these plays
pub recorded : (p : Contents) (plays : List PlayBody) (floor : ℕ) (c d : List ℕ) → Torn JOURNAL JOURNAL_LEN c d → IsLawful (record p { plays = plays; floor = floor }) → IsJournal p.epoch plays floor (journal_of d) → StandsFor p c → StandsFor (record p { plays = plays; floor = floor }) d
recorded p plays floor c d torn lawful journal stands = record {
  lawful = lawful;
  size = torn.same_length ∙ stands.size;
  header = area_kept (IsHeader p.display p.epoch p.room) 0 HEADER_LEN JOURNAL JOURNAL_LEN c d torn (inl (omega arith)) stands.header;
  slots = subst (λ (zero : List ℕ). AreSlots p.room p.number p.text p.files zero (range d SLOT_ONE SLOT_LEN)) (sym (range_kept JOURNAL JOURNAL_LEN SLOT_ZERO SLOT_LEN c d torn (inl (omega arith))))
      (area_kept (λ (one : List ℕ). AreSlots p.room p.number p.text p.files (range c SLOT_ZERO SLOT_LEN) one) SLOT_ONE SLOT_LEN JOURNAL JOURNAL_LEN c d torn (inl (omega arith)) stands.slots);
  journal = journal;
  files = area_kept (AreFiles p.files) DATA p.room JOURNAL JOURNAL_LEN c d torn (inr (omega arith)) stands.files;
  seals = stands.seals;
}

-- a write in the slots, which then hold this snapshot
pub reslotted : (p : Contents) (number : ℕ) (text : Option (List ℕ)) (files : List StoredFile) (c d : List ℕ) → Torn SLOT_ZERO (2 * SLOT_LEN) c d → IsLawful (record p { number = number; text = text; files = files }) → AreSlots p.room number text files (range d SLOT_ZERO SLOT_LEN) (range d SLOT_ONE SLOT_LEN) → AreFiles files (range c DATA p.room) → StandsFor p c → StandsFor (record p { number = number; text = text; files = files }) d
reslotted p number text files c d torn lawful slots held stands = record {
  lawful = lawful;
  size = torn.same_length ∙ stands.size;
  header = area_kept (IsHeader p.display p.epoch p.room) 0 HEADER_LEN SLOT_ZERO (2 * SLOT_LEN) c d torn (inl (omega arith)) stands.header;
  slots = slots;
  journal = area_kept (IsJournal p.epoch p.plays p.floor) JOURNAL JOURNAL_LEN SLOT_ZERO (2 * SLOT_LEN) c d torn (inr (omega arith)) stands.journal;
  files = area_kept (AreFiles files) DATA p.room SLOT_ZERO (2 * SLOT_LEN) c d torn (inr (omega arith)) held;
  seals = stands.seals;
}

-- A write in an area in which every image is what a read gives: what each image may be, at every moment
pub in_area : (v w : View) (p : Contents) (Q : List ℕ → Type 0) (a l place n : ℕ) → place + n ≤ l → Settled v p → HasOne a l v → Within (a + place) n v w → ((c d : List ℕ) → StandsFor p c → Torn a l c d → Torn place n (range v.bytes a l) (range d a l) → Q d) → LeavesOnly Q v w
in_area v w p Q a l place n fits settled one within may =
    weaker v w (After (Torn (a + place) n) v) Q (λ d was.
    let torn : Torn place n (range was.0 a l) (range d a l) = torn_in a l place n was.0 d fits was.2 in
    let wide : Torn a l was.0 d = torn_wider (a + place) n a l was.0 d (omega arith) (omega arith) was.2 in
    may was.0 d (settled.each was.0 was.1) wide (subst (λ (area : List ℕ). Torn place n area (range d a l)) (one was.0 was.1) torn)) within.moments

-- the write behind its sync: every image has in each range what a read gives there
pub one_written : (w : View) (b : List ℕ) (a l : ℕ) → w.bytes ≡ b → Only b w → HasOne a l w
one_written w b a l bytes only = one_stable a l w (subst (λ (d : List ℕ). Only d w) (sym bytes) only)

-- what a read gives in the area after a write there
pub area_written : (v w : View) (a l place n : ℕ) → v.told → place + n ≤ l → Within (a + place) n v w → Torn place n (range v.bytes a l) (range w.bytes a l)
area_written v w a l place n told fits within = torn_in a l place n v.bytes w.bytes fits (within.bytes told)
