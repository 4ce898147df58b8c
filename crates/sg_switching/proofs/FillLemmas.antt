-- The bytes of a slot and of its map that were filled, and the disk behind a switch.
use Rattle.std.proofs.Common.{◌≡◌, inl, inr, ℕ, zero, suc, ◌+◌, ◌-◌, ◌*◌, ◌≤◌, ◌↔◌, ◌==◌, Bool, true, not, List, [], ◌∷◌, ◌++◌, length, map, replicate, Option, None, Some, MatchOption, All, get_or, refl, sym, ◌∙◌, ap, subst, arith, length-append}
use Rattle.std.specs.List.{flat_map}
use Rattle.std.proofs.lemmas.Bool.{eq-eqb, ne_eqb, true≢false}
use Rattle.sg_base.specs.declared.limits.TheConstants.{MANIFEST_FILES, MANIFEST_TEXT}
use Rattle.sg_disk.specs.View.{View, range, put, Torn, Only}
use Rattle.sg_disk.specs.Runs.{Within, LeavesOnly}
use Rattle.sg_disk.specs.Contents.{StoredFile, Contents}
use Rattle.sg_disk.specs.StandsFor.{le32, entry, HasFields, IsOpen, AreFiles}
use Rattle.sg_disk.specs.declared.places.TheConstants.{DATA, ENTRY_LEN, FIELDS, SLOT_LEN, TABLE, TABLE_LEN, TEXT}
use Rattle.sg_disk.proofs.Ranges.{range_kept, range_put, range-range, put_is_torn, length-put, byte_put}
use Rattle.sg_disk.proofs.Parts.{range_written, range_all, range_none}
use Rattle.sg_disk.proofs.Writes.{bytes_kept}
use Rattle.sg_placing.specs.Placing.{placed_of}
use Rattle.sg_pages.specs.Maps.{le16, map_bytes}
use Rattle.sg_pages.specs.declared.maps.TheConstants.{MAP_LEN, MAP_ENTRY_LEN}
use Rattle.sg_slots.specs.Bytes.{head_fields, table_bytes, placed_entry}
use Rattle.sg_slots.specs.Slots.{slot_place, slot_of, opposite}
use Rattle.sg_slots.specs.declared.slots.Slot.{Slot}
use Rattle.sg_slots.specs.declared.slots.Slot.TheVariants.{Zero, One}
use Rattle.sg_slots.proofs.SlotLemmas.{place_high}
use Rattle.sg_slots.proofs.StandLemmas.{gate_of}
use Rattle.sg_slots.proofs.TableLemmas.{entry_long}
use Rattle.sg_paged_slots.specs.PagedDamage.{map_place}
use Rattle.sg_paged_slots.specs.Both.{WithinBoth}
use Rattle.sg_paged_slots.proofs.BothLemmas.{both_kept}
use Rattle.sg_contents.specs.Lawful.{IsSnapshot, all_pages}
use Rattle.sg_contents.specs.StandsFor.{HasSlot, IsCurrent, IsNew, StandsFor, disk_len}
use Rattle.sg_contents.proofs.Gates.{Stand}
use Rattle.sg_switching.specs.Switching.{map_of, HasSpare, IsNext, IsSwitched, placed_files}
use Rattle.sg_switching.proofs.SwitchLemmas.{Closed, Filled, closed_still, opened_current, opened_one, opposite_apart, gate_same, map_low, map_high}

-- the fields of a slot, one behind another
head_long : (number text count : ℕ) → length (head_fields number text count) ≡ 12
unfolding head_fields le32
head_long number text count = refl

head_number : (number text count : ℕ) → range (head_fields number text count) 0 4 ≡ le32 number
unfolding head_fields le32 range
head_number number text count = refl

head_text : (number text count : ℕ) → range (head_fields number text count) 4 4 ≡ le32 text
unfolding head_fields le32 range
head_text number text count = refl

head_count : (number text count : ℕ) → range (head_fields number text count) 8 4 ≡ le32 count
unfolding head_fields le32 range
head_count number text count = refl

-- the entries of a table
entry_same : (f : StoredFile) → placed_entry (placed_of f) ≡ entry f
unfolding placed_entry entry
entry_same f = refl

entries_same : (files : List StoredFile) → flat_map placed_entry (map placed_of files) ≡ flat_map entry files
entries_same [] = refl
entries_same (f ∷ files) = ap (λ (l : List ℕ). l ++ flat_map placed_entry (map placed_of files)) (entry_same f) ∙ ap (λ (l : List ℕ). entry f ++ l) (entries_same files)

entries_long : (files : List StoredFile) → All (λ f. length f.listed.md5 ≡ 16) files → length (flat_map entry files) ≡ ENTRY_LEN * length files
entries_long [] digests = refl
entries_long (f ∷ files) digests = omega (arith, length-append (entry f) (flat_map entry files), entry_long f (digests zero f (omega arith)), entries_long files (λ k d lt. digests (suc k) d (omega (arith, lt))))

table_front : (files : List StoredFile) → length (flat_map entry files) ≡ ENTRY_LEN * length files → range (table_bytes (map placed_of files)) 0 (ENTRY_LEN * length files) ≡ flat_map entry files
table_front [] is = range_none (replicate 32 0) 0
table_front (f ∷ files) is = range_all (table_bytes (map placed_of (f ∷ files))) (ENTRY_LEN * length (f ∷ files)) (ap (λ (l : List ℕ). length l) (entries_same (f ∷ files)) ∙ is) ∙ entries_same (f ∷ files)

table_room : (files : List StoredFile) → length (flat_map entry files) ≡ ENTRY_LEN * length files → ENTRY_LEN * length files ≤ length (table_bytes (map placed_of files))
table_room [] is = omega arith
table_room (f ∷ files) is = omega (arith, is, ap (λ (l : List ℕ). length l) (entries_same (f ∷ files)))

-- the entries of a map
le16_long : (page : ℕ) → length (le16 page) ≡ 2
unfolding le16
le16_long page = refl

pages_long : (pages : List ℕ) → length (flat_map le16 pages) ≡ 2 * length pages
pages_long [] = refl
pages_long (page ∷ pages) = omega (arith, length-append (le16 page) (flat_map le16 pages), le16_long page, pages_long pages)

map_front : (pages : List ℕ) → range (map_bytes pages) 0 (MAP_ENTRY_LEN * length pages) ≡ flat_map le16 pages
map_front [] = range_none (replicate 2 0) 0
map_front (page ∷ pages) = range_all (map_bytes (page ∷ pages)) (MAP_ENTRY_LEN * length (page ∷ pages)) (pages_long (page ∷ pages))

map_room : (pages : List ℕ) → 2 * length pages ≤ length (map_bytes pages)
map_room [] = omega arith
map_room (page ∷ pages) = omega (arith, pages_long (page ∷ pages))

-- what was written in a slot
fields_filled : (slot : Slot) (c d : List ℕ) (number : ℕ) (text : List ℕ) (files : List StoredFile) → DATA ≤ length c → length text ≤ MANIFEST_TEXT → length files ≤ MANIFEST_FILES → length (table_bytes (map placed_of files)) ≤ TABLE_LEN → length (flat_map entry files) ≡ ENTRY_LEN * length files
    → d ≡ put (put (put c (slot_place slot + FIELDS) (head_fields number (length text) (length files))) (slot_place slot + TABLE) (table_bytes (map placed_of files))) (slot_place slot + TEXT) text → HasFields number text files (slot_of slot d) × (length d ≡ length c)
fields_filled slot c d number text files large text_fits few table_fits entries is =
    let place : ℕ = slot_place slot in
    let high = place_high slot in
    let head : List ℕ = head_fields number (length text) (length files) in
    let long : length head ≡ 12 = head_long number (length text) (length files) in
    let table : List ℕ = table_bytes (map placed_of files) in
    let one : List ℕ = put c (place + 4) head in
    let two : List ℕ = put one (place + TABLE) table in
    let three : List ℕ = put two (place + TEXT) text in
    let one_long : length one ≡ length c = length-put c (place + 4) head (omega (arith, long, high, large)) in
    let two_long : length two ≡ length one = length-put one (place + TABLE) table (omega (arith, table_fits, one_long, high, large)) in
    let three_long : length three ≡ length two = length-put two (place + TEXT) text (omega (arith, text_fits, two_long, one_long, high, large)) in
    let torn_two : Torn (place + TABLE) (length table) one two = put_is_torn one (place + TABLE) table (omega (arith, table_fits, one_long, high, large)) in
    let torn_three : Torn (place + TEXT) (length text) two three = put_is_torn two (place + TEXT) text (omega (arith, text_fits, two_long, one_long, high, large)) in
    let inside : (p n : ℕ) → p + n ≤ SLOT_LEN → range (slot_of slot d) p n ≡ range three (place + p) n = λ p n le. range-range d place SLOT_LEN p n le ∙ ap (λ (x : List ℕ). range x (place + p) n) is in
    let field : (p : ℕ) → p + 4 ≤ 12 → range (slot_of slot d) (4 + p) 4 ≡ range head p 4 = λ p le.
    let at : place + (4 + p) ≡ place + 4 + p = omega arith in
    inside (4 + p) 4 (omega (arith, le)) ∙ ap (λ (k : ℕ). range three k 4) at ∙ range_kept (place + TEXT) (length text) (place + 4 + p) 4 two three torn_three (inl (omega (arith, le))) ∙ range_kept (place + TABLE) (length table) (place + 4 + p) 4 one two torn_two (inl (omega (arith, le))) ∙ range_written c (place + 4) p 4 head (omega (arith, long, high, large)) (omega (arith, le, long)) in
    let zeroth : place + TABLE ≡ place + TABLE + 0 = omega arith in (
      record {
        number_is = field 0 (omega arith) ∙ head_number number (length text) (length files);
        long = field 4 (omega arith) ∙ head_text number (length text) (length files);
        count = field 8 (omega arith) ∙ head_count number (length text) (length files);
        table = inside TABLE (ENTRY_LEN * length files) (omega (arith, few)) ∙ range_kept (place + TEXT) (length text) (place + TABLE) (ENTRY_LEN * length files) two three torn_three (inl (omega (arith, few))) ∙ ap (λ (k : ℕ). range two k (ENTRY_LEN * length files)) zeroth ∙ range_written one (place + TABLE) 0 (ENTRY_LEN * length files) table (omega (arith, table_fits, one_long, high, large)) (omega (arith, table_room files entries)) ∙ table_front files entries;
        text_is = inside TEXT (length text) (omega (arith, text_fits)) ∙ range_put two (place + TEXT) text (omega (arith, text_fits, two_long, one_long, high, large));
      },
      ap (λ (l : List ℕ). length l) is ∙ three_long ∙ two_long ∙ one_long,
    )

-- and in its map
slot_filled : (room : ℕ) (slot : Slot) (c d : List ℕ) (number : ℕ) (text : List ℕ) (files : List StoredFile) → DATA + room + 2 * MAP_LEN ≤ length c → length text ≤ MANIFEST_TEXT → length files ≤ MANIFEST_FILES → length (table_bytes (map placed_of files)) ≤ TABLE_LEN → length (flat_map entry files) ≡ ENTRY_LEN * length files → length (map_bytes (all_pages files)) ≤ MAP_LEN
    → d ≡ put (put (put (put c (slot_place slot + FIELDS) (head_fields number (length text) (length files))) (slot_place slot + TABLE) (table_bytes (map placed_of files))) (slot_place slot + TEXT) text) (map_place room slot) (map_bytes (all_pages files)) → HasSlot number text files (slot_of slot d) (map_of room slot d)
slot_filled room slot c d number text files large text_fits few table_fits entries map_fits is =
    let three : List ℕ = put (put (put c (slot_place slot + FIELDS) (head_fields number (length text) (length files))) (slot_place slot + TABLE) (table_bytes (map placed_of files))) (slot_place slot + TEXT) text in
    let place : ℕ = map_place room slot in
    let pages : List ℕ = all_pages files in
    let filled = fields_filled slot c three number text files (omega (arith, large)) text_fits few table_fits entries refl in
    let high = map_high room slot in
    let low = map_low room slot in
    let fits : place + length (map_bytes pages) ≤ length three = omega (arith, high, map_fits, filled.1, large) in
    let torn : Torn place (length (map_bytes pages)) three (put three place (map_bytes pages)) = put_is_torn three place (map_bytes pages) fits in
    let same : slot_of slot d ≡ slot_of slot three = ap (λ (x : List ℕ). slot_of slot x) is ∙ range_kept place (length (map_bytes pages)) (slot_place slot) SLOT_LEN three (put three place (map_bytes pages)) torn (inl (omega (arith, place_high slot, low))) in
    let room_is : 2 * length pages ≤ MAP_LEN = omega (arith, map_room pages, map_fits) in
    let zeroth : place + 0 ≡ place = omega arith in
    record {
      fields = subst (HasFields number text files) (sym same) filled.0;
      pages = range-range d place MAP_LEN 0 (MAP_ENTRY_LEN * length pages) (omega (arith, room_is)) ∙ ap (λ (x : List ℕ). range x (place + 0) (MAP_ENTRY_LEN * length pages)) is ∙ range_written three place 0 (MAP_ENTRY_LEN * length pages) (map_bytes pages) fits (omega (arith, map_room pages)) ∙ map_front pages;
    }

-- the lengths of what is written
pub record Fits (head table text map : List ℕ) : Type 0 where
  pub table_is : length table ≤ TABLE_LEN
  pub text_is : length text ≤ MANIFEST_TEXT
  pub map_is : length map ≤ MAP_LEN

-- the spare slot after its filling
pub filled_by : (u v w : View) (spare : Slot) (was_open : Bool) (p : Contents) (files : List StoredFile) (head table text map : List ℕ) → HasSpare u spare was_open p → IsNext u p files head table text map → Fits head table text map → v.size ≡ disk_len p.room → Closed v p spare → Within (slot_place spare) 1 u v → w.told → Only w.bytes w → WithinBoth (slot_place spare + FIELDS) (SLOT_LEN - FIELDS) (map_place p.room spare) MAP_LEN v w → LeavesOnly (StandsFor p) v w
    → w.bytes ≡ put (put (put (put v.bytes (slot_place spare + FIELDS) head) (slot_place spare + TABLE) table) (slot_place spare + TEXT) text) (map_place p.room spare) map → Filled w p spare text files
filled_by u v w spare was_open p files head table text map has next fits size closed closing told only within moments written =
    let high = place_high spare in
    let low = map_low p.room spare in
    let same : range w.bytes DATA p.room ≡ range u.bytes DATA p.room =
    both_kept (slot_place spare + FIELDS) (SLOT_LEN - FIELDS) (map_place p.room spare) MAP_LEN DATA p.room v.bytes w.bytes (inr (omega (arith, high))) (inl (omega (arith, low))) (within.bytes closed.told) ∙ bytes_kept (slot_place spare) 1 DATA p.room u v has.settled.told (inr (omega (arith, high))) closing in
    let all : w.bytes ≡ put (put (put (put v.bytes (slot_place spare + FIELDS) (head_fields (p.number + 1) (length text) (length files))) (slot_place spare + TABLE) (table_bytes (placed_files files))) (slot_place spare + TEXT) text) (map_place p.room spare) (map_bytes (all_pages files)) =
    written ∙ ap (λ (h : List ℕ). put (put (put (put v.bytes (slot_place spare + FIELDS) h) (slot_place spare + TABLE) table) (slot_place spare + TEXT) text) (map_place p.room spare) map) next.head_is ∙ ap (λ (t : List ℕ). put (put (put (put v.bytes (slot_place spare + FIELDS) (head_fields (p.number + 1) (length text) (length files))) (slot_place spare + TABLE) t) (slot_place spare + TEXT) text) (map_place p.room spare) map) next.table_is ∙ ap (λ (m : List ℕ). put (put (put (put v.bytes (slot_place spare + FIELDS) (head_fields (p.number + 1) (length text) (length files))) (slot_place spare + TABLE) (table_bytes (placed_files files))) (slot_place spare + TEXT) text) (map_place p.room spare) m) next.map_is in
    let snapshot : IsSnapshot p.room (p.number + 1) text files = next.lawful.snapshot in
    record {
      closed = closed_still v w p spare closed told only within moments;
      has = slot_filled p.room spare v.bytes w.bytes (p.number + 1) text files (omega (arith, size, v.sized closed.told)) fits.text_is snapshot.listed.few (omega (arith, fits.table_is, ap (λ (l : List ℕ). length l) next.table_is)) (entries_long files snapshot.listed.digests) (omega (arith, fits.map_is, ap (λ (l : List ℕ). length l) next.map_is)) all;
      held = subst (AreFiles files) (sym same) next.held;
      lawful = next.lawful;
    }

-- how the gate of the slot that was current stands
gate_after : (room number : ℕ) (text : Option (List ℕ)) (files : List StoredFile) (a a_map b b_map : List ℕ) → MatchOption text ((number ≡ 0) × (files ≡ [])) (λ t. IsSnapshot room number t files) → Stand room number text files a a_map b b_map → (not (number == 0) ≡ true) ↔ IsOpen a
gate_after room number None files a a_map b b_map none stand = (
  λ passes. absurd (true≢false (sym passes ∙ ap not (eq-eqb number 0 none.0))),
  λ open_now. absurd (stand.0 open_now),
)
gate_after room number (Some t) files a a_map b b_map snapshot stand = (
  λ passes. stand.gate,
  λ open_now. ap not (ne_eqb number 0 (λ zeroth. omega (arith, zeroth, snapshot.numbered.0))),
)

twice : (slot : Slot) → opposite (opposite slot) ≡ slot
twice Zero = refl
twice One = refl

-- the disk behind a switch
pub switched_by : (w x : View) (spare : Slot) (p : Contents) (text : List ℕ) (files : List StoredFile) → Filled w p spare text files → w.size ≡ disk_len p.room → x.told → Only x.bytes x → x.bytes ≡ put w.bytes (slot_place spare) (1 ∷ []) → Within (slot_place spare) 1 w x → IsSwitched x spare p text files
switched_by w x spare p text files filled size told only bytes within =
    let torn : Torn (slot_place spare) 1 w.bytes x.bytes = within.bytes filled.closed.told in
    let byte : get_or x.bytes (slot_place spare) 0 ≡ 1 = ap (λ (c : List ℕ). get_or c (slot_place spare) 0) bytes ∙ byte_put w.bytes (slot_place spare) 1 (omega (arith, size, w.sized filled.closed.told, place_high spare)) in
    let opened : IsOpen (slot_of spare x.bytes) = gate_of spare x.bytes ∙ byte in
    let current = opened_current w p spare text files x.bytes filled torn opened in
    let kept : slot_of (opposite spare) x.bytes ≡ slot_of (opposite spare) w.bytes = range_kept (slot_place spare) 1 (slot_place (opposite spare)) SLOT_LEN w.bytes x.bytes torn (opposite_apart spare (slot_place spare) 1 (omega arith) (omega arith)) in
    let same = gate_same p.room spare w.bytes x.bytes torn in
    let gate = gate_after p.room p.number p.text p.files (slot_of (opposite spare) w.bytes) (map_of p.room (opposite spare) w.bytes) (slot_of spare w.bytes) (map_of p.room spare w.bytes) filled.closed.standing.lawful.snapshot filled.closed.stand in
    record {
      told = told;
      only = only;
      format = subst IsNew (sym same.header) filled.closed.new;
      standing = opened_one w p spare text files x.bytes filled torn opened;
      slot = subst (λ (y : Slot). IsCurrent p.room (p.number + 1) text files (slot_of y x.bytes) (map_of p.room y x.bytes) (slot_of (opposite spare) x.bytes) (map_of p.room (opposite spare) x.bytes)) (sym (twice spare)) current;
      gate = subst (λ (b : List ℕ). (not (p.number == 0) ≡ true) ↔ IsOpen b) (sym kept) gate;
    }
