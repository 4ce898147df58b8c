-- The fields of a slot that was filled, and the store after a switch.
use Rattle.std.proofs.Common.{◌≡◌, inl, inr, ℕ, zero, suc, ◌+◌, ◌*◌, ◌<◌, ◌≤◌, ◌^◌, ◌↔◌, ◌==◌, Bool, true, not, List, [], ◌∷◌, length, map, replicate, Option, None, Some, MatchOption, All, AllPairs, get_or, refl, sym, ◌∙◌, ◌-◌, ap, subst, arith, length-append}
use Rattle.std.proofs.lemmas.List.Elements.{All-append}
use Rattle.std.specs.List.{flat_map}
use Rattle.md5.proofs.StandardFacts.{length-md5}
use Rattle.std.proofs.lemmas.Bool.{eq-eqb, ne_eqb, true≢false}
use Rattle.std.proofs.lemmas.List.{length-map}
use Rattle.sg_base.specs.declared.file.Listed.{Listed}
use Rattle.sg_disk.specs.View.{View, range, put, Torn, Only}
use Rattle.sg_disk.specs.Runs.{Within, LeavesOnly}
use Rattle.sg_disk.specs.Contents.{StoredFile, Contents, IsClear, IsSnapshot, IsLawful, switched}
use Rattle.sg_disk.specs.StandsFor.{le32, entry, HasFields, IsOpen, IsCurrent, AreFiles, StandsFor}
use Rattle.sg_base.specs.declared.limits.TheConstants.{MANIFEST_FILES, MANIFEST_TEXT}
use Rattle.sg_disk.specs.declared.places.TheConstants.{DATA, ENTRY_LEN, FIELDS, JOURNAL, SLOT_LEN, TABLE, TABLE_LEN, TEXT}
use Rattle.sg_disk.proofs.Ranges.{range_kept, range_put, range-range, put_is_torn, length-put}
use Rattle.sg_disk.proofs.Standing.{settled_by, settled_read}
use Rattle.sg_disk.proofs.Writes.{one_stable, bytes_kept}
use Rattle.sg_placing.specs.Placing.{segment_of, segments_of_placed, placed_of, IsPlaced}
use Rattle.sg_slots.specs.Bytes.{head_fields, table_bytes}
use Rattle.sg_slots.specs.Slots.{slot_place, slot_of, opposite}
use Rattle.sg_store.specs.Halves.{half_files}
use Rattle.sg_store.specs.Ready.{chosen, bytes_in, whole_files, stored_file, stored_files, is_held, IsReady}
use Rattle.sg_store.specs.declared.store.Store.{Store}
use Rattle.sg_slots.specs.declared.slots.Slot.{Slot}
use Rattle.sg_slots.specs.declared.slots.Slot.TheVariants.{Zero, One}
use Rattle.sg_disk.proofs.Parts.{range_written, range_all}
use Rattle.sg_slots.proofs.SlotLemmas.{place_high}
use Rattle.sg_store.proofs.OpenLemmas.{staged_none}
use Rattle.sg_slots.proofs.TableLemmas.{entry_long}
use Rattle.sg_store.proofs.StageLemmas.{pairs_front}
use Rattle.sg_store.proofs.ChoiceLemmas.{chosen_stored, entries_same, stored_snapshot, stored_held}
use Rattle.sg_store.proofs.SwitchLemmas.{Stand, Closed, Filled, opposite_apart, opened_slots, opened_stands, closed_still}

-- the fields of a slot, one behind another
head_long : (number text count : ℕ) → length (head_fields number text count) ≡ 12
unfolding head_fields le32
head_long number text count = refl

head_number : (number text count : ℕ) → range (head_fields number text count) 0 4 ≡ le32 number
unfolding head_fields le32 range
head_number number text count = refl

head_text : (number text count : ℕ) → range (head_fields number text count) 4 4 ≡ le32 text
unfolding head_fields le32 range
head_text number text count = refl

head_count : (number text count : ℕ) → range (head_fields number text count) 8 4 ≡ le32 count
unfolding head_fields le32 range
head_count number text count = refl

range_empty : (c : List ℕ) (place : ℕ) → range c place 0 ≡ []
unfolding range
range_empty c place = refl

-- the entries of a table
table_front : (files : List StoredFile) (long : length (table_bytes (map placed_of files)) ≤ TABLE_LEN) → length (flat_map entry files) ≡ ENTRY_LEN * length files → range (table_bytes (map placed_of files)) 0 (ENTRY_LEN * length files) ≡ flat_map entry files
table_front [] long is = range_empty (replicate 32 0) 0
table_front (f ∷ files) long is = range_all (table_bytes (map placed_of (f ∷ files))) (ENTRY_LEN * length (f ∷ files)) (ap length (entries_same (f ∷ files)) ∙ is) ∙ entries_same (f ∷ files)

-- the table has room for its entries
table_room : (files : List StoredFile) → length (flat_map entry files) ≡ ENTRY_LEN * length files → ENTRY_LEN * length files ≤ length (table_bytes (map placed_of files))
table_room [] is = omega arith
table_room (f ∷ files) is = omega (arith, is, ap length (entries_same (f ∷ files)))

-- what was written in a slot
pub slot_filled : (slot : Slot) (c d : List ℕ) (number : ℕ) (text : List ℕ) (files : List StoredFile) → DATA ≤ length c → length text ≤ MANIFEST_TEXT → length files ≤ MANIFEST_FILES → length (table_bytes (map placed_of files)) ≤ TABLE_LEN → length (flat_map entry files) ≡ ENTRY_LEN * length files
    → d ≡ put (put (put c (slot_place slot + FIELDS) (head_fields number (length text) (length files))) (slot_place slot + TABLE) (table_bytes (map placed_of files))) (slot_place slot + TEXT) text → HasFields number text files (slot_of slot d)
slot_filled slot c d number text files large text_fits few table_fits entries is =
    let place : ℕ = slot_place slot in
    let high = place_high slot in
    let head : List ℕ = head_fields number (length text) (length files) in
    let long : length head ≡ 12 = head_long number (length text) (length files) in
    let table : List ℕ = table_bytes (map placed_of files) in
    let one : List ℕ = put c (place + 4) head in
    let two : List ℕ = put one (place + TABLE) table in
    let three : List ℕ = put two (place + TEXT) text in
    let one_long : length one ≡ length c = length-put c (place + 4) head (omega (arith, long, high, large)) in
    let two_long : length two ≡ length one = length-put one (place + TABLE) table (omega (arith, table_fits, one_long, high, large)) in
    let torn_two : Torn (place + TABLE) (length table) one two = put_is_torn one (place + TABLE) table (omega (arith, table_fits, one_long, high, large)) in
    let torn_three : Torn (place + TEXT) (length text) two three = put_is_torn two (place + TEXT) text (omega (arith, text_fits, two_long, one_long, high, large)) in
    let inside : (p n : ℕ) → p + n ≤ SLOT_LEN → range (slot_of slot d) p n ≡ range three (place + p) n = λ p n le. range-range d place SLOT_LEN p n le ∙ ap (λ (x : List ℕ). range x (place + p) n) is in
    let field : (p : ℕ) → p + 4 ≤ 12 → range (slot_of slot d) (4 + p) 4 ≡ range head p 4 = λ p le.
    let at : place + (4 + p) ≡ place + 4 + p = omega arith in
    inside (4 + p) 4 (omega (arith, le)) ∙ ap (λ (k : ℕ). range three k 4) at ∙ range_kept (place + TEXT) (length text) (place + 4 + p) 4 two three torn_three (inl (omega (arith, le))) ∙ range_kept (place + TABLE) (length table) (place + 4 + p) 4 one two torn_two (inl (omega (arith, le))) ∙ range_written c (place + 4) p 4 head (omega (arith, long, high, large)) (omega (arith, le, long)) in
    let zeroth : place + TABLE ≡ place + TABLE + 0 = omega arith in
    record {
      number_is = field 0 (omega arith) ∙ head_number number (length text) (length files);
      long = field 4 (omega arith) ∙ head_text number (length text) (length files);
      count = field 8 (omega arith) ∙ head_count number (length text) (length files);
      table = inside TABLE (ENTRY_LEN * length files) (omega (arith, few)) ∙ range_kept (place + TEXT) (length text) (place + TABLE) (ENTRY_LEN * length files) two three torn_three (inl (omega (arith, few))) ∙ ap (λ (k : ℕ). range two k (ENTRY_LEN * length files)) zeroth ∙ range_written one (place + TABLE) 0 (ENTRY_LEN * length files) table (omega (arith, table_fits, one_long, high, large)) (omega (arith, table_room files entries)) ∙ table_front files table_fits entries;
      text_is = inside TEXT (length text) (omega (arith, text_fits)) ∙ range_put two (place + TEXT) text (omega (arith, text_fits, two_long, one_long, high, large));
    }

-- the contents after a switch are lawful
pub lawful_switched : (p : Contents) (text : List ℕ) (files : List StoredFile) → IsSnapshot p.room (p.number + 1) text files → IsLawful p → IsLawful (switched p text files)
lawful_switched p text files snapshot lawful = record {
  display = lawful.display;
  epoch = lawful.epoch;
  room = lawful.room;
  snapshot = snapshot;
  plays = lawful.plays;
  few = lawful.few;
  floor = lawful.floor;
}

-- the entries of files whose digests have 16 bytes
entries_long : (files : List StoredFile) → All (λ f. length f.listed.md5 ≡ 16) files → length (flat_map entry files) ≡ ENTRY_LEN * length files
entries_long [] digests = refl
entries_long (f ∷ files) digests = omega (arith, length-append (entry f) (flat_map entry files), entry_long f (digests zero f (omega arith)), entries_long files (λ k d lt. digests (suc k) d (omega (arith, lt))))

-- the number of lawful contents fits its field
number_in : (room number : ℕ) (text : Option (List ℕ)) (files : List StoredFile) → MatchOption text ((number ≡ 0) × (files ≡ [])) (λ t. IsSnapshot room number t files) → number < 2 ^ 32
number_in room number None files none = omega (arith, none.0)
number_in room number (Some t) files snapshot = snapshot.numbered.1

pub number_fits : (p : Contents) → IsLawful p → p.number < 2 ^ 32
number_fits p lawful = number_in p.room p.number p.text p.files lawful.snapshot

-- what a switch asks for
pub record Asks (s : Store) (text : List ℕ) (files : List Listed) : Type 0 where
  pub few : length files ≤ MANIFEST_FILES
  pub ascending : AllPairs (λ f g. f.media.0 < g.media.0) files
  pub held : All (λ f. is_held s f ≡ true) files
  pub some : 1 ≤ length text
  pub long : length text ≤ MANIFEST_TEXT
  pub left : s.number ≡ 4294967295 → ⊥

-- the files that are whole stand in the data area, apart
pub whole_placed : (s : Store) → All (IsPlaced s.room) s.current → All (IsPlaced s.room) s.staged → All (IsPlaced s.room) (whole_files s)
whole_placed s current staged = All-append (IsPlaced s.room) s.current s.staged current staged

-- the contents after the switch are lawful
pub next_lawful : (v : View) (s : Store) (p : Contents) (text : List ℕ) (files : List Listed) → IsReady v s p → All (IsPlaced s.room) (whole_files s) → Asks s text files → IsLawful (switched p text (stored_files s v.bytes files))
next_lawful v s p text files ready placed asks =
    let lawful : IsLawful p = (settled_read v p ready.settled).lawful in
    let fits = number_fits p lawful in
    let small : p.number + 1 < 2 ^ 32 = omega (arith, fits, asks.left, ready.knows.number) in
    let inside : All (IsPlaced p.room) (whole_files s) = subst (λ (n : ℕ). All (IsPlaced n) (whole_files s)) ready.knows.room placed in
    lawful_switched p text (stored_files s v.bytes files)
    (stored_snapshot p.room (p.number + 1) text (whole_files s) v.bytes files (omega arith, small) (asks.some, asks.long) asks.few asks.ascending asks.held inside (λ k d lt. ap length (sym (ready.staged.whole k d lt)) ∙ length-md5 (bytes_in v.bytes (segments_of_placed (get_or (whole_files s) k d)))) (pairs_front (λ q r. IsClear r.place r.file.length (segment_of q)) (whole_files s) (half_files s.half) ready.staged.apart))
    lawful

-- the disk holds its files
pub next_held : (v : View) (s : Store) (p : Contents) (text : List ℕ) (files : List Listed) → IsReady v s p → All (IsPlaced s.room) (whole_files s) → Asks s text files → AreFiles (stored_files s v.bytes files) (range v.bytes DATA p.room)
next_held v s p text files ready placed asks =
    let stands : StandsFor p v.bytes = settled_read v p ready.settled in
    let inside : All (IsPlaced p.room) (whole_files s) = subst (λ (n : ℕ). All (IsPlaced n) (whole_files s)) ready.knows.room placed in
    stored_held p.room (whole_files s) v.bytes files stands.size asks.held inside ready.staged.whole

-- the spare slot after its filling
pub filled_by : (u v w : View) (s : Store) (p : Contents) (text : List ℕ) (files : List Listed) (head table : List ℕ) → IsReady u s p → All (IsPlaced s.room) (whole_files s) → Asks s text files → Closed v p s.spare → Within (slot_place s.spare) 1 u v → w.told → Only w.bytes w → Within (slot_place s.spare + FIELDS) (SLOT_LEN - FIELDS) v w → LeavesOnly (StandsFor p) v w
    → w.bytes ≡ put (put (put v.bytes (slot_place s.spare + FIELDS) head) (slot_place s.spare + TABLE) table) (slot_place s.spare + TEXT) text → head ≡ head_fields (s.number + 1) (length text) (length files) → table ≡ table_bytes (map (chosen (whole_files s)) files) → length table ≤ TABLE_LEN → Filled w p s.spare text (stored_files s u.bytes files)
filled_by u v w s p text files head table ready placed asks closed closing told only within moments written head_is table_is table_fits =
    let F : List StoredFile = stored_files s u.bytes files in
    let high = place_high s.spare in
    let held : AreFiles F (range u.bytes DATA p.room) = next_held u s p text files ready placed asks in
    let same : range w.bytes DATA p.room ≡ range u.bytes DATA p.room =
    bytes_kept (slot_place s.spare + FIELDS) (SLOT_LEN - FIELDS) DATA p.room v w closed.told (inr (omega (arith, high))) within ∙ bytes_kept (slot_place s.spare) 1 DATA p.room u v ready.settled.told (inr (omega (arith, high))) closing in
    let chosen_as : map (chosen (whole_files s)) files ≡ map placed_of F = chosen_stored (whole_files s) u.bytes files asks.held in
    let table_as : table ≡ table_bytes (map placed_of F) = table_is ∙ ap table_bytes chosen_as in
    let count : length files ≡ length F = sym (length-map files (stored_file (whole_files s) u.bytes)) in
    let number : s.number + 1 ≡ p.number + 1 = ap (λ (n : ℕ). n + 1) ready.knows.number in
    let head_as : head ≡ head_fields (p.number + 1) (length text) (length F) = head_is ∙ ap (λ (n : ℕ). head_fields n (length text) (length files)) number ∙ ap (λ (n : ℕ). head_fields (p.number + 1) (length text) n) count in
    let place : ℕ = slot_place s.spare in
    let all : w.bytes ≡ put (put (put v.bytes (place + 4) (head_fields (p.number + 1) (length text) (length F))) (place + TABLE) (table_bytes (map placed_of F))) (place + TEXT) text =
    written ∙ ap (λ (h : List ℕ). put (put (put v.bytes (place + 4) h) (place + TABLE) table) (place + TEXT) text) head_as ∙ ap (λ (t : List ℕ). put (put (put v.bytes (place + 4) (head_fields (p.number + 1) (length text) (length F))) (place + TABLE) t) (place + TEXT) text) table_as in
    let lawful = next_lawful u s p text files ready placed asks in
    let snapshot : IsSnapshot p.room (p.number + 1) text F = lawful.snapshot in
    record {
      closed = closed_still v w p s.spare closed told only within moments;
      has = slot_filled s.spare v.bytes w.bytes (p.number + 1) text F (omega (arith, closed.stands.size)) asks.long (omega (arith, asks.few, count)) (omega (arith, table_fits, ap length table_as)) (entries_long F snapshot.listed.digests) all;
      held = subst (AreFiles F) (sym same) held;
      lawful = lawful;
    }

-- how the gate of the slot that was current stands
gate_after : (room number : ℕ) (text : Option (List ℕ)) (files : List StoredFile) (a b : List ℕ) (opened : Bool) → opened ≡ not (number == 0) → MatchOption text ((number ≡ 0) × (files ≡ [])) (λ t. IsSnapshot room number t files) → Stand room number text files a b → (opened ≡ true) ↔ IsOpen a
gate_after room number None files a b opened is none stand = (
  λ passes. absurd (true≢false (sym passes ∙ is ∙ ap not (eq-eqb number 0 none.0))),
  λ open_now. absurd (stand.0 open_now),
)
gate_after room number (Some t) files a b opened is snapshot stand = (
  λ passes. stand.gate,
  λ open_now. is ∙ ap not (ne_eqb number 0 (λ zeroth. omega (arith, zeroth, snapshot.numbered.0))),
)

twice : (slot : Slot) → opposite (opposite slot) ≡ slot
twice Zero = refl
twice One = refl

-- the store after a switch
pub record TakesOver (s t : Store) (text : List ℕ) (files : List Listed) : Type 0 where
  pub display : t.display ≡ s.display
  pub epoch : t.epoch ≡ s.epoch
  pub room : t.room ≡ s.room
  pub number : t.number ≡ s.number + 1
  pub text_is : t.text ≡ length text
  pub current : t.current ≡ map (chosen (whole_files s)) files
  pub staged : t.staged ≡ []
  pub half : t.half ≡ None
  pub spare : t.spare ≡ opposite s.spare
  pub gate : t.spare_open ≡ not (s.number == 0)

pub ready_switched : (u w x : View) (s t : Store) (p : Contents) (text : List ℕ) (files : List Listed) → IsReady u s p → Asks s text files → Filled w p s.spare text (stored_files s u.bytes files) → x.told → Only x.bytes x → x.bytes ≡ put w.bytes (slot_place s.spare) (1 ∷ []) → Within (slot_place s.spare) 1 w x → TakesOver s t text files → IsReady x t (switched p text (stored_files s u.bytes files))
ready_switched u w x s t p text files ready asks filled told only bytes within takes =
    let F : List StoredFile = stored_files s u.bytes files in
    let q : Contents = switched p text F in
    let torn = within.bytes filled.closed.told in
    let stands : StandsFor q x.bytes = opened_stands w x p s.spare text F filled bytes torn in
    let current : t.current ≡ map placed_of F = takes.current ∙ chosen_stored (whole_files s) u.bytes files asks.held in
    let slots : IsCurrent p.room (p.number + 1) text F (slot_of s.spare x.bytes) (slot_of (opposite s.spare) x.bytes) = opened_slots w x p s.spare text F filled bytes torn in
    let back : opposite t.spare ≡ s.spare = ap opposite takes.spare ∙ twice s.spare in
    let kept : slot_of (opposite s.spare) x.bytes ≡ slot_of (opposite s.spare) w.bytes = range_kept (slot_place s.spare) 1 (slot_place (opposite s.spare)) SLOT_LEN w.bytes x.bytes torn (opposite_apart s.spare (slot_place s.spare) 1 (omega arith) (omega arith)) in
    let gate = gate_after p.room p.number p.text p.files (slot_of (opposite s.spare) w.bytes) (slot_of s.spare w.bytes) t.spare_open (takes.gate ∙ ap (λ (n : ℕ). not (n == 0)) ready.knows.number) filled.closed.stands.lawful.snapshot filled.closed.stand in
    let here : (t.spare_open ≡ true) ↔ IsOpen (slot_of t.spare x.bytes) = subst (λ (b : List ℕ). (t.spare_open ≡ true) ↔ IsOpen b) (sym (ap (λ (y : Slot). slot_of y x.bytes) takes.spare ∙ kept)) gate in
    record {
      settled = settled_by x x.bytes q told only stands;
      front = one_stable 0 JOURNAL x only;
      knows = record {
        display = takes.display ∙ ready.knows.display;
        epoch = takes.epoch ∙ ready.knows.epoch;
        room = takes.room ∙ ready.knows.room;
        number = takes.number ∙ ap (λ (n : ℕ). n + 1) ready.knows.number;
        text = takes.text_is;
        files = current;
        slot = subst (λ (y : Slot). IsCurrent p.room (p.number + 1) text F (slot_of y x.bytes) (slot_of t.spare x.bytes)) (sym back) (subst (λ (y : Slot). IsCurrent p.room (p.number + 1) text F (slot_of s.spare x.bytes) (slot_of y x.bytes)) (sym takes.spare) slots);
        gate = here;
      };
      staged = staged_none t q x.bytes current takes.staged takes.half stands.lawful stands.files;
    }
