-- An opening finds no damage on bytes that stand for contents.
use Rattle.std.proofs.Common.{◌≡◌, ◌⊎◌, inl, inr, ℕ, zero, suc, ◌+◌, ◌%◌, ◌<◌, ◌≤◌, ◌==◌, nat_le, ◌&&◌, ◌||◌, Bool, true, false, List, [], ◌∷◌, ◌++◌, length, get_or, map, Option, None, Some, MatchOption, if◌then◌else◌, All, AllPairs, codes, refl, sym, ◌∙◌, ap, subst, arith, append_assoc, length-append}
use Rattle.std.specs.Int.{w64, from_le_bytes}
use Rattle.std.proofs.lemmas.Bool.{cases_eq, cases_Bool, and_from, lt-ltb, le-leb, eq-eqb, ne_eqb}
use Rattle.std.proofs.lemmas.List.{get_or_append_left, get_or_at}
use Rattle.std.proofs.lemmas.List.Sums.{list_all-from_AllPass}
use Rattle.sg_disk.specs.Contents.{Segment, StoredFile, taken, Contents, IsClear, IsInside, IsSnapshot, IsRoom}
use Rattle.sg_disk.specs.StandsFor.{HasFields, IsOpen, IsOther, AreSlots, StandsFor}
use Rattle.sg_base.specs.declared.limits.TheConstants.{MANIFEST_FILES, MANIFEST_TEXT, MAX_FILE_LEN, ROOM_UNIT, MAX_ROOM}
use Rattle.sg_disk.specs.declared.places.TheConstants.{DATA, ENTRY_LEN, SLOT_ONE, TABLE}
use Rattle.sg_disk.proofs.Extents.{extent_of, taken_extent}
use Rattle.sg_placing.specs.Placing.{segment_of, placed_of, end_of, IsPlaced, AreApart}
use Rattle.sg_placing.specs.declared.placed.Placed.{Placed}
use Rattle.sg_slots.specs.Bytes.{u32_at, u64_at}
use Rattle.sg_slots.specs.Slots.{slot_place, slot_of, head_at, files_of, files_at}
use Rattle.sg_slots.specs.Damage.{Damage, check, or_else, is_room, mark_damage, format_damage, header_damage, fields_damage, is_entry, entries_damage, slot_damage, twin_damage, is_apart, overlap_damage, slots_damage, damage_of, format_at}
use Rattle.sg_slots.specs.declared.slots.Slot.{Slot}
use Rattle.sg_slots.specs.declared.slots.Slot.TheVariants.{Zero, One}
use Rattle.sg_slots.specs.declared.slots.Head.{Head}
use Rattle.sg_slots.specs.declared.formats.Format.{Format}
use Rattle.sg_slots.proofs.SlotLemmas.{head_closed, damage_at}
use Rattle.sg_slots.proofs.HeaderLemmas.{header_number, header_long_number, header_mark}
use Rattle.sg_slots.proofs.StandLemmas.{gate_of, slot_stands, apart_placed, other_lower}

-- checks that pass, one behind another
passes : (b : Bool) (place found : ℕ) → b ≡ true → check b place found ≡ None
passes b place found is = ap (λ (x : Bool). check x place found) is

both_pass : (first second : Option Damage) → first ≡ None → second ≡ None → or_else first second ≡ None
both_pass first second one two = ap (λ (x : Option Damage). or_else x second) one ∙ two

-- the fields of a header
mark_passes : (version mark : ℕ) → version ≡ 1 → mark ≡ from_le_bytes w64 (codes "SGNSTORE") → mark_damage version mark ≡ None
mark_passes version mark one two = both_pass (check (version == 1) 4 version) (check (mark == from_le_bytes w64 (codes "SGNSTORE")) 8 mark) (passes (version == 1) 4 version (eq-eqb version 1 one)) (passes (mark == from_le_bytes w64 (codes "SGNSTORE")) 8 mark (eq-eqb mark (from_le_bytes w64 (codes "SGNSTORE")) two))

room_passes : (room : ℕ) → IsRoom room → is_room room ≡ true
room_passes room is = and_from (nat_le ROOM_UNIT room) (nat_le room MAX_ROOM && (room % ROOM_UNIT == 0)) (le-leb ROOM_UNIT room is.low) (and_from (nat_le room MAX_ROOM) (room % ROOM_UNIT == 0) (le-leb room MAX_ROOM is.high) (eq-eqb (room % ROOM_UNIT) 0 is.whole))

format_passes : (size : ℕ) (f : Format) → 1 ≤ f.display → 1 ≤ f.epoch → IsRoom f.room → size ≡ DATA + f.room → format_damage size f ≡ None
format_passes size f display epoch room long =
    both_pass (check (nat_le 1 f.display) 16 f.display) (or_else (check (nat_le 1 f.epoch) 20 f.epoch) (check (is_room f.room && (size == DATA + f.room)) 24 f.room)) (passes (nat_le 1 f.display) 16 f.display (le-leb 1 f.display display))
    (both_pass (check (nat_le 1 f.epoch) 20 f.epoch) (check (is_room f.room && (size == DATA + f.room)) 24 f.room) (passes (nat_le 1 f.epoch) 20 f.epoch (le-leb 1 f.epoch epoch))
    (passes (is_room f.room && (size == DATA + f.room)) 24 f.room (and_from (is_room f.room) (size == DATA + f.room) (room_passes f.room room) (eq-eqb size (DATA + f.room) long))))

-- a header that stands for contents
pub header_undamaged : (p : Contents) (c : List ℕ) → StandsFor p c → header_damage (length c) c ≡ None
header_undamaged p c stands =
    let lawful = stands.lawful in
    let display : u32_at c 16 ≡ p.display = header_number c 16 p.display (omega arith) lawful.display.1 stands.header.display_is in
    let epoch : u32_at c 20 ≡ p.epoch = header_number c 20 p.epoch (omega arith) lawful.epoch.1 stands.header.epoch_is in
    let room : u64_at c 24 ≡ p.room = header_long_number c 24 p.room (omega arith) (omega (arith, lawful.room.high)) stands.header.room_is in
    both_pass (mark_damage (u32_at c 4) (u64_at c 8)) (format_damage (length c) (format_at c))
    (mark_passes (u32_at c 4) (u64_at c 8) (header_number c 4 1 (omega arith) (omega arith) stands.header.version) (header_mark c stands.header.mark))
    (format_passes (length c) (format_at c) (omega (arith, display, lawful.display.0)) (omega (arith, epoch, lawful.epoch.0)) (subst IsRoom (sym room) lawful.room) (stands.size ∙ ap (λ (n : ℕ). DATA + n) (sym room)))

-- the fields of an open slot
head_passes : (place : ℕ) (head : Head) → 1 ≤ head.number → (1 ≤ head.text) × (head.text ≤ MANIFEST_TEXT) → head.count ≤ MANIFEST_FILES → fields_damage place (Some head) ≡ None
head_passes place head number text count =
    both_pass (check (nat_le 1 head.number) (place + 4) head.number) (or_else (check (nat_le 1 head.text && nat_le head.text MANIFEST_TEXT) (place + 8) head.text) (check (nat_le head.count MANIFEST_FILES) (place + 12) head.count)) (passes (nat_le 1 head.number) (place + 4) head.number (le-leb 1 head.number number))
    (both_pass (check (nat_le 1 head.text && nat_le head.text MANIFEST_TEXT) (place + 8) head.text) (check (nat_le head.count MANIFEST_FILES) (place + 12) head.count) (passes (nat_le 1 head.text && nat_le head.text MANIFEST_TEXT) (place + 8) head.text (and_from (nat_le 1 head.text) (nat_le head.text MANIFEST_TEXT) (le-leb 1 head.text text.0) (le-leb head.text MANIFEST_TEXT text.1)))
    (passes (nat_le head.count MANIFEST_FILES) (place + 12) head.count (le-leb head.count MANIFEST_FILES count)))

-- its entries, one by one
entry_passes : (room before : ℕ) (p : Placed) → before < p.file.media.0 → IsPlaced room p → is_entry room before p ≡ true
entry_passes room before p above is =
    and_from _ _ (lt-ltb before p.file.media.0 above)
    (and_from _ _ (le-leb 1 p.file.length is.length.0)
    (and_from _ _ (le-leb p.file.length MAX_FILE_LEN is.length.1)
    (and_from _ _ (le-leb DATA p.place is.inside.0) (le-leb (end_of p) (DATA + room) is.inside.1))))

entries_pass : (room place before : ℕ) (files : List StoredFile) → All (λ f. IsPlaced room (placed_of f)) files → All (λ f. before < f.listed.media.0) files → AllPairs (λ f g. f.listed.media.0 < g.listed.media.0) files → entries_damage room place before (map placed_of files) ≡ None
entries_pass room place before [] placed above rising = refl
entries_pass room place before (f ∷ files) placed above rising =
    let first = entry_passes room before (placed_of f) (above zero f (omega arith)) (placed zero f (omega arith)) in
    ap (λ (b : Bool). if b then entries_damage room (place + ENTRY_LEN) f.listed.media.0 (map placed_of files) else Some (damage_at place f.listed.media.0)) first
    ∙ entries_pass room (place + ENTRY_LEN) f.listed.media.0 files (λ k d lt. placed (suc k) d (omega (arith, lt))) (λ k d lt. rising zero (suc k) d (omega arith) (omega (arith, lt))) (λ i j d lt below. rising (suc i) (suc j) d (omega (arith, lt)) (omega (arith, below)))

-- none overlaps an earlier one
clear_passes : (a b c d : ℕ) → (a ≤ b) ⊎ (c ≤ d) → (nat_le a b || nat_le c d) ≡ true
clear_passes a b c d (inl before) = ap (λ (x : Bool). x || nat_le c d) (le-leb a b before)
clear_passes a b c d (inr behind) = elim (cases_Bool (nat_le a b)) [
  | inl near ↦ ap (λ (x : Bool). x || nat_le c d) near
  | inr far ↦ ap (λ (x : Bool). x || nat_le c d) far ∙ le-leb c d behind
]

apart_passes : (earlier files : List Placed) (p : Placed) → AreApart (earlier ++ p ∷ files) → is_apart earlier p ≡ true
apart_passes earlier files p apart =
    list_all-from_AllPass (λ (e : Placed). nat_le (end_of e) p.place || nat_le (end_of p) e.place) earlier (λ k d lt.
    let e : Placed = get_or earlier k d in
    let all : List Placed = earlier ++ p ∷ files in
    let one : get_or all k d ≡ e = get_or_append_left earlier (p ∷ files) d k lt in
    let two : get_or all (length earlier) d ≡ p = get_or_at earlier p files d (length earlier) refl in
    let clear = apart k (length earlier) d lt (omega (arith, length-append earlier (p ∷ files))) in
    clear_passes (end_of e) p.place (end_of p) e.place (subst (λ (x : Placed). IsClear p.place p.file.length (segment_of x)) one (subst (λ (y : Placed). IsClear y.place y.file.length (segment_of (get_or all k d))) two clear)))

overlaps_pass : (place : ℕ) (earlier files : List Placed) → AreApart (earlier ++ files) → overlap_damage place earlier files ≡ None
overlaps_pass place earlier [] apart = refl
overlaps_pass place earlier (p ∷ files) apart =
    ap (λ (b : Bool). if b then overlap_damage (place + ENTRY_LEN) (earlier ++ p ∷ []) files else Some (damage_at place p.file.media.0)) (apart_passes earlier files p apart)
    ∙ overlaps_pass (place + ENTRY_LEN) (earlier ++ p ∷ []) files (subst AreApart (sym (append_assoc earlier (p ∷ []) files)) apart)

-- a slot of which each check passes
record IsSound (room : ℕ) (slot : Slot) (c : List ℕ) : Type 0 where
  entries : slot_damage room slot c ≡ None
  apart : overlap_damage (slot_place slot + TABLE) [] (files_at slot c) ≡ None

shut_sound : (room : ℕ) (slot : Slot) (c : List ℕ) → head_at slot c ≡ None → IsSound room slot c
shut_sound room slot c shut =
    let none : files_at slot c ≡ [] = ap (λ (h : Option Head). files_of slot h c) shut in
    record {
      entries = both_pass (fields_damage (slot_place slot) (head_at slot c)) (entries_damage room (slot_place slot + TABLE) 0 (files_at slot c)) (ap (λ (h : Option Head). fields_damage (slot_place slot) h) shut) (ap (λ (l : List Placed). entries_damage room (slot_place slot + TABLE) 0 l) none);
      apart = ap (λ (l : List Placed). overlap_damage (slot_place slot + TABLE) [] l) none;
    }

-- a file of a snapshot lies in the data area
placed_in_room : (room number : ℕ) (text : List ℕ) (files : List StoredFile) → IsSnapshot room number text files → All (λ f. IsPlaced room (placed_of f)) files
placed_in_room room number text files snapshot k d lt =
    let f : StoredFile = get_or files k d in
    let extent : taken f ≡ extent_of f ∷ [] = taken_extent f (snapshot.extents k d lt) in
    let inside : IsInside room (get_or (taken f) 0 (extent_of f)) = snapshot.inside k d lt 0 (extent_of f) (omega (arith, ap length extent)) in
    record {
      inside = subst (λ (l : List Segment). IsInside room (get_or l 0 (extent_of f))) extent inside;
      length = snapshot.listed.lengths k d lt;
      media = snapshot.listed.ids k d lt;
    }

open_sound : (room number : ℕ) (text : List ℕ) (files : List StoredFile) (slot : Slot) (c : List ℕ) → room ≤ MAX_ROOM → IsSnapshot room number text files → IsOpen (slot_of slot c) → HasFields number text files (slot_of slot c) → IsSound room slot c
open_sound room number text files slot c small snapshot gate fields =
    let is = slot_stands slot c room number text files small snapshot gate fields in
    let head : Head = record { number = number; text = length text; count = length files } in
    record {
      entries = both_pass (fields_damage (slot_place slot) (head_at slot c)) (entries_damage room (slot_place slot + TABLE) 0 (files_at slot c))
          (ap (λ (h : Option Head). fields_damage (slot_place slot) h) is.0 ∙ head_passes (slot_place slot) head snapshot.numbered.0 snapshot.long snapshot.listed.few)
          (ap (λ (l : List Placed). entries_damage room (slot_place slot + TABLE) 0 l) is.1 ∙ entries_pass room (slot_place slot + TABLE) 0 files (placed_in_room room number text files snapshot) (λ k d lt. (snapshot.listed.ids k d lt).0) snapshot.listed.ascending);
      apart = ap (λ (l : List Placed). overlap_damage (slot_place slot + TABLE) [] l) is.1 ∙ overlaps_pass (slot_place slot + TABLE) [] (map placed_of files) (apart_placed files snapshot.extents snapshot.apart);
    }

other_sound : (room number : ℕ) (slot : Slot) (c : List ℕ) → room ≤ MAX_ROOM → IsOther room number (slot_of slot c) → IsSound room slot c
other_sound room number slot c small other = elim (cases_eq (get_or c (slot_place slot) 0) 1) [
  | inr closed ↦ shut_sound room slot c (head_closed slot c closed)
  | inl opened ↦
      let o = other (gate_of slot c ∙ opened) in
      open_sound room o.0 o.1 o.2 slot c small o.5 (gate_of slot c ∙ opened) o.4
]

-- two open slots have different numbers
differ : (m n : ℕ) → (m ≡ n → ⊥) → (if m == n then false else true) ≡ true
differ m n apart = ap (λ (b : Bool). if b then false else true) (ne_eqb m n apart)

zero_current : (current : Head) (other : Option Head) → (other ≡ None) ⊎ ((head : Head) × (other ≡ Some head) × (head.number < current.number)) → twin_damage (Some current) other ≡ None
zero_current current other (inl none) = ap (λ (h : Option Head). twin_damage (Some current) h) none
zero_current current other (inr lower) =
    ap (λ (h : Option Head). twin_damage (Some current) h) lower.1 ∙ passes (if current.number == lower.0.number then false else true) (SLOT_ONE + 4) lower.0.number (differ current.number lower.0.number (λ same. absurd (omega (arith, same, lower.2))))

one_current : (other : Option Head) (current : Head) → (other ≡ None) ⊎ ((head : Head) × (other ≡ Some head) × (head.number < current.number)) → twin_damage other (Some current) ≡ None
one_current other current (inl none) = ap (λ (h : Option Head). twin_damage h (Some current)) none
one_current other current (inr lower) =
    ap (λ (h : Option Head). twin_damage h (Some current)) lower.1 ∙ passes (if lower.0.number == current.number then false else true) (SLOT_ONE + 4) current.number (differ lower.0.number current.number (λ same. absurd (omega (arith, same, lower.2))))

-- both slots
slots_pass : (room : ℕ) (c : List ℕ) → IsSound room Zero c → IsSound room One c → twin_damage (head_at Zero c) (head_at One c) ≡ None → slots_damage room c ≡ None
slots_pass room c first second twin =
    both_pass _ _ first.entries (both_pass _ _ second.entries (both_pass _ _ twin (both_pass _ _ first.apart second.apart)))

pub slots_sound : (room number : ℕ) (text : Option (List ℕ)) (files : List StoredFile) (c : List ℕ) → room ≤ MAX_ROOM → MatchOption text ((number ≡ 0) × (files ≡ [])) (λ t. IsSnapshot room number t files) → AreSlots room number text files (slot_of Zero c) (slot_of One c) → slots_damage room c ≡ None
slots_sound room number None files c small none slots =
    let first : head_at Zero c ≡ None = head_closed Zero c (λ opened. slots.0 (gate_of Zero c ∙ opened)) in
    let second : head_at One c ≡ None = head_closed One c (λ opened. slots.1 (gate_of One c ∙ opened)) in
    slots_pass room c (shut_sound room Zero c first) (shut_sound room One c second) (ap (λ (h : Option Head). twin_damage h (head_at One c)) first)
slots_sound room number (Some t) files c small snapshot (inl is) =
    let stands = slot_stands Zero c room number t files small snapshot is.gate is.fields in
    let head : Head = record { number = number; text = length t; count = length files } in
    slots_pass room c (open_sound room number t files Zero c small snapshot is.gate is.fields) (other_sound room number One c small is.rest)
    (ap (λ (h : Option Head). twin_damage h (head_at One c)) stands.0 ∙ zero_current head (head_at One c) (other_lower One c room number snapshot.numbered.1 is.rest))
slots_sound room number (Some t) files c small snapshot (inr is) =
    let stands = slot_stands One c room number t files small snapshot is.gate is.fields in
    let head : Head = record { number = number; text = length t; count = length files } in
    slots_pass room c (other_sound room number Zero c small is.rest) (open_sound room number t files One c small snapshot is.gate is.fields)
    (ap (λ (h : Option Head). twin_damage (head_at Zero c) h) stands.0 ∙ one_current (head_at Zero c) head (other_lower Zero c room number snapshot.numbered.1 is.rest))

pub slots_undamaged : (p : Contents) (c : List ℕ) → StandsFor p c → slots_damage (u64_at c 24) c ≡ None
slots_undamaged p c stands =
    let room : u64_at c 24 ≡ p.room = header_long_number c 24 p.room (omega arith) (omega (arith, stands.lawful.room.high)) stands.header.room_is in
    ap (λ (n : ℕ). slots_damage n c) room ∙ slots_sound p.room p.number p.text p.files c stands.lawful.room.high stands.lawful.snapshot stands.slots

-- a disk that stands for contents has no damage
pub undamaged : (p : Contents) (c : List ℕ) → StandsFor p c → damage_of (length c) c ≡ None
undamaged p c stands = both_pass (header_damage (length c) c) (slots_damage (u64_at c 24) c) (header_undamaged p c stands) (slots_undamaged p c stands)
