-- Both slots of a disk that stands for contents have no fault.
use Rattle.std.proofs.Common.{◌≡◌, ◌⊎◌, inl, inr, ℕ, ◌+◌, ◌/◌, ◌<◌, ◌≤◌, ◌==◌, nat_le, ◌&&◌, Bool, true, false, List, [], length, get_or, map, Option, None, Some, option_map, MatchOption, if◌then◌else◌, ◌∙◌, ap, arith}
use Rattle.std.specs.List.{flat_map}
use Rattle.std.proofs.lemmas.Bool.{cases_eq, and_from, le-leb, ne_eqb}
use Rattle.sg_base.specs.declared.limits.TheConstants.{MAX_ROOM, MANIFEST_FILES, MANIFEST_TEXT}
use Rattle.sg_disk.specs.Contents.{StoredFile}
use Rattle.sg_disk.specs.StandsFor.{IsOpen}
use Rattle.sg_disk.specs.declared.places.TheConstants.{PAGE, SLOT_ONE, TABLE}
use Rattle.sg_placing.specs.Placing.{placed_of}
use Rattle.sg_placing.specs.declared.placed.Placed.{Placed}
use Rattle.sg_pages.specs.Shelves.{extent_of}
use Rattle.sg_slots.specs.Slots.{slot_place, slot_of, head_at, files_of, files_at}
use Rattle.sg_slots.specs.Damage.{Damage, check, or_else, fields_damage, twin_damage}
use Rattle.sg_slots.specs.declared.slots.Slot.{Slot}
use Rattle.sg_slots.specs.declared.slots.Slot.TheVariants.{Zero, One}
use Rattle.sg_slots.specs.declared.slots.Head.{Head}
use Rattle.sg_slots.proofs.SlotLemmas.{head_closed}
use Rattle.sg_slots.proofs.StandLemmas.{gate_of}
use Rattle.sg_paged_slots.specs.PagedDamage.{map_place, files_damage, map_damage, entry_damage}
use Rattle.sg_paged_slots.specs.PagedSlots.{pages_in, paged_slot_damage, paged_slots_damage}
use Rattle.sg_contents.specs.Lawful.{IsSnapshot, all_pages}
use Rattle.sg_contents.specs.StandsFor.{HasSlot, IsOther, AreSlots}
use Rattle.sg_soundness.proofs.SoundFiles.{all_counted, ranges_apart, files_pass, pages_pass, pages_inside, pages_clear, pages_apart}
use Rattle.sg_soundness.proofs.SlotStands.{map_of, map_stands, slot_says, other_lower}

-- checks that pass, one behind another
pub passes : (b : Bool) (place found : ℕ) → b ≡ true → check b place found ≡ None
passes b place found is = ap (λ (x : Bool). check x place found) is

pub both_pass : (first second : Option Damage) → first ≡ None → second ≡ None → or_else first second ≡ None
both_pass first second one two = ap (λ (x : Option Damage). or_else x second) one ∙ two

-- the fields of an open slot
head_passes : (place : ℕ) (head : Head) → 1 ≤ head.number → (1 ≤ head.text) × (head.text ≤ MANIFEST_TEXT) → head.count ≤ MANIFEST_FILES → fields_damage place (Some head) ≡ None
head_passes place head number text count =
    both_pass (check (nat_le 1 head.number) (place + 4) head.number) (or_else (check (nat_le 1 head.text && nat_le head.text MANIFEST_TEXT) (place + 8) head.text) (check (nat_le head.count MANIFEST_FILES) (place + 12) head.count)) (passes (nat_le 1 head.number) (place + 4) head.number (le-leb 1 head.number number))
    (both_pass (check (nat_le 1 head.text && nat_le head.text MANIFEST_TEXT) (place + 8) head.text) (check (nat_le head.count MANIFEST_FILES) (place + 12) head.count) (passes (nat_le 1 head.text && nat_le head.text MANIFEST_TEXT) (place + 8) head.text (and_from (nat_le 1 head.text) (nat_le head.text MANIFEST_TEXT) (le-leb 1 head.text text.0) (le-leb head.text MANIFEST_TEXT text.1)))
    (passes (nat_le head.count MANIFEST_FILES) (place + 12) head.count (le-leb head.count MANIFEST_FILES count)))

-- its table
table_passes : (room number place : ℕ) (text : List ℕ) (files : List StoredFile) → IsSnapshot room number text files → files_damage room place 0 [] (map placed_of files) ≡ None
table_passes room number place text files snapshot = files_pass room place 0 [] files (record {
  above = λ k d lt. (snapshot.listed.ids k d lt).0;
  ascending = snapshot.listed.ascending;
  lengths = snapshot.listed.lengths;
  inside = snapshot.inside;
  few = omega (arith, snapshot.few_pages, all_counted room files snapshot.stored snapshot.inside);
  apart = ranges_apart files snapshot.apart;
})

-- its map
map_passes : (room number : ℕ) (slot : Slot) (text : List ℕ) (files : List StoredFile) → IsSnapshot room number text files → map_damage room slot (map placed_of files) (all_pages files) ≡ None
map_passes room number slot text files snapshot = ap (option_map (entry_damage (map_place room slot))) (pages_pass (room / PAGE) 0 (flat_map extent_of (map placed_of files)) (all_pages files) (pages_inside room files snapshot.inside) (pages_clear files snapshot.apart) (pages_apart files snapshot.apart))

-- a slot whose gate is closed
shut_passes : (room : ℕ) (slot : Slot) (c : List ℕ) → head_at slot c ≡ None → paged_slot_damage room slot c ≡ None
shut_passes room slot c shut = ap (λ (h : Option Head). or_else (fields_damage (slot_place slot) h) (or_else (files_damage room (slot_place slot + TABLE) 0 [] (files_of slot h c)) (map_damage room slot (files_of slot h c) (pages_in room slot c (files_of slot h c))))) shut

-- an open one
open_passes : (room number : ℕ) (text : List ℕ) (files : List StoredFile) (slot : Slot) (c : List ℕ) → room ≤ MAX_ROOM → IsSnapshot room number text files → IsOpen (slot_of slot c) → HasSlot number text files (slot_of slot c) (map_of room slot c) → paged_slot_damage room slot c ≡ None
open_passes room number text files slot c small snapshot opened has =
    let says = slot_says room number text files slot c small snapshot opened has in
    let head : Head = record { number = number; text = length text; count = length files } in
    both_pass (fields_damage (slot_place slot) (head_at slot c)) (or_else (files_damage room (slot_place slot + TABLE) 0 [] (files_at slot c)) (map_damage room slot (files_at slot c) (pages_in room slot c (files_at slot c))))
    (ap (λ (h : Option Head). fields_damage (slot_place slot) h) says.head ∙ head_passes (slot_place slot) head snapshot.numbered.0 snapshot.long snapshot.listed.few)
    (both_pass (files_damage room (slot_place slot + TABLE) 0 [] (files_at slot c)) (map_damage room slot (files_at slot c) (pages_in room slot c (files_at slot c)))
    (ap (λ (l : List Placed). files_damage room (slot_place slot + TABLE) 0 [] l) says.files_are ∙ table_passes room number (slot_place slot + TABLE) text files snapshot)
    (ap (λ (l : List Placed). map_damage room slot l (pages_in room slot c l)) says.files_are ∙ ap (λ (l : List ℕ). map_damage room slot (map placed_of files) l) (map_stands room number text files slot c small snapshot has) ∙ map_passes room number slot text files snapshot))

other_passes : (room number : ℕ) (slot : Slot) (c : List ℕ) → room ≤ MAX_ROOM → IsOther room number (slot_of slot c) (map_of room slot c) → paged_slot_damage room slot c ≡ None
other_passes room number slot c small other = elim (cases_eq (get_or c (slot_place slot) 0) 1) [
  | inr closed ↦ shut_passes room slot c (head_closed slot c closed)
  | inl opened ↦
      let o = other (gate_of slot c ∙ opened) in
      open_passes room o.0 o.1 o.2 slot c small o.5 (gate_of slot c ∙ opened) o.4
]

-- two open slots have different numbers
differ : (m n : ℕ) → (m ≡ n → ⊥) → (if m == n then false else true) ≡ true
differ m n apart = ap (λ (b : Bool). if b then false else true) (ne_eqb m n apart)

zero_current : (current : Head) (other : Option Head) → (other ≡ None) ⊎ ((head : Head) × (other ≡ Some head) × (head.number < current.number)) → twin_damage (Some current) other ≡ None
zero_current current other (inl none) = ap (λ (h : Option Head). twin_damage (Some current) h) none
zero_current current other (inr lower) =
    ap (λ (h : Option Head). twin_damage (Some current) h) lower.1 ∙ passes (if current.number == lower.0.number then false else true) (SLOT_ONE + 4) lower.0.number (differ current.number lower.0.number (λ same. absurd (omega (arith, same, lower.2))))

one_current : (other : Option Head) (current : Head) → (other ≡ None) ⊎ ((head : Head) × (other ≡ Some head) × (head.number < current.number)) → twin_damage other (Some current) ≡ None
one_current other current (inl none) = ap (λ (h : Option Head). twin_damage h (Some current)) none
one_current other current (inr lower) =
    ap (λ (h : Option Head). twin_damage h (Some current)) lower.1 ∙ passes (if lower.0.number == current.number then false else true) (SLOT_ONE + 4) current.number (differ lower.0.number current.number (λ same. absurd (omega (arith, same, lower.2))))

-- both slots
slots_pass : (room : ℕ) (c : List ℕ) → paged_slot_damage room Zero c ≡ None → paged_slot_damage room One c ≡ None → twin_damage (head_at Zero c) (head_at One c) ≡ None → paged_slots_damage room c ≡ None
slots_pass room c first second twin = both_pass _ _ first (both_pass _ _ second twin)

pub slots_sound : (room number : ℕ) (text : Option (List ℕ)) (files : List StoredFile) (c : List ℕ) → room ≤ MAX_ROOM → MatchOption text ((number ≡ 0) × (files ≡ [])) (λ t. IsSnapshot room number t files) → AreSlots room number text files (slot_of Zero c) (map_of room Zero c) (slot_of One c) (map_of room One c) → paged_slots_damage room c ≡ None
slots_sound room number None files c small none slots =
    let first : head_at Zero c ≡ None = head_closed Zero c (λ opened. slots.0 (gate_of Zero c ∙ opened)) in
    let second : head_at One c ≡ None = head_closed One c (λ opened. slots.1 (gate_of One c ∙ opened)) in
    slots_pass room c (shut_passes room Zero c first) (shut_passes room One c second) (ap (λ (h : Option Head). twin_damage h (head_at One c)) first)
slots_sound room number (Some t) files c small snapshot (inl is) =
    let says = slot_says room number t files Zero c small snapshot is.gate is.slot in
    let head : Head = record { number = number; text = length t; count = length files } in
    slots_pass room c (open_passes room number t files Zero c small snapshot is.gate is.slot) (other_passes room number One c small is.rest)
    (ap (λ (h : Option Head). twin_damage h (head_at One c)) says.head ∙ zero_current head (head_at One c) (other_lower room number One c snapshot.numbered.1 is.rest))
slots_sound room number (Some t) files c small snapshot (inr is) =
    let says = slot_says room number t files One c small snapshot is.gate is.slot in
    let head : Head = record { number = number; text = length t; count = length files } in
    slots_pass room c (other_passes room number Zero c small is.rest) (open_passes room number t files One c small snapshot is.gate is.slot)
    (ap (λ (h : Option Head). twin_damage (head_at Zero c) h) says.head ∙ one_current (head_at Zero c) head (other_lower room number Zero c snapshot.numbered.1 is.rest))
