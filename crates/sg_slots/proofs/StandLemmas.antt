-- What the slots of a disk say that stands for contents.
use Rattle.std.proofs.Common.{◌≡◌, ◌⊎◌, inl, inr, ℕ, ◌+◌, ◌*◌, ◌^◌, ◌<◌, ◌≤◌, ◌↔◌, Bool, true, List, [], ◌∷◌, length, get_or, map, Option, None, Some, is_some, if◌then◌else◌, All, AllPairs, refl, sym, ◌∙◌, ap, subst, arith}
use Rattle.std.specs.List.{flat_map}
use Rattle.std.proofs.lemmas.Bool.{cases_eq, lt-ltb, le-ltb, true≢false}
use Rattle.std.proofs.lemmas.List.{length-map, get_or-map}
use Rattle.sg_disk.specs.View.{range}
use Rattle.sg_disk.specs.Contents.{Segment, StoredFile, IsClear, IsInside, IsExtent, IsSnapshot, taken, all_taken}
use Rattle.sg_disk.specs.Contents.{Extent}
use Rattle.sg_disk.specs.StandsFor.{le32, place_of, entry, HasFields, IsOpen, IsOther, IsCurrent}
use Rattle.sg_base.specs.declared.limits.TheConstants.{MANIFEST_FILES, MAX_ROOM}
use Rattle.sg_disk.specs.declared.places.TheConstants.{ENTRY_LEN, FIELDS, SLOT_LEN, TABLE}
use Rattle.sg_disk.proofs.Ranges.{range-range, byte_in}
use Rattle.sg_disk.proofs.Extents.{extent_of, taken_extent, taken-extents}
use Rattle.sg_placing.specs.Placing.{segment_of, placed_of, AreApart}
use Rattle.sg_placing.specs.declared.placed.Placed.{Placed}
use Rattle.sg_slots.specs.Bytes.{u32_at, entries_of}
use Rattle.sg_slots.specs.Slots.{slot_place, slot_of, opposite, head_at, files_of, files_at, spare_at, in_slot}
use Rattle.sg_slots.specs.declared.slots.Slot.{Slot}
use Rattle.sg_slots.specs.declared.slots.Slot.TheVariants.{Zero, One}
use Rattle.sg_slots.specs.declared.slots.Head.{Head}
use Rattle.sg_slots.proofs.SlotLemmas.{u32_in_range, head_open, head_closed}
use Rattle.sg_slots.proofs.TableLemmas.{FitsEntry, number_at, entries_back}

-- the gate of a slot
pub gate_of : (slot : Slot) (c : List ℕ) → get_or (slot_of slot c) 0 0 ≡ get_or c (slot_place slot) 0
gate_of slot c = let at : slot_place slot + 0 ≡ slot_place slot = omega arith in byte_in c (slot_place slot) SLOT_LEN 0 (omega arith) ∙ ap (λ (k : ℕ). get_or c k 0) at

-- a number of a slot
field_of : (slot : Slot) (c : List ℕ) (p n : ℕ) → p + 4 ≤ SLOT_LEN → n < 2 ^ 32 → range (slot_of slot c) p 4 ≡ le32 n → u32_at c (slot_place slot + p) ≡ n
field_of slot c p n le lt is = sym (u32_in_range c (slot_place slot) SLOT_LEN p le) ∙ number_at (slot_of slot c) p n lt is

-- the head of an open slot
pub head_stands : (slot : Slot) (c : List ℕ) (number : ℕ) (text : List ℕ) (files : List StoredFile) → number < 2 ^ 32 → length text < 2 ^ 32 → length files < 2 ^ 32 → IsOpen (slot_of slot c) → HasFields number text files (slot_of slot c) → head_at slot c ≡ Some (record { number = number; text = length text; count = length files })
head_stands slot c number text files number_fits text_fits files_fit opened has =
    let one : u32_at c (slot_place slot + FIELDS) ≡ number = field_of slot c 4 number (omega arith) number_fits has.number_is in
    let two : u32_at c (slot_place slot + 8) ≡ length text = field_of slot c 8 (length text) (omega arith) text_fits has.long in
    let three : u32_at c (slot_place slot + 12) ≡ length files = field_of slot c 12 (length files) (omega arith) files_fit has.count in
    head_open slot c (sym (gate_of slot c) ∙ opened) ∙ ap (λ (n : ℕ). made n (u32_at c (slot_place slot + 8)) (u32_at c (slot_place slot + 12))) one
    ∙ ap (λ (n : ℕ). made number n (u32_at c (slot_place slot + 12))) two ∙ ap (λ (n : ℕ). made number (length text) n) three
  where
    made : ℕ → ℕ → ℕ → Option Head
    made number text count = Some (record { number = number; text = text; count = count })

-- its files
pub files_stand : (slot : Slot) (c : List ℕ) (number : ℕ) (text : List ℕ) (files : List StoredFile) (head : Head) → length files ≤ MANIFEST_FILES → All FitsEntry files → head.count ≡ length files → HasFields number text files (slot_of slot c) → files_of slot (Some head) c ≡ map placed_of files
files_stand slot c number text files head few fit count has =
    let same : range c (slot_place slot + TABLE) (ENTRY_LEN * length files) ≡ flat_map entry files = sym (range-range c (slot_place slot) SLOT_LEN TABLE (ENTRY_LEN * length files) (omega (arith, few))) ∙ has.table in
    ap (λ (n : ℕ). entries_of (range c (slot_place slot + TABLE) (ENTRY_LEN * n)) n) count ∙ ap (λ (t : List ℕ). entries_of t (length files)) same ∙ entries_back files fit

-- the files of a snapshot fit the entries of a table
pub files_fit : (room number : ℕ) (text : List ℕ) (files : List StoredFile) → room ≤ MAX_ROOM → IsSnapshot room number text files → All FitsEntry files
files_fit room number text files small snapshot k d lt =
    let f : StoredFile = get_or files k d in
    let extent : taken f ≡ extent_of f ∷ [] = taken_extent f (snapshot.extents k d lt) in
    let inside : IsInside room (get_or (taken f) 0 (extent_of f)) = snapshot.inside k d lt 0 (extent_of f) (omega (arith, ap length extent)) in
    let here : IsInside room (extent_of f) = subst (λ (l : List Segment). IsInside room (get_or l 0 (extent_of f))) extent inside in
    let ids = snapshot.listed.ids k d lt in
    let lengths = snapshot.listed.lengths k d lt in
    record {
      media = ids.1;
      long = omega (arith, lengths.1);
      digest = snapshot.listed.digests k d lt;
      place = omega (arith, here.1, small);
    }

-- the head and the files of an open slot with a sound snapshot
pub slot_stands : (slot : Slot) (c : List ℕ) (room number : ℕ) (text : List ℕ) (files : List StoredFile) → room ≤ MAX_ROOM → IsSnapshot room number text files → IsOpen (slot_of slot c) → HasFields number text files (slot_of slot c) → (head_at slot c ≡ Some (record { number = number; text = length text; count = length files })) × (files_at slot c ≡ map placed_of files)
slot_stands slot c room number text files small snapshot opened has =
    let fit : All FitsEntry files = files_fit room number text files small snapshot in
    let head = head_stands slot c number text files snapshot.numbered.1 (omega (arith, snapshot.long.1)) (omega (arith, snapshot.listed.few)) opened has in
    (head, ap (λ (h : Option Head). files_of slot h c) head ∙ files_stand slot c number text files (record { number = number; text = length text; count = length files }) snapshot.listed.few fit refl has)

-- the head of the other slot has a lower number
pub other_lower : (slot : Slot) (c : List ℕ) (room number : ℕ) → number < 2 ^ 32 → IsOther room number (slot_of slot c) → (head_at slot c ≡ None) ⊎ ((head : Head) × (head_at slot c ≡ Some head) × (head.number < number))
other_lower slot c room number fits other = elim (cases_eq (get_or c (slot_place slot) 0) 1) [
  | inr closed ↦ inl (head_closed slot c closed)
  | inl opened ↦
      let o = other (gate_of slot c ∙ opened) in
      inr (
        record { number = o.0; text = length o.1; count = length o.2 },
        head_stands slot c o.0 o.1 o.2 (omega (arith, o.3, fits)) (omega (arith, o.5.long.1)) (omega (arith, o.5.listed.few)) (gate_of slot c ∙ opened) o.4,
        o.3,
      )
]

-- the slot that is chosen
chosen_one : (current : Head) (other : Option Head) → (other ≡ None) ⊎ ((head : Head) × (other ≡ Some head) × (head.number < current.number)) → spare_at (Some current) other ≡ One
chosen_one current other (inl none) = ap (λ (h : Option Head). spare_at (Some current) h) none
chosen_one current other (inr head) = ap (λ (h : Option Head). spare_at (Some current) h) head.1 ∙ ap (λ (b : Bool). if b then Zero else One) (le-ltb current.number head.0.number (omega (arith, head.2)))

chosen_zero : (other : Option Head) (current : Head) → (other ≡ None) ⊎ ((head : Head) × (other ≡ Some head) × (head.number < current.number)) → spare_at other (Some current) ≡ Zero
chosen_zero other current (inl none) = ap (λ (h : Option Head). spare_at h (Some current)) none
chosen_zero other current (inr head) = ap (λ (h : Option Head). spare_at h (Some current)) head.1 ∙ ap (λ (b : Bool). if b then Zero else One) (lt-ltb head.0.number current.number head.2)

-- an opening chooses the slot beside the current one
pub spare_found : (c : List ℕ) (room number : ℕ) (text : List ℕ) (files : List StoredFile) → number < 2 ^ 32 → length text < 2 ^ 32 → length files < 2 ^ 32 → IsCurrent room number text files (slot_of Zero c) (slot_of One c) ⊎ IsCurrent room number text files (slot_of One c) (slot_of Zero c) → IsCurrent room number text files (slot_of (opposite (spare_at (head_at Zero c) (head_at One c))) c) (slot_of (spare_at (head_at Zero c) (head_at One c)) c)
spare_found c room number text files number_fits text_fits files_fit (inl is) =
    let head = head_stands Zero c number text files number_fits text_fits files_fit is.gate is.fields in
    let spare : spare_at (head_at Zero c) (head_at One c) ≡ One = ap (λ (h : Option Head). spare_at h (head_at One c)) head ∙ chosen_one (record { number = number; text = length text; count = length files }) (head_at One c) (other_lower One c room number number_fits is.rest) in
    subst (λ (s : Slot). IsCurrent room number text files (slot_of (opposite s) c) (slot_of s c)) (sym spare) is
spare_found c room number text files number_fits text_fits files_fit (inr is) =
    let head = head_stands One c number text files number_fits text_fits files_fit is.gate is.fields in
    let spare : spare_at (head_at Zero c) (head_at One c) ≡ Zero = ap (λ (h : Option Head). spare_at (head_at Zero c) h) head ∙ chosen_zero (head_at Zero c) (record { number = number; text = length text; count = length files }) (other_lower Zero c room number number_fits is.rest) in
    subst (λ (s : Slot). IsCurrent room number text files (slot_of (opposite s) c) (slot_of s c)) (sym spare) is

-- a gate is open where its slot has a head
pub gate_found : (slot : Slot) (c : List ℕ) (opened : Bool) → opened ≡ is_some (head_at slot c) → (opened ≡ true) ↔ IsOpen (slot_of slot c)
gate_found slot c opened is = elim (cases_eq (get_or c (slot_place slot) 0) 1) [
  | inl open_now ↦ (λ _. gate_of slot c ∙ open_now, λ _. is ∙ ap (λ (h : Option Head). is_some h) (head_open slot c open_now))
  | inr closed ↦ (
    λ yes. absurd (true≢false (sym yes ∙ is ∙ ap (λ (h : Option Head). is_some h) (head_closed slot c closed))),
    λ open_now. absurd (closed (sym (gate_of slot c) ∙ open_now)),
  )
]

-- files that take no byte twice stand apart as placed files
pub apart_placed : (files : List StoredFile) → All IsExtent files → AllPairs (λ s t. IsClear t.place t.size s) (all_taken files) → AreApart (map placed_of files)
apart_placed files extents apart i j d lt below =
    let far : j < length files = omega (arith, below, length-map files placed_of) in
    let near : i < length files = omega (arith, lt, far) in
    let f : StoredFile = get_or files i nothing in
    let g : StoredFile = get_or files j nothing in
    let pairs : AllPairs (λ s t. IsClear t.place t.size s) (map extent_of files) = subst (λ (l : List Segment). AllPairs (λ s t. IsClear t.place t.size s) l) (taken-extents files extents) apart in
    let e : Segment = extent_of nothing in
    let pair = pairs i j e lt (omega (arith, far, length-map files extent_of)) in
    let first : get_or (map extent_of files) i e ≡ extent_of f = get_or-map extent_of files i nothing e near in
    let second : get_or (map extent_of files) j e ≡ extent_of g = get_or-map extent_of files j nothing e far in
    let clear : IsClear (place_of g.stand) g.listed.length (extent_of f) = subst (λ (s : Segment). IsClear (extent_of g).place (extent_of g).size s) first (subst (λ (t : Segment). IsClear t.place t.size (get_or (map extent_of files) i e)) second pair) in
    let one : get_or (map placed_of files) i d ≡ placed_of f = get_or-map placed_of files i nothing d near in
    let two : get_or (map placed_of files) j d ≡ placed_of g = get_or-map placed_of files j nothing d far in
    subst (λ (p : Placed). IsClear (get_or (map placed_of files) j d).place (get_or (map placed_of files) j d).file.length (segment_of p)) (sym one) (subst (λ (q : Placed). IsClear q.place q.file.length (segment_of (placed_of f))) (sym two) clear)
  where
    nothing : StoredFile
    nothing = record { listed = record { media = record { 0 = 0 }; length = 0; md5 = [] }; stand = Extent 0; bytes = [] }

-- what stands in the slot that isn't spare
pub in_opposite : (spare : Slot) (c : List ℕ) (first second : Option Head) → first ≡ head_at Zero c → second ≡ head_at One c → in_slot spare second first ≡ head_at (opposite spare) c
in_opposite Zero c first second one two = two
in_opposite One c first second one two = one

pub in_spare : (spare : Slot) (c : List ℕ) (first second : Option Head) → first ≡ head_at Zero c → second ≡ head_at One c → in_slot spare first second ≡ head_at spare c
in_spare Zero c first second one two = one
in_spare One c first second one two = two

pub files_opposite : (spare : Slot) (c : List ℕ) (first second : List Placed) → first ≡ files_at Zero c → second ≡ files_at One c → in_slot spare second first ≡ files_at (opposite spare) c
files_opposite Zero c first second one two = two
files_opposite One c first second one two = one
