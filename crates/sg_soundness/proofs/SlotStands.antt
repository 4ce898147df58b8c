-- What an open slot that stands for a snapshot says.
use Rattle.std.proofs.Common.{◌≡◌, ◌⊎◌, inl, inr, ℕ, ◌+◌, ◌*◌, ◌^◌, ◌<◌, ◌≤◌, Bool, List, length, get_or, map, sum_by, Option, None, Some, All, if◌then◌else◌, refl, sym, ◌∙◌, ap, subst, arith, add-zero}
use Rattle.std.specs.List.{flat_map}
use Rattle.std.proofs.lemmas.Bool.{cases_eq, lt-ltb, le-ltb}
use Rattle.sg_base.specs.declared.limits.TheConstants.{MAX_ROOM}
use Rattle.sg_disk.specs.View.{range}
use Rattle.sg_disk.specs.Contents.{StoredFile, IsInside}
use Rattle.sg_disk.specs.StandsFor.{place_of, IsOpen}
use Rattle.sg_disk.proofs.Ranges.{range-range}
use Rattle.sg_placing.specs.Placing.{placed_of}
use Rattle.sg_placing.specs.declared.placed.Placed.{Placed}
use Rattle.sg_pages.specs.Maps.{le16, pages_of}
use Rattle.sg_pages.specs.Shelves.{pages_for}
use Rattle.sg_pages.specs.declared.maps.TheConstants.{MAP_LEN, MAP_ENTRY_LEN}
use Rattle.sg_slots.specs.Slots.{slot_place, slot_of, opposite, head_at, files_of, files_at, spare_at}
use Rattle.sg_slots.specs.declared.slots.Slot.{Slot}
use Rattle.sg_slots.specs.declared.slots.Slot.TheVariants.{Zero, One}
use Rattle.sg_slots.specs.declared.slots.Head.{Head}
use Rattle.sg_slots.proofs.SlotLemmas.{head_closed}
use Rattle.sg_slots.proofs.TableLemmas.{FitsEntry}
use Rattle.sg_slots.proofs.StandLemmas.{gate_of, head_stands, files_stand}
use Rattle.sg_paged_slots.specs.PagedDamage.{map_place}
use Rattle.sg_paged_slots.specs.PagedSlots.{pages_in, shelf_at}
use Rattle.sg_contents.specs.Lawful.{IsSnapshot, all_pages}
use Rattle.sg_contents.specs.StandsFor.{HasSlot, IsOther, IsCurrent}
use Rattle.sg_contents.proofs.Pairs.{one_range}
use Rattle.sg_soundness.specs.Shelved.{shelf_of}
use Rattle.sg_soundness.proofs.SoundFiles.{all_counted, pages_inside}
use Rattle.sg_soundness.proofs.MapBack.{pages_back}

-- the map of a slot
abbrev pub map_of : ℕ → Slot → List ℕ → List ℕ
map_of room slot c = range c (map_place room slot) MAP_LEN

-- the files of a snapshot fit the entries of a table
pub files_fit : (room number : ℕ) (text : List ℕ) (files : List StoredFile) → room ≤ MAX_ROOM → IsSnapshot room number text files → All FitsEntry files
files_fit room number text files small snapshot k d lt =
    let f : StoredFile = get_or files k d in
    let ids = snapshot.listed.ids k d lt in
    let lengths = snapshot.listed.lengths k d lt in
    record {
      media = ids.1;
      long = omega (arith, lengths.1);
      digest = snapshot.listed.digests k d lt;
      place = elim (cases_eq (place_of f.stand) 0) [
        | inl none ↦ omega (arith, none)
        | inr some ↦ (let here = one_range (IsInside room) f.listed.length f.stand (snapshot.inside k d lt) some in omega (arith, here.1, small))
      ];
    }

-- the pages that the map gives its files
pub map_stands : (room number : ℕ) (text : List ℕ) (files : List StoredFile) (slot : Slot) (c : List ℕ) → room ≤ MAX_ROOM → IsSnapshot room number text files → HasSlot number text files (slot_of slot c) (map_of room slot c) → pages_in room slot c (map placed_of files) ≡ all_pages files
map_stands room number text files slot c small snapshot has =
    let pages : List ℕ = all_pages files in
    let count : sum_by pages_for (map placed_of files) ≡ length pages = all_counted room files snapshot.stored snapshot.inside in
    let few : length pages ≤ 16384 = grind (arith, snapshot.few_pages, small) in
    let at : map_place room slot + 0 ≡ map_place room slot = add-zero (map_place room slot) in
    let bytes : range c (map_place room slot) (MAP_ENTRY_LEN * length pages) ≡ flat_map le16 pages =
    ap (λ (k : ℕ). range c k (MAP_ENTRY_LEN * length pages)) (sym at) ∙ sym (range-range c (map_place room slot) MAP_LEN 0 (MAP_ENTRY_LEN * length pages) (omega (arith, few))) ∙ has.pages in
    let below : All (λ page. page < 2 ^ 16) pages = λ k d lt. let here = pages_inside room files snapshot.inside k d lt in grind (arith, here, small) in
    ap (λ (n : ℕ). pages_of (range c (map_place room slot) (MAP_ENTRY_LEN * n)) n) count ∙ ap (λ (l : List ℕ). pages_of l (length pages)) bytes ∙ pages_back pages below

-- the head of an open slot with a sound snapshot, and its files
pub record Says (room number : ℕ) (text : List ℕ) (files : List StoredFile) (slot : Slot) (c : List ℕ) : Type 0 where
  pub head : head_at slot c ≡ Some (record { number = number; text = length text; count = length files })
  pub files_are : files_at slot c ≡ map placed_of files
  pub shelf : shelf_at room slot c ≡ shelf_of files

pub slot_says : (room number : ℕ) (text : List ℕ) (files : List StoredFile) (slot : Slot) (c : List ℕ) → room ≤ MAX_ROOM → IsSnapshot room number text files → IsOpen (slot_of slot c) → HasSlot number text files (slot_of slot c) (map_of room slot c) → Says room number text files slot c
slot_says room number text files slot c small snapshot opened has =
    let fit : All FitsEntry files = files_fit room number text files small snapshot in
    let head = head_stands slot c number text files snapshot.numbered.1 (omega (arith, snapshot.long.1)) (omega (arith, snapshot.listed.few)) opened has.fields in
    let are : files_at slot c ≡ map placed_of files = ap (λ (h : Option Head). files_of slot h c) head ∙ files_stand slot c number text files (record { number = number; text = length text; count = length files }) snapshot.listed.few fit refl has.fields in
    record {
      head = head;
      files_are = are;
      shelf = ap (λ (l : List Placed). record { files = l; pages = pages_in room slot c l }) are ∙ ap (λ (l : List ℕ). record { files = map placed_of files; pages = l }) (map_stands room number text files slot c small snapshot has);
    }

-- the head of the other slot has a lower number
pub other_lower : (room number : ℕ) (slot : Slot) (c : List ℕ) → number < 2 ^ 32 → IsOther room number (slot_of slot c) (map_of room slot c) → (head_at slot c ≡ None) ⊎ ((head : Head) × (head_at slot c ≡ Some head) × (head.number < number))
other_lower room number slot c fits other = elim (cases_eq (get_or c (slot_place slot) 0) 1) [
  | inr closed ↦ inl (head_closed slot c closed)
  | inl opened ↦
      let o = other (gate_of slot c ∙ opened) in
      let has = o.4 in
      let snapshot = o.5 in
      inr (
        record { number = o.0; text = length o.1; count = length o.2 },
        head_stands slot c o.0 o.1 o.2 (omega (arith, o.3, fits)) (omega (arith, snapshot.long.1)) (omega (arith, snapshot.listed.few)) (gate_of slot c ∙ opened) has.fields,
        o.3,
      )
]

-- the slot that is chosen
chosen_one : (current : Head) (other : Option Head) → (other ≡ None) ⊎ ((head : Head) × (other ≡ Some head) × (head.number < current.number)) → spare_at (Some current) other ≡ One
chosen_one current other (inl none) = ap (λ (h : Option Head). spare_at (Some current) h) none
chosen_one current other (inr head) = ap (λ (h : Option Head). spare_at (Some current) h) head.1 ∙ ap (λ (b : Bool). if b then Zero else One) (le-ltb current.number head.0.number (omega (arith, head.2)))

chosen_zero : (other : Option Head) (current : Head) → (other ≡ None) ⊎ ((head : Head) × (other ≡ Some head) × (head.number < current.number)) → spare_at other (Some current) ≡ Zero
chosen_zero other current (inl none) = ap (λ (h : Option Head). spare_at h (Some current)) none
chosen_zero other current (inr head) = ap (λ (h : Option Head). spare_at h (Some current)) head.1 ∙ ap (λ (b : Bool). if b then Zero else One) (lt-ltb head.0.number current.number head.2)

-- a snapshot in the slot beside this one
abbrev pub IsBeside : ℕ → ℕ → List ℕ → List StoredFile → Slot → List ℕ → Type 0
IsBeside room number text files slot c = IsCurrent room number text files (slot_of (opposite slot) c) (map_of room (opposite slot) c) (slot_of slot c) (map_of room slot c)

-- an opening chooses the slot beside the current one
pub spare_found : (room number : ℕ) (text : List ℕ) (files : List StoredFile) (c : List ℕ) → room ≤ MAX_ROOM → IsSnapshot room number text files → IsBeside room number text files One c ⊎ IsBeside room number text files Zero c → IsBeside room number text files (spare_at (head_at Zero c) (head_at One c)) c
spare_found room number text files c small snapshot (inl is) =
    let says = slot_says room number text files Zero c small snapshot is.gate is.slot in
    let spare : spare_at (head_at Zero c) (head_at One c) ≡ One = ap (λ (h : Option Head). spare_at h (head_at One c)) says.head ∙ chosen_one (record { number = number; text = length text; count = length files }) (head_at One c) (other_lower room number One c snapshot.numbered.1 is.rest) in
    subst (λ (s : Slot). IsBeside room number text files s c) (sym spare) is
spare_found room number text files c small snapshot (inr is) =
    let says = slot_says room number text files One c small snapshot is.gate is.slot in
    let spare : spare_at (head_at Zero c) (head_at One c) ≡ Zero = ap (λ (h : Option Head). spare_at (head_at Zero c) h) says.head ∙ chosen_zero (head_at Zero c) (record { number = number; text = length text; count = length files }) (other_lower room number Zero c snapshot.numbered.1 is.rest) in
    subst (λ (s : Slot). IsBeside room number text files s c) (sym spare) is
