-- What of a disk is outside the data area and the journal, and what two disks stand for that have the same there.
use Rattle.std.proofs.Common.{◌≡◌, inl, inr, ℕ, ◌+◌, ◌*◌, ◌≤◌, List, length, get_or, Option, refl, sym, ◌∙◌, ap, subst, arith, zero-add}
use Rattle.sg_disk.specs.View.{range, Torn}
use Rattle.sg_disk.specs.Contents.{StoredFile}
use Rattle.sg_disk.specs.StandsFor.{le32, AreSlots as AreOldSlots}
use Rattle.sg_disk.specs.declared.places.TheConstants.{HEADER_LEN, SLOT_ZERO, SLOT_ONE, SLOT_LEN, JOURNAL, DATA}
use Rattle.sg_disk.proofs.Ranges.{range_kept, range-range, byte_in}
use Rattle.sg_pages.specs.declared.maps.TheConstants.{MAP_LEN}
use Rattle.sg_contents.specs.StandsFor.{IsOld, IsNew, IsFormat, AreSlots, AreSealed, map_zero, map_one, seals_of}
use Rattle.sg_contents.specs.declared.places.TheConstants.{SEALS_LEN}

-- two disks have the same length, and the same header, slots, maps and seals
pub record SameFormat (room : ℕ) (c d : List ℕ) : Type 0 where
  pub size : length d ≡ length c
  pub header : range d 0 HEADER_LEN ≡ range c 0 HEADER_LEN
  pub zero : range d SLOT_ZERO SLOT_LEN ≡ range c SLOT_ZERO SLOT_LEN
  pub one : range d SLOT_ONE SLOT_LEN ≡ range c SLOT_ONE SLOT_LEN
  pub first : map_zero room d ≡ map_zero room c
  pub second : map_one room d ≡ map_one room c
  pub sealed : seals_of room d ≡ seals_of room c

-- a write in the journal or in the data area
pub same_torn : (room place n : ℕ) (c d : List ℕ) → JOURNAL ≤ place → place + n ≤ DATA + room → Torn place n c d → SameFormat room c d
same_torn room place n c d low high torn = record {
  size = torn.same_length;
  header = range_kept place n 0 HEADER_LEN c d torn (inl (omega (arith, low)));
  zero = range_kept place n SLOT_ZERO SLOT_LEN c d torn (inl (omega (arith, low)));
  one = range_kept place n SLOT_ONE SLOT_LEN c d torn (inl (omega (arith, low)));
  first = range_kept place n (DATA + room) MAP_LEN c d torn (inr high);
  second = range_kept place n (DATA + room + MAP_LEN) MAP_LEN c d torn (inr (omega (arith, high)));
  sealed = range_kept place n (DATA + room + 2 * MAP_LEN) SEALS_LEN c d torn (inr (omega (arith, high)));
}

-- both slots and their maps
pub new_slots_same : (room number : ℕ) (text : Option (List ℕ)) (files : List StoredFile) (c d : List ℕ) → SameFormat room c d → AreSlots room number text files (range c SLOT_ZERO SLOT_LEN) (map_zero room c) (range c SLOT_ONE SLOT_LEN) (map_one room c) → AreSlots room number text files (range d SLOT_ZERO SLOT_LEN) (map_zero room d) (range d SLOT_ONE SLOT_LEN) (map_one room d)
new_slots_same room number text files c d same slots =
    subst (λ (x : List ℕ). AreSlots room number text files x (map_zero room d) (range d SLOT_ONE SLOT_LEN) (map_one room d)) (sym same.zero)
    (subst (λ (x : List ℕ). AreSlots room number text files (range c SLOT_ZERO SLOT_LEN) x (range d SLOT_ONE SLOT_LEN) (map_one room d)) (sym same.first)
    (subst (λ (x : List ℕ). AreSlots room number text files (range c SLOT_ZERO SLOT_LEN) (map_zero room c) x (map_one room d)) (sym same.one)
    (subst (λ (x : List ℕ). AreSlots room number text files (range c SLOT_ZERO SLOT_LEN) (map_zero room c) (range c SLOT_ONE SLOT_LEN) x) (sym same.second) slots)))

pub old_slots_same : (room number : ℕ) (text : Option (List ℕ)) (files : List StoredFile) (c d : List ℕ) → range d SLOT_ZERO SLOT_LEN ≡ range c SLOT_ZERO SLOT_LEN → range d SLOT_ONE SLOT_LEN ≡ range c SLOT_ONE SLOT_LEN → AreOldSlots room number text files (range c SLOT_ZERO SLOT_LEN) (range c SLOT_ONE SLOT_LEN) → AreOldSlots room number text files (range d SLOT_ZERO SLOT_LEN) (range d SLOT_ONE SLOT_LEN)
old_slots_same room number text files c d zero one slots =
    subst (λ (x : List ℕ). AreOldSlots room number text files x (range d SLOT_ONE SLOT_LEN)) (sym zero)
    (subst (λ (x : List ℕ). AreOldSlots room number text files (range c SLOT_ZERO SLOT_LEN) x) (sym one) slots)

-- they have the same format
pub format_same : (room number : ℕ) (text : Option (List ℕ)) (files seals : List StoredFile) (c d : List ℕ) → SameFormat room c d → IsFormat room number text files seals c → IsFormat room number text files seals d
format_same room number text files seals c d same (inl old) = inl record {
  version = subst IsOld (sym same.header) old.version;
  size = elim old.size [
    | inl short ↦ inl (same.size ∙ short)
    | inr whole ↦ inr (same.size ∙ whole)
  ];
  extents = old.extents;
  slots = old_slots_same room number text files c d same.zero same.one old.slots;
  sealed = old.sealed;
}
format_same room number text files seals c d same (inr new) = inr record {
  version = subst IsNew (sym same.header) new.version;
  size = same.size ∙ new.size;
  slots = new_slots_same room number text files c d same new.slots;
  sealed = subst (AreSealed seals) (sym same.sealed) new.sealed;
}

le32_one : get_or (le32 1) 0 0 ≡ 1
unfolding le32
le32_one = refl

-- a header isn't of both formats
pub not_both : (header : List ℕ) → IsOld header → IsNew header → ⊥
not_both header old new = new.other (sym (first header) ∙ ap (λ (l : List ℕ). get_or l 0 0) old ∙ le32_one)
  where
    first : (h : List ℕ) → get_or (range h 4 4) 0 0 ≡ get_or h 4 0
    first h = byte_in h 4 4 0 (omega arith)

-- a part of the header
pub in_header : (c : List ℕ) (p l : ℕ) → p + l ≤ HEADER_LEN → range (range c 0 HEADER_LEN) p l ≡ range c p l
in_header c p l le = range-range c 0 HEADER_LEN p l le ∙ ap (λ (k : ℕ). range c k l) (zero-add p)

pub header_byte : (c : List ℕ) (p : ℕ) → p + 1 ≤ HEADER_LEN → get_or (range c 0 HEADER_LEN) p 0 ≡ get_or c p 0
header_byte c p le = byte_in c 0 HEADER_LEN p (omega (arith, le)) ∙ ap (λ (k : ℕ). get_or c k 0) (zero-add p)
