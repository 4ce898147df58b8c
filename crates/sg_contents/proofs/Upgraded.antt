-- What a disk of the old format stands for at every moment of its upgrade.
use Rattle.std.proofs.Common.{◌≡◌, ◌⊎◌, inl, inr, ℕ, zero, suc, ◌+◌, ◌-◌, ◌*◌, ◌<◌, ◌≤◌, List, [], ◌∷◌, ◌++◌, length, get_or, take, Option, None, Some, All, refl, sym, ◌∙◌, ap, subst, arith}
use Rattle.std.specs.List.{flat_map}
use Rattle.std.proofs.lemmas.Bool.{cases_eq}
use Rattle.std.proofs.Math.Seq.{drop-cons}
use Rattle.sg_disk.specs.View.{range}
use Rattle.sg_disk.specs.Contents.{Stand, StoredFile, Contents, IsExtent, IsSnapshot as IsOldSnapshot}
use Rattle.sg_disk.specs.Contents.{Extent, Pages}
use Rattle.sg_disk.specs.StandsFor.{le32, IsOther as IsOldOther, IsCurrent as IsOldCurrent, AreSlots as AreOldSlots, AreFiles, IsJournal, HasFields}
use Rattle.sg_disk.specs.declared.places.TheConstants.{HEADER_LEN, SLOT_ZERO, SLOT_ONE, SLOT_LEN, JOURNAL, JOURNAL_LEN, DATA}
use Rattle.sg_disk.proofs.Ranges.{byte_in, range-range, length-range}
use Rattle.sg_disk.proofs.Parts.{range_none, range_more}
use Rattle.sg_pages.specs.Maps.{le16}
use Rattle.sg_pages.specs.declared.maps.TheConstants.{MAP_LEN, MAP_ENTRY_LEN}
use Rattle.sg_slots.specs.Bytes.{AreZeros}
use Rattle.sg_upgrade.specs.Upgrading.{IsOldStill, IsNewBut, IsUpgrading}
use Rattle.sg_upgrade.specs.declared.places.TheConstants.{WHOLE, SECOND_MARK}
use Rattle.sg_upgrade.proofs.UpgradeLemmas.{still_keeps, new_keeps}
use Rattle.sg_contents.specs.Lawful.{IsSnapshot, pages_at, all_pages}
use Rattle.sg_contents.specs.StandsFor.{IsHeader, IsOld, HasSlot, IsOther, IsCurrent, AreSlots, AreSealed, IsFormat1, StandsFor, map_zero, map_one, seals_of}
use Rattle.sg_contents.specs.declared.places.TheConstants.{SEAL_LEN, SEALS_LEN}
use Rattle.sg_contents.proofs.Formats.{in_header, header_byte, old_slots_same}

-- files in ranges have no pages
pub no_pages : (files : List StoredFile) → All IsExtent files → all_pages files ≡ []
no_pages [] are = refl
no_pages (f ∷ files) are =
    let first = are zero f (omega arith) in
    pages_first f files first.0 first.1 (no_pages files (λ k d lt. are (suc k) d (omega (arith, lt))))
  where
    pages_first : (f : StoredFile) (files : List StoredFile) (place : ℕ) → f.stand ≡ Extent place → all_pages files ≡ [] → all_pages (f ∷ files) ≡ []
    pages_first f files place is rest = ap (λ (s : Stand). pages_at s ++ all_pages files) is ∙ rest

-- a snapshot of the old format is one of the new
pub snapshot_old : (room number : ℕ) (text : List ℕ) (files : List StoredFile) → IsOldSnapshot room number text files → IsSnapshot room number text files
snapshot_old room number text files old = record {
  numbered = old.numbered;
  long = old.long;
  listed = old.listed;
  stored = λ k d lt pages is. let extent = old.extents k d lt in absurd (not_paged extent.0 pages (sym extent.1 ∙ is));
  inside = old.inside;
  apart = old.apart;
  few_pages = omega (arith, ap length (no_pages files old.extents));
}
  where
    not_paged : (place : ℕ) (pages : List ℕ) → Extent place ≡ Pages pages → ⊥
    not_paged place pages is = cc

-- a slot whose files have no pages, with any map
slot_old : (number : ℕ) (text : List ℕ) (files : List StoredFile) (slot map : List ℕ) → All IsExtent files → HasFields number text files slot → HasSlot number text files slot map
slot_old number text files slot map are has = record {
  fields = has;
  pages =
      let none : all_pages files ≡ [] = no_pages files are in
      ap (λ (l : List ℕ). range map 0 (MAP_ENTRY_LEN * length l)) none ∙ range_none map 0 ∙ sym (ap (λ (l : List ℕ). flat_map le16 l) none);
}

other_old : (room number : ℕ) (slot map : List ℕ) → IsOldOther room number slot → IsOther room number slot map
other_old room number slot map other opened =
    let o = other opened in
    (o.0, o.1, o.2, o.3, slot_old o.0 o.1 o.2 slot map o.5.extents o.4, snapshot_old room o.0 o.1 o.2 o.5)

current_old : (room number : ℕ) (text : List ℕ) (files : List StoredFile) (a a_map b b_map : List ℕ) → All IsExtent files → IsOldCurrent room number text files a b → IsCurrent room number text files a a_map b b_map
current_old room number text files a a_map b b_map are is = record {
  gate = is.gate;
  slot = slot_old number text files a a_map are is.fields;
  rest = other_old room number b b_map is.rest;
}

-- the slots of the old format, with any maps
slots_old : (room number : ℕ) (text : Option (List ℕ)) (files : List StoredFile) (a a_map b b_map : List ℕ) → All IsExtent files → AreOldSlots room number text files a b → AreSlots room number text files a a_map b b_map
slots_old room number None files a a_map b b_map are slots = slots
slots_old room number (Some t) files a a_map b b_map are (inl is) = inl (current_old room number t files a a_map b b_map are is)
slots_old room number (Some t) files a a_map b b_map are (inr is) = inr (current_old room number t files b b_map a a_map are is)

-- the header, where what it reads is kept
header_kept : (display epoch room : ℕ) (c d : List ℕ) → ((p l : ℕ) → (p + l ≤ 4) ⊎ ((8 ≤ p) × (p + l ≤ SECOND_MARK)) → range d p l ≡ range c p l) → IsHeader display epoch room (range c 0 HEADER_LEN) → IsHeader display epoch room (range d 0 HEADER_LEN)
header_kept display epoch room c d kept header = record {
  gate = header_byte d 0 (omega arith) ∙ sym (byte d) ∙ ap (λ (l : List ℕ). get_or l 0 0) (kept 0 1 (inl (omega arith))) ∙ byte c ∙ sym (header_byte c 0 (omega arith)) ∙ header.gate;
  mark = part 8 8 (omega arith) (omega arith) ∙ header.mark;
  display_is = part 16 4 (omega arith) (omega arith) ∙ header.display_is;
  epoch_is = part 20 4 (omega arith) (omega arith) ∙ header.epoch_is;
  room_is = part 24 8 (omega arith) (omega arith) ∙ header.room_is;
}
  where
    byte : (b : List ℕ) → get_or (range b 0 1) 0 0 ≡ get_or b 0 0
    byte b = byte_in b 0 1 0 (omega arith)

    part : (p l : ℕ) → 8 ≤ p → p + l ≤ SECOND_MARK → range (range d 0 HEADER_LEN) p l ≡ range (range c 0 HEADER_LEN) p l
    part p l low high = in_header d p l (omega (arith, high)) ∙ kept p l (inr (low, high)) ∙ sym (in_header c p l (omega (arith, high)))

-- a disk of the old format still
still_stands : (p : Contents) (c d : List ℕ) → IsOldStill p.room c d → StandsFor p c → IsFormat1 p.room p.number p.text p.files p.seals c → StandsFor p d
still_stands p c d still stands old =
    let keeps : (q l : ℕ) → (q + l ≤ SECOND_MARK) ⊎ ((SECOND_MARK + 8 ≤ q) × (q + l ≤ DATA + p.room)) → range d q l ≡ range c q l = λ q l where_is. still_keeps p.room q l c d where_is still in
    record {
      lawful = stands.lawful;
      header = header_kept p.display p.epoch p.room c d (λ q l at. keeps q l (inl (near q l at))) stands.header;
      format = inl record {
        version = in_header d 4 4 (omega arith) ∙ keeps 4 4 (inl (omega arith)) ∙ sym (in_header c 4 4 (omega arith)) ∙ old.version;
        size = elim still.size [
          | inr whole ↦ inr whole
          | inl same ↦ elim old.size [
            | inl short ↦ inl (same ∙ short)
            | inr long ↦ inr (same ∙ long)
          ]
        ];
        extents = old.extents;
        slots = old_slots_same p.room p.number p.text p.files c d (keeps SLOT_ZERO SLOT_LEN (inr (omega arith, omega arith))) (keeps SLOT_ONE SLOT_LEN (inr (omega arith, omega arith))) old.slots;
        sealed = old.sealed;
      };
      journal = subst (IsJournal p.epoch p.plays p.floor) (sym (keeps JOURNAL JOURNAL_LEN (inr (omega arith, omega arith)))) stands.journal;
      files = subst (AreFiles p.files) (sym (keeps DATA p.room (inr (omega arith, omega arith)))) stands.files;
    }
  where
    near : (q l : ℕ) → (q + l ≤ 4) ⊎ ((8 ≤ q) × (q + l ≤ SECOND_MARK)) → q + l ≤ SECOND_MARK
    near q l (inl low) = omega (arith, low)
    near q l (inr high) = high.1

one_zeros : range (le32 1) 1 3 ≡ 0 ∷ 0 ∷ 0 ∷ []
unfolding le32 range
one_zeros = refl

one_bytes : 1 ∷ 0 ∷ 0 ∷ 0 ∷ [] ≡ le32 1
unfolding le32
one_bytes = refl

-- the byte at a place, as a range
one_byte : (c : List ℕ) (p : ℕ) → p < length c → range c p 1 ≡ get_or c p 0 ∷ []
unfolding range
one_byte c p lt = ap (λ (l : List ℕ). take 1 l) (drop-cons c p 0 lt)

-- the version of the old format, byte by byte
pub old_version : (c d : List ℕ) → range d 5 (SECOND_MARK - 5) ≡ range c 5 (SECOND_MARK - 5) → IsOld (range c 0 HEADER_LEN) → range (range d 0 HEADER_LEN) 5 3 ≡ 0 ∷ 0 ∷ 0 ∷ []
old_version c d same old =
    in_header d 5 3 (omega arith) ∙ sym (inner d) ∙ ap (λ (l : List ℕ). range l 0 3) same ∙ inner c ∙ sym (behind c) ∙ ap (λ (l : List ℕ). range l 1 3) (sym (in_header c 4 4 (omega arith)) ∙ old) ∙ one_zeros
  where
    inner : (b : List ℕ) → range (range b 5 (SECOND_MARK - 5)) 0 3 ≡ range b 5 3
    inner b = range-range b 5 (SECOND_MARK - 5) 0 3 (omega arith)

    behind : (b : List ℕ) → range (range b 4 4) 1 3 ≡ range b 5 3
    behind b = range-range b 4 4 1 3 (omega arith)

-- the records of seals are zeros
no_seals : (room : ℕ) (seals : List StoredFile) (d : List ℕ) → seals ≡ [] → AreZeros (DATA + room) (WHOLE - DATA) d → AreSealed seals (seals_of room d)
no_seals room seals d none zeros = record {
  none = none;
  shut = λ k lt opened.
      let zeroth : get_or (seals_of room d) (SEAL_LEN * k) 0 ≡ 0 = byte_in d (DATA + room + 2 * MAP_LEN) SEALS_LEN (SEAL_LEN * k) (omega (arith, lt)) ∙ zeros (DATA + room + 2 * MAP_LEN + SEAL_LEN * k) (omega arith) (omega (arith, lt)) in
      absurd (omega (arith, zeroth, opened));
}

-- one of the new format, or of the old one where the version byte is still 1
new_stands : (p : Contents) (c d : List ℕ) → IsNewBut p.room c d → StandsFor p c → IsFormat1 p.room p.number p.text p.files p.seals c → StandsFor p d
new_stands p c d whole stands old =
    let keeps : (q l : ℕ) → (q + l ≤ 4) ⊎ (((5 ≤ q) × (q + l ≤ SECOND_MARK)) ⊎ ((SECOND_MARK + 8 ≤ q) × (q + l ≤ DATA + p.room))) → range d q l ≡ range c q l = λ q l where_is. new_keeps p.room q l c d where_is whole in
    let zero : range d SLOT_ZERO SLOT_LEN ≡ range c SLOT_ZERO SLOT_LEN = keeps SLOT_ZERO SLOT_LEN (inr (inr (omega arith, omega arith))) in
    let one : range d SLOT_ONE SLOT_LEN ≡ range c SLOT_ONE SLOT_LEN = keeps SLOT_ONE SLOT_LEN (inr (inr (omega arith, omega arith))) in
    let small : range (range d 0 HEADER_LEN) 5 3 ≡ 0 ∷ 0 ∷ 0 ∷ [] = old_version c d whole.front old.version in
    let slots : AreOldSlots p.room p.number p.text p.files (range d SLOT_ZERO SLOT_LEN) (range d SLOT_ONE SLOT_LEN) = old_slots_same p.room p.number p.text p.files c d zero one old.slots in
    record {
      lawful = stands.lawful;
      header = header_kept p.display p.epoch p.room c d (λ q l at. keeps q l (near q l at)) stands.header;
      format = elim (cases_eq (get_or (range d 0 HEADER_LEN) 4 0) 1) [
        | inl torn ↦ inl record {
          version = four (range d 0 HEADER_LEN) (omega (arith, length-range d 0 HEADER_LEN (omega (arith, whole.size)))) torn small;
          size = inr whole.size;
          extents = old.extents;
          slots = slots;
          sealed = old.sealed;
        }
        | inr other ↦ inr record {
          version = record { other = other; small = small; second = in_header d SECOND_MARK 8 (omega arith) ∙ whole.mark };
          size = whole.size;
          slots = slots_old p.room p.number p.text p.files (range d SLOT_ZERO SLOT_LEN) (map_zero p.room d) (range d SLOT_ONE SLOT_LEN) (map_one p.room d) old.extents slots;
          sealed = no_seals p.room p.seals d old.sealed whole.zeros;
        }
      ];
      journal = subst (IsJournal p.epoch p.plays p.floor) (sym (keeps JOURNAL JOURNAL_LEN (inr (inr (omega arith, omega arith))))) stands.journal;
      files = subst (AreFiles p.files) (sym (keeps DATA p.room (inr (inr (omega arith, omega arith))))) stands.files;
    }
  where
    near : (q l : ℕ) → (q + l ≤ 4) ⊎ ((8 ≤ q) × (q + l ≤ SECOND_MARK)) → (q + l ≤ 4) ⊎ (((5 ≤ q) × (q + l ≤ SECOND_MARK)) ⊎ ((SECOND_MARK + 8 ≤ q) × (q + l ≤ DATA + p.room)))
    near q l (inl low) = inl low
    near q l (inr high) = inr (inl (omega (arith, high.0), high.1))

    four : (h : List ℕ) → 4 < length h → get_or h 4 0 ≡ 1 → range h 5 3 ≡ 0 ∷ 0 ∷ 0 ∷ [] → IsOld h
    four h long byte rest = sym (range_more h 4 1 3) ∙ ap (λ (l : List ℕ). l ++ range h 5 3) (one_byte h 4 long ∙ ap (λ (b : ℕ). b ∷ []) byte) ∙ ap (λ (l : List ℕ). 1 ∷ [] ++ l) rest ∙ one_bytes

-- At every moment of the upgrade each image stands for the contents that it stood for
pub upgrading_stands : (p : Contents) (c d : List ℕ) → IsUpgrading p.room c d → IsFormat1 p.room p.number p.text p.files p.seals c → StandsFor p c → StandsFor p d
upgrading_stands p c d (inl still) old stands = still_stands p c d still stands old
upgrading_stands p c d (inr whole) old stands = new_stands p c d whole stands old
