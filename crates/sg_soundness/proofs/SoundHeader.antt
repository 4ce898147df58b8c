-- The header of a disk that stands for contents has no fault.
use Rattle.std.proofs.Common.{◌≡◌, inl, inr, ℕ, ◌+◌, ◌%◌, ◌<◌, ◌≤◌, ◌==◌, nat_le, ◌&&◌, ◌||◌, Bool, true, false, List, [], ◌∷◌, ◌++◌, length, get_or, take, Option, None, codes, sym, ◌∙◌, ap, subst, arith}
use Rattle.std.specs.Int.{w32, w64, from_le_bytes}
use Rattle.std.proofs.Math.Seq.{drop-cons}
use Rattle.std.proofs.lemmas.Bool.{cases_Bool, and_from, le-leb, eq-eqb, ne_eqb}
use Rattle.sg_base.specs.declared.limits.TheConstants.{ROOM_UNIT, MAX_ROOM}
use Rattle.sg_disk.specs.View.{range}
use Rattle.sg_disk.specs.Contents.{StoredFile, Contents, IsRoom}
use Rattle.sg_disk.specs.declared.places.TheConstants.{HEADER_LEN, DATA, VERSION}
use Rattle.sg_disk.proofs.Parts.{range_more}
use Rattle.sg_slots.specs.Bytes.{u32_at, u64_at}
use Rattle.sg_slots.specs.Damage.{check, or_else, is_room}
use Rattle.sg_slots.proofs.HeaderLemmas.{header_number, header_long_number, header_mark}
use Rattle.sg_upgrade.specs.declared.places.TheConstants.{SECOND_MARK, WHOLE}
use Rattle.sg_paged_slots.specs.Headers.{header_at, is_version, is_store, fits_disk, fields_damage_of, any_header_damage}
use Rattle.sg_paged_slots.specs.declared.headers.Header.{Header}
use Rattle.sg_contents.specs.StandsFor.{IsOld, IsNew, IsFormat, StandsFor}
use Rattle.sg_contents.proofs.Formats.{in_header, header_byte}
use Rattle.sg_contents.proofs.Standing.{stands_long}
use Rattle.sg_soundness.proofs.SoundSlots.{passes, both_pass}

-- the number of a version of one byte
small_version : (b : ℕ) (four : List ℕ) → four ≡ b ∷ 0 ∷ 0 ∷ 0 ∷ [] → from_le_bytes w32 four ≡ b
small_version b four is = ap (λ (l : List ℕ). from_le_bytes w32 l) is ∙ omega arith

one_byte : (c : List ℕ) (p : ℕ) → p < length c → range c p 1 ≡ get_or c p 0 ∷ []
unfolding range
one_byte c p lt = ap (λ (l : List ℕ). take 1 l) (drop-cons c p 0 lt)

-- the version of the new format
pub new_version : (c : List ℕ) → 8 ≤ length c → range (range c 0 HEADER_LEN) 5 3 ≡ 0 ∷ 0 ∷ 0 ∷ [] → u32_at c 4 ≡ get_or c 4 0
unfolding u32_at
new_version c long rest =
    small_version (get_or c 4 0) (range c 4 4) (sym (range_more c 4 1 3) ∙ ap (λ (l : List ℕ). l ++ range c 5 3) (one_byte c 4 (omega (arith, long))) ∙ ap (λ (l : List ℕ). get_or c 4 0 ∷ [] ++ l) (sym (in_header c 5 3 (omega arith)) ∙ rest))

second_mark : (c : List ℕ) → range (range c 0 HEADER_LEN) SECOND_MARK 8 ≡ codes "SGNSTOR2" → u64_at c SECOND_MARK ≡ from_le_bytes w64 (codes "SGNSTOR2")
unfolding u64_at
second_mark c is = ap (λ (bs : List ℕ). from_le_bytes w64 bs) (sym (in_header c SECOND_MARK 8 (omega arith)) ∙ is)

or_second : (a b : Bool) → b ≡ true → (a || b) ≡ true
or_second a b is = elim (cases_Bool a) [
  | inl holds ↦ ap (λ (x : Bool). x || b) holds
  | inr fails ↦ ap (λ (x : Bool). x || b) fails ∙ is
]

version_passes : (room number : ℕ) (text : Option (List ℕ)) (files seals : List StoredFile) (c : List ℕ) → 8 ≤ length c → get_or c 4 0 < 256 → IsFormat room number text files seals c → is_version (u32_at c VERSION) (u64_at c SECOND_MARK) ≡ true
version_passes room number text files seals c long byte (inl old) =
    let one : u32_at c VERSION ≡ 1 = header_number c 4 1 (omega arith) (omega arith) old.version in
    ap (λ (b : Bool). b || (nat_le (u32_at c VERSION) 255 && u64_at c SECOND_MARK == from_le_bytes w64 (codes "SGNSTOR2"))) (eq-eqb (u32_at c VERSION) 1 one)
version_passes room number text files seals c long byte (inr new) =
    let is : u32_at c VERSION ≡ get_or c 4 0 = new_version c long new.version.small in
    or_second (u32_at c VERSION == 1) (nat_le (u32_at c VERSION) 255 && u64_at c SECOND_MARK == from_le_bytes w64 (codes "SGNSTOR2"))
    (and_from (nat_le (u32_at c VERSION) 255) (u64_at c SECOND_MARK == from_le_bytes w64 (codes "SGNSTOR2")) (le-leb (u32_at c VERSION) 255 (omega (arith, is, byte))) (eq-eqb (u64_at c SECOND_MARK) (from_le_bytes w64 (codes "SGNSTOR2")) (second_mark c new.version.second)))

-- which of the formats it is
pub version_old : (c : List ℕ) → IsOld (range c 0 HEADER_LEN) → (header_at c).old ≡ true
version_old c old = eq-eqb (u32_at c VERSION) 1 (header_number c 4 1 (omega arith) (omega arith) old)

pub version_new : (c : List ℕ) → 8 ≤ length c → IsNew (range c 0 HEADER_LEN) → (header_at c).old ≡ false
version_new c long new = ne_eqb (u32_at c VERSION) 1 (λ one. new.other (header_byte c 4 (omega arith) ∙ sym (new_version c long new.small) ∙ one))

fits_passes : (room number : ℕ) (text : Option (List ℕ)) (files seals : List StoredFile) (c : List ℕ) → (header_at c).format.room ≡ room → IsFormat room number text files seals c → fits_disk (length c) (header_at c) ≡ true
fits_passes room number text files seals c at (inr new) = ap (λ (b : Bool). b || ((header_at c).old && length c == DATA + (header_at c).format.room)) (eq-eqb (length c) (WHOLE + (header_at c).format.room) (new.size ∙ ap (λ (n : ℕ). WHOLE + n) (sym at)))
fits_passes room number text files seals c at (inl old) = elim old.size [
  | inr whole ↦ ap (λ (b : Bool). b || ((header_at c).old && length c == DATA + (header_at c).format.room)) (eq-eqb (length c) (WHOLE + (header_at c).format.room) (whole ∙ ap (λ (n : ℕ). WHOLE + n) (sym at)))
  | inl short ↦ or_second (length c == WHOLE + (header_at c).format.room) ((header_at c).old && length c == DATA + (header_at c).format.room) (and_from (header_at c).old (length c == DATA + (header_at c).format.room) (version_old c old.version) (eq-eqb (length c) (DATA + (header_at c).format.room) (short ∙ ap (λ (n : ℕ). DATA + n) (sym at))))
]

room_passes : (room : ℕ) → IsRoom room → is_room room ≡ true
room_passes room is = and_from (nat_le ROOM_UNIT room) (nat_le room MAX_ROOM && (room % ROOM_UNIT == 0)) (le-leb ROOM_UNIT room is.low) (and_from (nat_le room MAX_ROOM) (room % ROOM_UNIT == 0) (le-leb room MAX_ROOM is.high) (eq-eqb (room % ROOM_UNIT) 0 is.whole))

-- what the header of contents says
pub record Heads (p : Contents) (c : List ℕ) : Type 0 where
  pub display : (header_at c).format.display ≡ p.display
  pub epoch : (header_at c).format.epoch ≡ p.epoch
  pub room : (header_at c).format.room ≡ p.room

pub header_says : (p : Contents) (c : List ℕ) → StandsFor p c → Heads p c
header_says p c stands = record {
  display = header_number c 16 p.display (omega arith) stands.lawful.display.1 stands.header.display_is;
  epoch = header_number c 20 p.epoch (omega arith) stands.lawful.epoch.1 stands.header.epoch_is;
  room = header_long_number c 24 p.room (omega arith) (omega (arith, stands.lawful.room.high)) stands.header.room_is;
}

-- a header that stands for contents, where its version is a byte
pub header_undamaged : (p : Contents) (c : List ℕ) → get_or c 4 0 < 256 → StandsFor p c → any_header_damage (length c) c ≡ None
header_undamaged p c byte stands =
    let lawful = stands.lawful in
    let says = header_says p c stands in
    let h : Header = header_at c in
    let large = stands_long p c stands in
    both_pass (check (is_version (u32_at c VERSION) (u64_at c SECOND_MARK)) VERSION (u32_at c VERSION)) (or_else (check (is_store (u64_at c 8)) 8 (u64_at c 8)) (fields_damage_of (length c) h))
    (passes (is_version (u32_at c VERSION) (u64_at c SECOND_MARK)) VERSION (u32_at c VERSION) (version_passes p.room p.number p.text p.files p.seals c (omega (arith, large)) byte stands.format))
    (both_pass (check (is_store (u64_at c 8)) 8 (u64_at c 8)) (fields_damage_of (length c) h)
    (passes (is_store (u64_at c 8)) 8 (u64_at c 8) (eq-eqb (u64_at c 8) (from_le_bytes w64 (codes "SGNSTORE")) (header_mark c stands.header.mark)))
    (both_pass (check (nat_le 1 h.format.display) 16 h.format.display) (or_else (check (nat_le 1 h.format.epoch) 20 h.format.epoch) (check (is_room h.format.room && fits_disk (length c) h) 24 h.format.room))
    (passes (nat_le 1 h.format.display) 16 h.format.display (le-leb 1 h.format.display (omega (arith, says.display, lawful.display.0))))
    (both_pass (check (nat_le 1 h.format.epoch) 20 h.format.epoch) (check (is_room h.format.room && fits_disk (length c) h) 24 h.format.room)
    (passes (nat_le 1 h.format.epoch) 20 h.format.epoch (le-leb 1 h.format.epoch (omega (arith, says.epoch, lawful.epoch.0))))
    (passes (is_room h.format.room && fits_disk (length c) h) 24 h.format.room (and_from (is_room h.format.room) (fits_disk (length c) h) (room_passes h.format.room (subst IsRoom (sym says.room) lawful.room)) (fits_passes p.room p.number p.text p.files p.seals c says.room stands.format))))))
