-- A header that was read is the disk's, and what it says on a disk that stands for contents.
use Rattle.std.proofs.Common.{◌≡◌, ℕ, ◌+◌, ◌^◌, ◌<◌, ◌≤◌, List, get_or, codes, sym, ◌∙◌, ap, arith, zero-add}
use Rattle.std.specs.Int.{w64, from_le_bytes}
use Rattle.sg_disk.specs.View.{range}
use Rattle.sg_disk.specs.StandsFor.{le32, le64}
use Rattle.sg_disk.specs.declared.places.TheConstants.{HEADER_LEN}
use Rattle.sg_disk.proofs.Ranges.{range-range, byte_in}
use Rattle.sg_slots.specs.Bytes.{u32_at, u64_at}
use Rattle.sg_slots.specs.Damage.{header_damage}
use Rattle.sg_slots.proofs.SlotLemmas.{u32_in_range, u64_in_range}
use Rattle.sg_slots.proofs.TableLemmas.{number_at, long_at}

pub header_u32 : (c head : List ℕ) (p : ℕ) → head ≡ range c 0 32 → p + 4 ≤ 32 → u32_at head p ≡ u32_at c p
header_u32 c head p is le = ap (λ (l : List ℕ). u32_at l p) is ∙ u32_in_range c 0 32 p le ∙ ap (λ (k : ℕ). u32_at c k) (zero-add p)

pub header_u64 : (c head : List ℕ) (p : ℕ) → head ≡ range c 0 32 → p + 8 ≤ 32 → u64_at head p ≡ u64_at c p
header_u64 c head p is le = ap (λ (l : List ℕ). u64_at l p) is ∙ u64_in_range c 0 32 p le ∙ ap (λ (k : ℕ). u64_at c k) (zero-add p)

pub header_gate : (c head : List ℕ) → head ≡ range c 0 32 → get_or head 0 0 ≡ get_or c 0 0
header_gate c head is = ap (λ (l : List ℕ). get_or l 0 0) is ∙ byte_in c 0 32 0 (omega arith)

pub header_same : (size : ℕ) (c head : List ℕ) → head ≡ range c 0 32 → header_damage size head ≡ header_damage size c
header_same size c head is =
    let version : u32_at head 4 ≡ u32_at c 4 = header_u32 c head 4 is (omega arith) in
    let mark : u64_at head 8 ≡ u64_at c 8 = header_u64 c head 8 is (omega arith) in
    let display : u32_at head 16 ≡ u32_at c 16 = header_u32 c head 16 is (omega arith) in
    let epoch : u32_at head 20 ≡ u32_at c 20 = header_u32 c head 20 is (omega arith) in
    let room : u64_at head 24 ≡ u64_at c 24 = header_u64 c head 24 is (omega arith) in
    rw (version, mark, display, epoch, room)

-- a number of the header
pub header_number : (c : List ℕ) (p n : ℕ) → p + 4 ≤ HEADER_LEN → n < 2 ^ 32 → range (range c 0 HEADER_LEN) p 4 ≡ le32 n → u32_at c p ≡ n
header_number c p n le lt is = number_at c p n lt (sym (ap (λ (k : ℕ). range c k 4) (zero-add p)) ∙ sym (range-range c 0 HEADER_LEN p 4 le) ∙ is)

pub header_long_number : (c : List ℕ) (p n : ℕ) → p + 8 ≤ HEADER_LEN → n < 2 ^ 64 → range (range c 0 HEADER_LEN) p 8 ≡ le64 n → u64_at c p ≡ n
header_long_number c p n le lt is = long_at c p n lt (sym (ap (λ (k : ℕ). range c k 8) (zero-add p)) ∙ sym (range-range c 0 HEADER_LEN p 8 le) ∙ is)

-- its mark
pub header_mark : (c : List ℕ) → range (range c 0 HEADER_LEN) 8 8 ≡ codes "SGNSTORE" → u64_at c 8 ≡ from_le_bytes w64 (codes "SGNSTORE")
unfolding u64_at
header_mark c is = ap (λ (bs : List ℕ). from_le_bytes w64 bs) (sym (range-range c 0 HEADER_LEN 8 8 (omega arith)) ∙ is)

-- its gate
pub header_open : (c : List ℕ) → get_or (range c 0 HEADER_LEN) 0 0 ≡ 1 → get_or c 0 0 ≡ 1
header_open c opened = sym (byte_in c 0 HEADER_LEN 0 (omega arith)) ∙ opened
