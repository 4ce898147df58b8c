-- The first bytes of a header, as they were read.
use Rattle.std.proofs.Common.{◌≡◌, ℕ, ◌+◌, ◌≤◌, List, get_or, ◌∙◌, ap, arith, zero-add}
use Rattle.sg_disk.specs.View.{range}
use Rattle.sg_disk.proofs.Ranges.{byte_in}
use Rattle.sg_slots.specs.Bytes.{u32_at, u64_at}
use Rattle.sg_slots.proofs.SlotLemmas.{u32_in_range, u64_in_range}
use Rattle.sg_paged_slots.specs.Headers.{header_at, any_header_damage}

head_u32 : (c head : List ℕ) (p : ℕ) → head ≡ range c 0 40 → p + 4 ≤ 40 → u32_at head p ≡ u32_at c p
head_u32 c head p is le = ap (λ (l : List ℕ). u32_at l p) is ∙ u32_in_range c 0 40 p le ∙ ap (λ (k : ℕ). u32_at c k) (zero-add p)

head_u64 : (c head : List ℕ) (p : ℕ) → head ≡ range c 0 40 → p + 8 ≤ 40 → u64_at head p ≡ u64_at c p
head_u64 c head p is le = ap (λ (l : List ℕ). u64_at l p) is ∙ u64_in_range c 0 40 p le ∙ ap (λ (k : ℕ). u64_at c k) (zero-add p)

pub head_gate : (c head : List ℕ) → head ≡ range c 0 40 → get_or head 0 0 ≡ get_or c 0 0
head_gate c head is = ap (λ (l : List ℕ). get_or l 0 0) is ∙ byte_in c 0 40 0 (omega arith)

pub head_version : (c head : List ℕ) → head ≡ range c 0 40 → get_or head 4 0 ≡ get_or c 4 0
head_version c head is = ap (λ (l : List ℕ). get_or l 4 0) is ∙ byte_in c 0 40 4 (omega arith)

pub head_all : (c head : List ℕ) → head ≡ range c 0 40 → header_at head ≡ header_at c
head_all c head is =
    let version : u32_at head 4 ≡ u32_at c 4 = head_u32 c head 4 is (omega arith) in
    let display : u32_at head 16 ≡ u32_at c 16 = head_u32 c head 16 is (omega arith) in
    let epoch : u32_at head 20 ≡ u32_at c 20 = head_u32 c head 20 is (omega arith) in
    let room : u64_at head 24 ≡ u64_at c 24 = head_u64 c head 24 is (omega arith) in
    rw (version, display, epoch, room)

pub head_same : (size : ℕ) (c head : List ℕ) → head ≡ range c 0 40 → any_header_damage size head ≡ any_header_damage size c
head_same size c head is =
    let version : u32_at head 4 ≡ u32_at c 4 = head_u32 c head 4 is (omega arith) in
    let second : u64_at head 32 ≡ u64_at c 32 = head_u64 c head 32 is (omega arith) in
    let mark : u64_at head 8 ≡ u64_at c 8 = head_u64 c head 8 is (omega arith) in
    let display : u32_at head 16 ≡ u32_at c 16 = head_u32 c head 16 is (omega arith) in
    let epoch : u32_at head 20 ≡ u32_at c 20 = head_u32 c head 20 is (omega arith) in
    let room : u64_at head 24 ≡ u64_at c 24 = head_u64 c head 24 is (omega arith) in
    rw (version, second, mark, display, epoch, room)
