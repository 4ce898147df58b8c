-- The bytes of a new store, write by write.
use Rattle.std.proofs.Common.{◌≡◌, ◌⊎◌, inl, inr, ℕ, ◌+◌, ◌-◌, ◌*◌, ◌<◌, ◌≤◌, List, [], ◌∷◌, ◌^◌, length, get_or, replicate, codes, Result, Ok, Err, OnErr, refl, sym, ◌∙◌, ap, subst, arith, zero-add}
use Rattle.std.proofs.lemmas.Bool.{cases_lt}
use Rattle.std.proofs.lemmas.List.{length-replicate, get_or-replicate}
use Rattle.sg_disk.specs.View.{View, range, put, Torn, Written, Passed}
use Rattle.sg_disk.specs.Runs.{Ran}
use Rattle.sg_base.specs.declared.limits.TheConstants.{JOURNAL_RECORDS}
use Rattle.sg_disk.specs.declared.places.TheConstants.{DATA, HEADER_LEN, JOURNAL, JOURNAL_LEN, RECORD_LEN, SLOT_LEN, SLOT_ONE, SLOT_ZERO}
use Rattle.sg_disk.specs.Contents.{IsRoom, fresh}
use Rattle.sg_disk.specs.StandsFor.{le32, le64, IsHeader, StandsFor}
use Rattle.sg_disk.proofs.Fresh.{lawful_fresh, fresh_stands}
use Rattle.sg_disk.proofs.Ranges.{torn_none, torn_wider, torn_joined, put_is_torn, byte_kept, range_kept, range-range, byte_in, byte_put, length-put}
use Rattle.sg_disk.proofs.Moments.{ran_none, ran_one, ran_joined, ran_fewer}
use Rattle.sg_slots.specs.Bytes.{header_fields, AreZeros}
use Rattle.sg_disk.proofs.Parts.{byte_written, range_written}

-- zeros outside a range that is written
pub zeros_kept : (a l place n : ℕ) (c d : List ℕ) → Torn place n c d → (a + l ≤ place) ⊎ (place + n ≤ a) → AreZeros a l c → AreZeros a l d
zeros_kept a l place n c d torn (inl le) zeros p low high = byte_kept place n p c d torn (inl (omega (arith, le, high))) ∙ zeros p low high
zeros_kept a l place n c d torn (inr le) zeros p low high = byte_kept place n p c d torn (inr (omega (arith, le, low))) ∙ zeros p low high

-- one zero
pub zero_written : (c : List ℕ) (place : ℕ) → place + 1 ≤ length c → AreZeros place 1 (put c place (0 ∷ []))
zero_written c place fits p low high =
    let at : p ≡ place + 0 = omega arith in
    ap (λ (k : ℕ). get_or (put c place (0 ∷ [])) k 0) at ∙ byte_written c place 0 (0 ∷ []) fits (omega arith)

-- how far the journal has been cleared: its first n bytes are zeros
pub record Cleared (n : ℕ) (old new : View) : Type 0 where
  pub size : new.size ≡ old.size
  pub ran : Ran 0 old new
  pub torn : old.told → Torn JOURNAL JOURNAL_LEN old.bytes new.bytes
  pub zeros : old.told → AreZeros JOURNAL n new.bytes

pub cleared_none : (v : View) → Cleared 0 v v
cleared_none v = record {
  size = refl;
  ran = ran_none v;
  torn = λ told. torn_none JOURNAL JOURNAL_LEN v.bytes;
  zeros = λ told p low high. absurd (omega (arith, low, high));
}

-- one piece more
pub cleared_more : (n l : ℕ) (zeros : List ℕ) (old mid new : View) → zeros ≡ replicate l 0 → n + l ≤ JOURNAL_LEN → DATA ≤ old.size → new.size ≡ mid.size → Passed (Written (JOURNAL + n) zeros) (Torn (JOURNAL + n) (length zeros)) mid new → Cleared n old mid → Cleared (n + l) old new
cleared_more n l zeros old mid new is fits large size call so_far =
    let long : length zeros ≡ l = ap length is ∙ length-replicate l 0 in
    let ran : Ran 1 old new = ran_joined 0 1 old mid new so_far.ran (ran_one (Written (JOURNAL + n) zeros) (Torn (JOURNAL + n) (length zeros)) mid new call) in
    record {
      size = size ∙ so_far.size;
      ran = ran_fewer 1 0 old new (omega arith) ran;
      torn = λ told.
          let here = so_far.ran.told told in
          let whole : JOURNAL + n + length zeros ≤ length mid.bytes = omega (arith, mid.sized here, so_far.size, large, long, fits) in
          let one : Torn (JOURNAL + n) (length zeros) mid.bytes new.bytes = subst (λ (c : List ℕ). Torn (JOURNAL + n) (length zeros) mid.bytes c) (sym (call.bytes here)) (put_is_torn mid.bytes (JOURNAL + n) zeros whole) in
          torn_joined JOURNAL JOURNAL_LEN old.bytes mid.bytes new.bytes (so_far.torn told) (torn_wider (JOURNAL + n) (length zeros) JOURNAL JOURNAL_LEN mid.bytes new.bytes (omega arith) (omega (arith, long, fits)) one);
      zeros = λ told p low high.
          let here = so_far.ran.told told in
          let whole : JOURNAL + n + length zeros ≤ length mid.bytes = omega (arith, mid.sized here, so_far.size, large, long, fits) in
          subst (λ (c : List ℕ). get_or c p 0 ≡ 0) (sym (call.bytes here)) (elim (cases_lt p (JOURNAL + n)) [
            | inl before ↦ byte_kept (JOURNAL + n) (length zeros) p mid.bytes (put mid.bytes (JOURNAL + n) zeros) (put_is_torn mid.bytes (JOURNAL + n) zeros whole) (inl before) ∙ so_far.zeros told p low (omega (arith, before))
            | inr past ↦
                let at : p ≡ JOURNAL + n + (p - (JOURNAL + n)) = omega (arith, past) in
                let lt : p - (JOURNAL + n) < length zeros = omega (arith, past, high, long) in
                ap (λ (k : ℕ). get_or (put mid.bytes (JOURNAL + n) zeros) k 0) at ∙ byte_written mid.bytes (JOURNAL + n) (p - (JOURNAL + n)) zeros whole lt ∙ ap (λ (l : List ℕ). get_or l (p - (JOURNAL + n)) 0) is ∙ get_or-replicate l (p - (JOURNAL + n)) 0 0 (omega (arith, lt, long))
          ]);
    }

-- the closing of both slots, and of the journal behind it
pub slots_cleared : (v w x : View) (start : View) → start.told → (start.told → v.told) → DATA ≤ v.size → w.size ≡ v.size → Passed (Written SLOT_ZERO (0 ∷ [])) (Torn SLOT_ZERO 1) v w → Passed (Written SLOT_ONE (0 ∷ [])) (Torn SLOT_ONE 1) w x → AreZeros SLOT_ZERO 1 x.bytes × AreZeros SLOT_ONE 1 x.bytes
slots_cleared v w x start told tells large size first second =
    let here : v.told = tells told in
    let there : w.told = first.told here in
    let fits : SLOT_ZERO + 1 ≤ length v.bytes = omega (arith, v.sized here, large) in
    let again : SLOT_ONE + 1 ≤ length w.bytes = omega (arith, w.sized there, size, large) in
    let zero : AreZeros SLOT_ZERO 1 w.bytes = subst (λ (c : List ℕ). AreZeros SLOT_ZERO 1 c) (sym (first.bytes here)) (zero_written v.bytes SLOT_ZERO fits) in
    let torn : Torn SLOT_ONE 1 w.bytes x.bytes = subst (λ (c : List ℕ). Torn SLOT_ONE 1 w.bytes c) (sym (second.bytes there)) (put_is_torn w.bytes SLOT_ONE (0 ∷ []) again) in (
      zeros_kept SLOT_ZERO 1 SLOT_ONE 1 w.bytes x.bytes torn (inl (omega arith)) zero,
      subst (λ (c : List ℕ). AreZeros SLOT_ONE 1 c) (sym (second.bytes there)) (zero_written w.bytes SLOT_ONE again),
    )

-- an area of zeros has no open gate
pub zero_closed : (a l place : ℕ) (c : List ℕ) → place < l → AreZeros (a + place) 1 c → get_or (range c a l) place 0 ≡ 1 → ⊥
zero_closed a l place c lt zeros opened = absurd (omega (arith, opened, byte_in c a l place lt, zeros (a + place) (omega arith) (omega arith)))

-- the fields of a header, one behind another
pub header_long : (display epoch room : ℕ) → length (header_fields display epoch room) ≡ 28
unfolding header_fields le32 le64
header_long display epoch room = refl

field_0 : (display epoch room : ℕ) → range (header_fields display epoch room) 0 4 ≡ le32 1
unfolding header_fields le32 le64 range
field_0 display epoch room = refl

field_4 : (display epoch room : ℕ) → range (header_fields display epoch room) 4 8 ≡ codes "SGNSTORE"
unfolding header_fields le32 le64 range
field_4 display epoch room = refl

field_12 : (display epoch room : ℕ) → range (header_fields display epoch room) 12 4 ≡ le32 display
unfolding header_fields le32 le64 range
field_12 display epoch room = refl

field_16 : (display epoch room : ℕ) → range (header_fields display epoch room) 16 4 ≡ le32 epoch
unfolding header_fields le32 le64 range
field_16 display epoch room = refl

field_20 : (display epoch room : ℕ) → range (header_fields display epoch room) 20 8 ≡ le64 room
unfolding header_fields le32 le64 range
field_20 display epoch room = refl

-- a header that stands behind an open gate
pub header_written : (display epoch room : ℕ) (c : List ℕ) → DATA ≤ length c → IsHeader display epoch room (range (put (put c 4 (header_fields display epoch room)) 0 (1 ∷ [])) 0 HEADER_LEN)
header_written display epoch room c large =
    let fields : List ℕ = header_fields display epoch room in
    let long : length fields ≡ 28 = header_long display epoch room in
    let first : List ℕ = put c 4 fields in
    let whole : List ℕ = put first 0 (1 ∷ []) in
    let same : length first ≡ length c = length-put c 4 fields (omega (arith, long, large)) in
    let torn : Torn 0 1 first whole = put_is_torn first 0 (1 ∷ []) (omega (arith, same, large)) in
    let at : (p n : ℕ) → p + n ≤ 28 → range (range whole 0 HEADER_LEN) (4 + p) n ≡ range fields p n = λ p n le.
    range-range whole 0 HEADER_LEN (4 + p) n (omega (arith, le)) ∙ ap (λ (k : ℕ). range whole k n) (zero-add (4 + p)) ∙ range_kept 0 1 (4 + p) n first whole torn (inr (omega arith)) ∙ range_written c 4 p n fields (omega (arith, long, large)) (omega (arith, le, long)) in
    record {
      gate = byte_in whole 0 HEADER_LEN 0 (omega arith) ∙ byte_put first 0 1 (omega (arith, same, large));
      version = at 0 4 (omega arith) ∙ field_0 display epoch room;
      mark = at 4 8 (omega arith) ∙ field_4 display epoch room;
      display_is = at 12 4 (omega arith) ∙ field_12 display epoch room;
      epoch_is = at 16 4 (omega arith) ∙ field_16 display epoch room;
      room_is = at 20 8 (omega arith) ∙ field_20 display epoch room;
    }

-- a header over closed gates stands for a new store
pub fresh_written : (display epoch room : ℕ) (c : List ℕ) → (1 ≤ display) × (display < 2 ^ 32) → (1 ≤ epoch) × (epoch ≤ 65535) → IsRoom room → length c ≡ DATA + room → AreZeros SLOT_ZERO 1 c → AreZeros SLOT_ONE 1 c → AreZeros JOURNAL JOURNAL_LEN c → StandsFor (fresh display epoch room) (put (put c 4 (header_fields display epoch room)) 0 (1 ∷ []))
fresh_written display epoch room c display_ok epoch_ok room_ok size zero one journal =
    let fields : List ℕ = header_fields display epoch room in
    let long : length fields ≡ 28 = header_long display epoch room in
    let first : List ℕ = put c 4 fields in
    let whole : List ℕ = put first 0 (1 ∷ []) in
    let same : length first ≡ length c = length-put c 4 fields (omega (arith, long, size)) in
    let torn : Torn 4 (length fields) c first = put_is_torn c 4 fields (omega (arith, long, size)) in
    let then : Torn 0 1 first whole = put_is_torn first 0 (1 ∷ []) (omega (arith, same, size)) in
    let kept : (a l : ℕ) → 32 ≤ a → AreZeros a l c → AreZeros a l whole = λ a l le zeros. zeros_kept a l 0 1 first whole then (inr (omega (arith, le))) (zeros_kept a l 4 (length fields) c first torn (inr (omega (arith, le, long))) zeros) in
    fresh_stands display epoch room whole (lawful_fresh display epoch room display_ok (epoch_ok.0, omega (arith, epoch_ok.1)) room_ok) (then.same_length ∙ same ∙ size)
    (header_written display epoch room c (omega (arith, size)))
    (zero_closed SLOT_ZERO SLOT_LEN 0 whole (omega arith) (kept SLOT_ZERO 1 (omega arith) zero))
    (zero_closed SLOT_ONE SLOT_LEN 0 whole (omega arith) (kept SLOT_ONE 1 (omega arith) one))
    (λ k lt. zero_closed JOURNAL JOURNAL_LEN (RECORD_LEN * k) whole (omega (arith, lt)) (part k lt whole (kept JOURNAL JOURNAL_LEN (omega arith) journal)))
  where
    part : (k : ℕ) → k < JOURNAL_RECORDS → (d : List ℕ) → AreZeros JOURNAL JOURNAL_LEN d → AreZeros (JOURNAL + RECORD_LEN * k) 1 d
    part k lt d zeros p low high = zeros p (omega (arith, low)) (omega (arith, high, lt))

-- a clause on an answer that is an `Err`, where its fact holds in any case
pub on_err : {T E : Type 0} (r : Result T E) (P : Type 0) → P → OnErr r P
on_err (Ok x) P p = tt
on_err (Err e) P p = p
