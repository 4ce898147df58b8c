-- The bytes of a new store, write by write.
use Rattle.std.proofs.Common.{◌≡◌, inl, inr, ℕ, ◌+◌, ◌-◌, ◌*◌, ◌<◌, ◌≤◌, List, [], ◌∷◌, ◌^◌, length, get_or, replicate, codes, refl, sym, ◌∙◌, ap, subst, arith, zero-add}
use Rattle.std.proofs.lemmas.Bool.{cases_lt}
use Rattle.std.proofs.lemmas.List.{get_or-replicate}
use Rattle.sg_base.specs.declared.limits.TheConstants.{JOURNAL_RECORDS}
use Rattle.sg_disk.specs.View.{View, range, put, Torn, Written, Passed}
use Rattle.sg_disk.specs.Runs.{Ran}
use Rattle.sg_disk.specs.Contents.{IsRoom, fresh}
use Rattle.sg_disk.specs.StandsFor.{le32, le64}
use Rattle.sg_disk.specs.declared.places.TheConstants.{DATA, HEADER_LEN, JOURNAL, JOURNAL_LEN, RECORD_LEN, SLOT_LEN, SLOT_ONE, SLOT_ZERO}
use Rattle.sg_disk.proofs.Ranges.{torn_none, torn_wider, torn_joined, put_is_torn, byte_kept, byte_in, byte_put, length-put, range_kept}
use Rattle.sg_disk.proofs.Moments.{ran_none, ran_one, ran_joined, ran_fewer}
use Rattle.sg_disk.proofs.Parts.{byte_written, range_written}
use Rattle.sg_pages.specs.declared.maps.TheConstants.{MAP_LEN}
use Rattle.sg_slots.specs.Bytes.{AreZeros}
use Rattle.sg_upgrade.proofs.ClearLemmas.{zeros_outside, zeros_long}
use Rattle.sg_contents.specs.StandsFor.{IsHeader, IsNew, StandsFor, disk_len}
use Rattle.sg_contents.specs.declared.places.TheConstants.{SEALS, SEAL_LEN, SEALS_LEN}
use Rattle.sg_contents.proofs.Formats.{in_header, header_byte}
use Rattle.sg_contents.proofs.Fresh.{lawful_fresh, fresh_stands}
use Rattle.sg_format.specs.Formatting.{new_header}

-- one zero
pub zero_written : (c : List ℕ) (place : ℕ) → place + 1 ≤ length c → AreZeros place 1 (put c place (0 ∷ []))
zero_written c place fits p low high =
    let at : p ≡ place + 0 = omega arith in
    ap (λ (k : ℕ). get_or (put c place (0 ∷ [])) k 0) at ∙ byte_written c place 0 (0 ∷ []) fits (omega arith)

-- how far an area has been cleared: its first n bytes are zeros
pub record Cleared (a whole n : ℕ) (old new : View) : Type 0 where
  pub size : new.size ≡ old.size
  pub ran : Ran 0 old new
  pub torn : old.told → Torn a whole old.bytes new.bytes
  pub zeros : old.told → AreZeros a n new.bytes

pub cleared_none : (a whole : ℕ) (v : View) → Cleared a whole 0 v v
cleared_none a whole v = record {
  size = refl;
  ran = ran_none v;
  torn = λ told. torn_none a whole v.bytes;
  zeros = λ told p low high. absurd (omega (arith, low, high));
}

-- one piece more
pub cleared_more : (a whole n l : ℕ) (zeros : List ℕ) (old mid new : View) → zeros ≡ replicate l 0 → n + l ≤ whole → a + whole ≤ old.size → new.size ≡ mid.size → Passed (Written (a + n) zeros) (Torn (a + n) (length zeros)) mid new → Cleared a whole n old mid → Cleared a whole (n + l) old new
cleared_more a whole n l zeros old mid new is fits large size call so_far =
    let long : length zeros ≡ l = zeros_long l zeros is in
    let ran : Ran 1 old new = ran_joined 0 1 old mid new so_far.ran (ran_one (Written (a + n) zeros) (Torn (a + n) (length zeros)) mid new call) in
    let room : old.told → a + n + length zeros ≤ length mid.bytes = λ told. omega (arith, mid.sized (so_far.ran.told told), so_far.size, large, long, fits) in
    record {
      size = size ∙ so_far.size;
      ran = ran_fewer 1 0 old new (omega arith) ran;
      torn = λ told.
          let here = so_far.ran.told told in
          let one : Torn (a + n) (length zeros) mid.bytes new.bytes = subst (λ (c : List ℕ). Torn (a + n) (length zeros) mid.bytes c) (sym (call.bytes here)) (put_is_torn mid.bytes (a + n) zeros (room told)) in
          torn_joined a whole old.bytes mid.bytes new.bytes (so_far.torn told) (torn_wider (a + n) (length zeros) a whole mid.bytes new.bytes (omega arith) (omega (arith, long, fits)) one);
      zeros = λ told p low high.
          let here = so_far.ran.told told in
          subst (λ (c : List ℕ). get_or c p 0 ≡ 0) (sym (call.bytes here)) (elim (cases_lt p (a + n)) [
            | inl before ↦ byte_kept (a + n) (length zeros) p mid.bytes (put mid.bytes (a + n) zeros) (put_is_torn mid.bytes (a + n) zeros (room told)) (inl before) ∙ so_far.zeros told p low (omega (arith, before))
            | inr past ↦
                let at : p ≡ a + n + (p - (a + n)) = omega (arith, past) in
                let lt : p - (a + n) < length zeros = omega (arith, past, high, long) in
                ap (λ (k : ℕ). get_or (put mid.bytes (a + n) zeros) k 0) at ∙ byte_written mid.bytes (a + n) (p - (a + n)) zeros (room told) lt ∙ ap (λ (l : List ℕ). get_or l (p - (a + n)) 0) is ∙ get_or-replicate l (p - (a + n)) 0 0 (omega (arith, lt, long))
          ]);
    }

-- the closing of both slots
pub slots_closed : (v w x : View) → v.told → DATA ≤ v.size → w.size ≡ v.size → Passed (Written SLOT_ZERO (0 ∷ [])) (Torn SLOT_ZERO 1) v w → Passed (Written SLOT_ONE (0 ∷ [])) (Torn SLOT_ONE 1) w x → AreZeros SLOT_ZERO 1 x.bytes × AreZeros SLOT_ONE 1 x.bytes
slots_closed v w x told large size first second =
    let there : w.told = first.told told in
    let fits : SLOT_ZERO + 1 ≤ length v.bytes = omega (arith, v.sized told, large) in
    let again : SLOT_ONE + 1 ≤ length w.bytes = omega (arith, w.sized there, size, large) in
    let zero : AreZeros SLOT_ZERO 1 w.bytes = subst (λ (c : List ℕ). AreZeros SLOT_ZERO 1 c) (sym (first.bytes told)) (zero_written v.bytes SLOT_ZERO fits) in
    let torn : Torn SLOT_ONE 1 w.bytes x.bytes = subst (λ (c : List ℕ). Torn SLOT_ONE 1 w.bytes c) (sym (second.bytes there)) (put_is_torn w.bytes SLOT_ONE (0 ∷ []) again) in (
      zeros_outside SLOT_ZERO 1 SLOT_ONE 1 w.bytes x.bytes torn (inl (omega arith)) zero,
      subst (λ (c : List ℕ). AreZeros SLOT_ONE 1 c) (sym (second.bytes there)) (zero_written w.bytes SLOT_ONE again),
    )

-- a gate in an area of zeros isn't open
pub zero_closed : (a l place : ℕ) (c : List ℕ) → place < l → AreZeros (a + place) 1 c → get_or (range c a l) place 0 ≡ 1 → ⊥
zero_closed a l place c lt zeros opened = absurd (omega (arith, opened, byte_in c a l place lt, zeros (a + place) (omega arith) (omega arith)))

-- one byte of an area of zeros
zero_in : (a l place : ℕ) (c : List ℕ) → place < l → AreZeros a l c → AreZeros (a + place) 1 c
zero_in a l place c lt zeros p low high = zeros p (omega (arith, low)) (omega (arith, high, lt))

-- the fields of a header, one behind another
pub header_long : (display epoch room : ℕ) → length (new_header display epoch room) ≡ 36
unfolding new_header le32 le64
header_long display epoch room = refl

field_0 : (display epoch room : ℕ) → range (new_header display epoch room) 0 4 ≡ 2 ∷ 0 ∷ 0 ∷ 0 ∷ []
unfolding new_header le32 le64 range
field_0 display epoch room = refl

field_4 : (display epoch room : ℕ) → range (new_header display epoch room) 4 8 ≡ codes "SGNSTORE"
unfolding new_header le32 le64 range
field_4 display epoch room = refl

field_12 : (display epoch room : ℕ) → range (new_header display epoch room) 12 4 ≡ le32 display
unfolding new_header le32 le64 range
field_12 display epoch room = refl

field_16 : (display epoch room : ℕ) → range (new_header display epoch room) 16 4 ≡ le32 epoch
unfolding new_header le32 le64 range
field_16 display epoch room = refl

field_20 : (display epoch room : ℕ) → range (new_header display epoch room) 20 8 ≡ le64 room
unfolding new_header le32 le64 range
field_20 display epoch room = refl

field_28 : (display epoch room : ℕ) → range (new_header display epoch room) 28 8 ≡ codes "SGNSTOR2"
unfolding new_header le32 le64 range
field_28 display epoch room = refl

field_1 : (display epoch room : ℕ) → range (new_header display epoch room) 1 3 ≡ 0 ∷ 0 ∷ 0 ∷ []
unfolding new_header le32 le64 range
field_1 display epoch room = refl

-- a disk after its header was written, and the gate opened
abbrev pub headed : ℕ → ℕ → ℕ → List ℕ → List ℕ
headed display epoch room c = put (put c 4 (new_header display epoch room)) 0 (1 ∷ [])

-- what stands behind the header's fields is kept
pub headed_torn : (display epoch room : ℕ) (c : List ℕ) → DATA ≤ length c → Torn 0 40 c (headed display epoch room c)
headed_torn display epoch room c large =
    let fields : List ℕ = new_header display epoch room in
    let long : length fields ≡ 36 = header_long display epoch room in
    let first : List ℕ = put c 4 fields in
    let same : length first ≡ length c = length-put c 4 fields (omega (arith, long, large)) in
    torn_joined 0 40 c first (put first 0 (1 ∷ []))
    (torn_wider 4 (length fields) 0 40 c first (omega arith) (omega (arith, long)) (put_is_torn c 4 fields (omega (arith, long, large))))
    (torn_wider 0 1 0 40 first (put first 0 (1 ∷ [])) (omega arith) (omega arith) (put_is_torn first 0 (1 ∷ []) (omega (arith, same, large))))

-- a part of the fields, in the header
header_part : (display epoch room : ℕ) (c : List ℕ) (p n : ℕ) → DATA ≤ length c → p + n ≤ 36 → range (range (headed display epoch room c) 0 HEADER_LEN) (4 + p) n ≡ range (new_header display epoch room) p n
header_part display epoch room c p n large le =
    let fields : List ℕ = new_header display epoch room in
    let long : length fields ≡ 36 = header_long display epoch room in
    let first : List ℕ = put c 4 fields in
    let whole : List ℕ = headed display epoch room c in
    let same : length first ≡ length c = length-put c 4 fields (omega (arith, long, large)) in
    let torn : Torn 0 1 first whole = put_is_torn first 0 (1 ∷ []) (omega (arith, same, large)) in
    in_header whole (4 + p) n (omega (arith, le)) ∙ range_kept 0 1 (4 + p) n first whole torn (inr (omega arith)) ∙ range_written c 4 p n fields (omega (arith, long, large)) (omega (arith, le, long))

header_open : (display epoch room : ℕ) (c : List ℕ) → DATA ≤ length c → get_or (range (headed display epoch room c) 0 HEADER_LEN) 0 0 ≡ 1
header_open display epoch room c large =
    let fields : List ℕ = new_header display epoch room in
    let long : length fields ≡ 36 = header_long display epoch room in
    let same : length (put c 4 fields) ≡ length c = length-put c 4 fields (omega (arith, long, large)) in
    header_byte (headed display epoch room c) 0 (omega arith) ∙ byte_put (put c 4 fields) 0 1 (omega (arith, same, large))

-- a header that stands behind an open gate
header_written : (display epoch room : ℕ) (c : List ℕ) → DATA ≤ length c → IsHeader display epoch room (range (headed display epoch room c) 0 HEADER_LEN)
header_written display epoch room c large = record {
  gate = header_open display epoch room c large;
  mark = header_part display epoch room c 4 8 large (omega arith) ∙ field_4 display epoch room;
  display_is = header_part display epoch room c 12 4 large (omega arith) ∙ field_12 display epoch room;
  epoch_is = header_part display epoch room c 16 4 large (omega arith) ∙ field_16 display epoch room;
  room_is = header_part display epoch room c 20 8 large (omega arith) ∙ field_20 display epoch room;
}

first_two : (h : List ℕ) → range h 4 4 ≡ 2 ∷ 0 ∷ 0 ∷ 0 ∷ [] → get_or h 4 0 ≡ 2
first_two h is = sym (byte_in h 4 4 0 (omega arith)) ∙ ap (λ (l : List ℕ). get_or l 0 0) is

-- it is one of the new format
header_new : (display epoch room : ℕ) (c : List ℕ) → DATA ≤ length c → IsNew (range (headed display epoch room c) 0 HEADER_LEN)
header_new display epoch room c large = record {
  other = λ one.
      let two : get_or (range (headed display epoch room c) 0 HEADER_LEN) 4 0 ≡ 2 = first_two (range (headed display epoch room c) 0 HEADER_LEN) (header_part display epoch room c 0 4 large (omega arith) ∙ field_0 display epoch room) in
      absurd (omega (arith, one, two));
  small = header_part display epoch room c 1 3 large (omega arith) ∙ field_1 display epoch room;
  second = header_part display epoch room c 28 8 large (omega arith) ∙ field_28 display epoch room;
}

-- a header over closed gates stands for a new store
pub fresh_written : (display epoch room : ℕ) (c : List ℕ) → (1 ≤ display) × (display < 2 ^ 32) → (1 ≤ epoch) × (epoch ≤ 65535) → IsRoom room → length c ≡ disk_len room → AreZeros SLOT_ZERO 1 c → AreZeros SLOT_ONE 1 c → AreZeros JOURNAL JOURNAL_LEN c → AreZeros (DATA + room + 2 * MAP_LEN) SEALS_LEN c → StandsFor (fresh display epoch room) (headed display epoch room c)
fresh_written display epoch room c display_ok epoch_ok room_ok size zero one journal seals =
    let whole : List ℕ = headed display epoch room c in
    let large : DATA ≤ length c = omega (arith, size) in
    let torn : Torn 0 40 c whole = headed_torn display epoch room c large in
    let kept : (a l : ℕ) → 40 ≤ a → AreZeros a l c → AreZeros a l whole = λ a l le zeros. zeros_outside a l 0 40 c whole torn (inr (omega (arith, le))) zeros in
    let area : ℕ = DATA + room + 2 * MAP_LEN in
    fresh_stands display epoch room whole (lawful_fresh display epoch room display_ok (epoch_ok.0, omega (arith, epoch_ok.1)) room_ok) (torn.same_length ∙ size)
    (header_written display epoch room c large)
    (header_new display epoch room c large)
    (zero_closed SLOT_ZERO SLOT_LEN 0 whole (omega arith) (kept SLOT_ZERO 1 (omega arith) zero))
    (zero_closed SLOT_ONE SLOT_LEN 0 whole (omega arith) (kept SLOT_ONE 1 (omega arith) one))
    (λ k lt. zero_closed JOURNAL JOURNAL_LEN (RECORD_LEN * k) whole (omega (arith, lt)) (zero_in JOURNAL JOURNAL_LEN (RECORD_LEN * k) whole (omega (arith, lt)) (kept JOURNAL JOURNAL_LEN (omega arith) journal)))
    (λ k lt. zero_closed area SEALS_LEN (SEAL_LEN * k) whole (omega (arith, lt)) (zero_in area SEALS_LEN (SEAL_LEN * k) whole (omega (arith, lt)) (kept area SEALS_LEN (omega arith) seals)))
