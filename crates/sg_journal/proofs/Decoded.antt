-- What an opening reads from a record that holds a play.
use Rattle.std.proofs.Common.{◌≡◌, ◌≢◌, inl, inr, ℕ, ◌+◌, ◌-◌, ◌*◌, ◌%◌, ◌^◌, ◌<◌, ◌≤◌, Bool, true, false, not, cond, eqb, List, get_or, slice_index, Option, Some, None, refl, sym, ◌∙◌, ap, arith, eq-eqb, ◌==◌, if◌then◌else◌}
use Rattle.std.proofs.lemmas.Bool.{ne_eqb}
use Rattle.std.proofs.lemmas.Bool.Decides.{eqb_tells, nat_tests}
use Rattle.std.proofs.lemmas.Nat.{from_le_bytes-to_le_bytes_4}
use Rattle.std.specs.Int.{w32, from_le_bytes}
use Rattle.sg_base.specs.declared.play.PlayBody.{PlayBody}
use Rattle.sg_disk.specs.View.{range}
use Rattle.sg_disk.specs.Contents.{IsPlay}
use Rattle.sg_disk.specs.StandsFor.{le32, gate, body, fields}
use Rattle.sg_base.specs.declared.limits.TheConstants.{LAST_MOMENT, MAX_PLAYS, JOURNAL_RECORDS}
use Rattle.sg_disk.specs.declared.places.TheConstants.{RECORD_LEN}
use Rattle.sg_disk.proofs.Ranges.{range-range, byte_in}
use Rattle.sg_journal.specs.declared.record.Entry.{Entry}
use Rattle.sg_journal.specs.declared.record.Wrong.{Wrong}
use Rattle.sg_journal.specs.Records.{record_of, field, entry_of, is_own, wrong_play, wrong_of, wrong_at}

-- an open record with these fields
pub record IsRecord (epoch number : ℕ) (play : PlayBody) (bytes : List ℕ) : Type 0 where
  pub gate_is : slice_index bytes 0 ≡ 1
  pub number_is : field bytes 4 ≡ number
  pub event_is : field bytes 8 ≡ play.event
  pub layout_is : field bytes 12 ≡ play.layout
  pub from_is : field bytes 16 ≡ play.from
  pub to_is : field bytes 20 ≡ play.to
  pub epoch_is : field bytes 24 ≡ epoch

-- the gate of a record is its first byte
pub gate_first : (area : List ℕ) (k : ℕ) → slice_index (record_of area k) 0 ≡ gate area k
gate_first area k =
    let at : RECORD_LEN * k + 0 ≡ RECORD_LEN * k = omega arith in
    byte_in area (RECORD_LEN * k) RECORD_LEN 0 (omega arith) ∙ ap (λ (p : ℕ). get_or area p 0) at

number_back : (n : ℕ) → n < 2 ^ 32 → from_le_bytes w32 (le32 n) ≡ n
unfolding le32
number_back n small = from_le_bytes-to_le_bytes_4 n small

number_part : (epoch number : ℕ) (play : PlayBody) → range (fields epoch number play) 0 4 ≡ le32 number
unfolding range le32 fields
number_part epoch number play = refl

event_part : (epoch number : ℕ) (play : PlayBody) → range (fields epoch number play) 4 4 ≡ le32 play.event
unfolding range le32 fields
event_part epoch number play = refl

layout_part : (epoch number : ℕ) (play : PlayBody) → range (fields epoch number play) 8 4 ≡ le32 play.layout
unfolding range le32 fields
layout_part epoch number play = refl

from_part : (epoch number : ℕ) (play : PlayBody) → range (fields epoch number play) 12 4 ≡ le32 play.from
unfolding range le32 fields
from_part epoch number play = refl

to_part : (epoch number : ℕ) (play : PlayBody) → range (fields epoch number play) 16 4 ≡ le32 play.to
unfolding range le32 fields
to_part epoch number play = refl

epoch_part : (epoch number : ℕ) (play : PlayBody) → range (fields epoch number play) 20 4 ≡ le32 epoch
unfolding range le32 fields
epoch_part epoch number play = refl

-- a field of a record, from the bytes behind its gate
field_from : (area bytes : List ℕ) (k place q n : ℕ) → body area k ≡ bytes → place ≡ 4 + q → q + 4 ≤ 60 → range bytes q 4 ≡ le32 n → n < 2 ^ 32 → field (record_of area k) place ≡ n
field_from area bytes k place q n has at fits part small =
    let there : RECORD_LEN * k + place ≡ RECORD_LEN * k + 4 + q = omega (arith, at) in
    ap (λ (b : List ℕ). from_le_bytes w32 b)
    (range-range area (RECORD_LEN * k) RECORD_LEN place 4 (omega (arith, at, fits))
    ∙ ap (λ (p : ℕ). range area p 4) there
    ∙ sym (range-range area (RECORD_LEN * k + 4) 60 q 4 fits)
    ∙ ap (λ (b : List ℕ). range b q 4) has
    ∙ part)
    ∙ number_back n small

pub decoded : (epoch number k : ℕ) (play : PlayBody) (area : List ℕ) → number < 2 ^ 32 → epoch < 2 ^ 32 → IsPlay play → gate area k ≡ 1 → body area k ≡ fields epoch number play → IsRecord epoch number play (record_of area k)
decoded epoch number k play area number_small epoch_small is opened has =
    let bytes = fields epoch number play in
    let to_small : play.to < 2 ^ 32 = omega (arith, is.in_range) in
    let from_small : play.from < 2 ^ 32 = omega (arith, is.in_range, is.rises) in
    record {
      gate_is = gate_first area k ∙ opened;
      number_is = field_from area bytes k 4 0 number has (omega arith) (omega arith) (number_part epoch number play) number_small;
      event_is = field_from area bytes k 8 4 play.event has (omega arith) (omega arith) (event_part epoch number play) is.event;
      layout_is = field_from area bytes k 12 8 play.layout has (omega arith) (omega arith) (layout_part epoch number play) is.layout.1;
      from_is = field_from area bytes k 16 12 play.from has (omega arith) (omega arith) (from_part epoch number play) from_small;
      to_is = field_from area bytes k 20 16 play.to has (omega arith) (omega arith) (to_part epoch number play) to_small;
      epoch_is = field_from area bytes k 24 20 epoch has (omega arith) (omega arith) (epoch_part epoch number play) epoch_small;
    }

abbrev made : ℕ → ℕ → ℕ → ℕ → ℕ → Option Entry
made n event layout from to = Some (record { number = n; play = record { event = event; layout = layout; from = from; to = to } })

-- its entry
pub record_entry : (epoch number : ℕ) (play : PlayBody) (bytes : List ℕ) → IsRecord epoch number play bytes → entry_of bytes ≡ Some (record { number = number; play = play })
record_entry epoch number play bytes is =
    ap (λ (b : Bool). cond b (Some (record {
      number = field bytes 4;
      play = record { event = field bytes 8; layout = field bytes 12; from = field bytes 16; to = field bytes 20 };
    })) None) (eq-eqb (slice_index bytes 0) 1 is.gate_is)
    ∙ ap (λ (n : ℕ). made n (field bytes 8) (field bytes 12) (field bytes 16) (field bytes 20)) is.number_is
    ∙ ap (λ (n : ℕ). made number n (field bytes 12) (field bytes 16) (field bytes 20)) is.event_is
    ∙ ap (λ (n : ℕ). made number play.event n (field bytes 16) (field bytes 20)) is.layout_is
    ∙ ap (λ (n : ℕ). made number play.event play.layout n (field bytes 20)) is.from_is
    ∙ ap (λ (n : ℕ). made number play.event play.layout play.from n) is.to_is

-- the tests that an opening makes
own_true : (k number : ℕ) → 1 ≤ number → number ≤ MAX_PLAYS → (number - 1) % JOURNAL_RECORDS ≡ k → is_own k number ≡ true
own_true k number low high own = grind (arith, nat_tests)

pub own_parts : (k number : ℕ) → is_own k number ≡ true → (1 ≤ number) × (number ≤ MAX_PLAYS) × ((number - 1) % JOURNAL_RECORDS ≡ k)
own_parts k number own = grind (arith, nat_tests)

cond_no : {A : Type 0} (b : Bool) (x y : A) → b ≡ false → cond b x y ≡ y
cond_no b x y no_b = ap (λ (c : Bool). cond c x y) no_b

-- nothing is wrong with it
right_play : (bytes : List ℕ) → field bytes 16 < field bytes 20 → field bytes 20 ≤ LAST_MOMENT → 1 ≤ field bytes 12 → wrong_play bytes ≡ None
right_play bytes rises late layout = grind (arith, nat_tests)

pub right_record : (epoch number k : ℕ) (play : PlayBody) (bytes : List ℕ) → IsPlay play → 1 ≤ number → number ≤ MAX_PLAYS → (number - 1) % JOURNAL_RECORDS ≡ k → IsRecord epoch number play bytes → wrong_at epoch k bytes ≡ None
right_record epoch number k play bytes is low high own rec =
    let owns : is_own k (field bytes 4) ≡ true = own_true k (field bytes 4) (omega (arith, low, rec.number_is)) (omega (arith, high, rec.number_is)) (ap (λ (n : ℕ). (n - 1) % JOURNAL_RECORDS) rec.number_is ∙ own) in
    let same_epoch : eqb (field bytes 24) epoch ≡ true = eq-eqb (field bytes 24) epoch rec.epoch_is in
    let play_right = right_play bytes (omega (arith, rec.from_is, rec.to_is, is.rises)) (omega (arith, rec.to_is, is.in_range)) (omega (arith, rec.layout_is, is.layout.0)) in
    ap (λ (b : Bool). cond b (wrong_of epoch k bytes) None) (eq-eqb (slice_index bytes 0) 1 rec.gate_is)
    ∙ cond_no (not (is_own k (field bytes 4))) _ _ (ap (λ (b : Bool). not b) owns)
    ∙ cond_no (not (eqb (field bytes 24) epoch)) _ _ (ap (λ (b : Bool). not b) same_epoch)
    ∙ play_right

pub closed_right : (epoch k : ℕ) (bytes : List ℕ) → slice_index bytes 0 ≢ 1 → wrong_at epoch k bytes ≡ None
closed_right epoch k bytes shut = ap (λ (b : Bool). cond b (wrong_of epoch k bytes) None) (ne_eqb (slice_index bytes 0) 1 shut)

abbrev opened_entry : List ℕ → Entry
opened_entry b = record { number = field b 4; play = record { event = field b 8; layout = field b 12; from = field b 16; to = field b 20 } }

-- an entry is that of an open gate
pub entry_open : (bytes : List ℕ) (e : Entry) → entry_of bytes ≡ Some e → (slice_index bytes 0 ≡ 1) × (e.number ≡ field bytes 4)
entry_open bytes e is = elim (eqb_tells (slice_index bytes 0) 1) [
  | inl opened ↦
      let same : Some (opened_entry bytes) ≡ Some e = ap (λ (b : Bool). cond b (Some (opened_entry bytes)) None) (sym opened.0) ∙ is in
      let one : opened_entry bytes ≡ e = cc in
      (opened.1, ap (λ (d : Entry). d.number) (sym one))
  | inr shut ↦
      let gone : None ≡ Some e = ap (λ (b : Bool). cond b (Some (opened_entry bytes)) None) (sym shut.0) ∙ is in
      let bad : ⊥ = cc in
      absurd bad
]

abbrev wrong_number : List ℕ → Option Wrong
wrong_number bytes = Some (record { place = 4; found = field bytes 4 })

abbrev wrong_rest : ℕ → List ℕ → Option Wrong
wrong_rest epoch bytes = if not (field bytes 24 == epoch) then Some (record { place = 24; found = field bytes 24 }) else wrong_play bytes

-- a sound open record has a number of its own
pub sound_own : (epoch k : ℕ) (bytes : List ℕ) → slice_index bytes 0 ≡ 1 → wrong_at epoch k bytes ≡ None → is_own k (field bytes 4) ≡ true
sound_own epoch k bytes opened sound = go (is_own k (field bytes 4)) refl
  where
    inner : wrong_of epoch k bytes ≡ None
    inner = ap (λ (b : Bool). cond b (wrong_of epoch k bytes) None) (sym (eq-eqb (slice_index bytes 0) 1 opened)) ∙ sound

    go : (b : Bool) → is_own k (field bytes 4) ≡ b → is_own k (field bytes 4) ≡ true
    go true is = is
    go false is =
        let gone : wrong_number bytes ≡ None = ap (λ (b : Bool). cond (not b) (wrong_number bytes) (wrong_rest epoch bytes)) (sym is) ∙ inner in
        let bad : ⊥ = cc in
        absurd bad
