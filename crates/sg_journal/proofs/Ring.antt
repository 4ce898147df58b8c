-- One write in the ring, and the plays that its open records then hold.
use Rattle.std.proofs.Common.{◌≡◌, ◌≢◌, ◌⊎◌, inl, inr, ℕ, ◌+◌, ◌-◌, ◌*◌, ◌%◌, ◌<◌, ◌≤◌, List, [], ◌∷◌, ◌++◌, length, get_or, slice_get, Some, sym, ◌∙◌, ap, subst, arith}
use Rattle.std.proofs.lemmas.Bool.{cases_eq, cases_lt}
use Rattle.std.proofs.lemmas.List.{get_or_append_left, get_or_push, length_push}
use Rattle.std.proofs.lemmas.Option.{slice_get_within, slice_get-get_or, get_or_from_slice_get}
use Rattle.sg_base.specs.declared.play.PlayBody.{PlayBody}
use Rattle.sg_disk.specs.View.{Torn}
use Rattle.sg_disk.specs.StandsFor.{gate, body, fields, HoldsPlays}
use Rattle.sg_base.specs.declared.limits.TheConstants.{JOURNAL_RECORDS}
use Rattle.sg_disk.specs.declared.places.TheConstants.{RECORD_LEN}
use Rattle.sg_disk.proofs.Ranges.{byte_kept, range_kept}

-- a play of a longer list
get_longer : (plays : List PlayBody) (play one : PlayBody) (i : ℕ) → slice_get (plays ++ play ∷ []) i ≡ Some one → (slice_get plays i ≡ Some one) ⊎ ((i ≡ length plays) × (one ≡ play))
get_longer plays play one i is =
    let within : i < length (plays ++ play ∷ []) = slice_get_within (plays ++ play ∷ []) i one is in
    let at : get_or (plays ++ play ∷ []) i play ≡ one = get_or_from_slice_get (plays ++ play ∷ []) i one play is in
    elim (cases_lt i (length plays)) [
      | inl before ↦ inl (slice_get-get_or plays i play before ∙ ap (λ (p : PlayBody). Some p) (sym (get_or_append_left plays (play ∷ []) play i before) ∙ at))
      | inr past ↦
          let here : length plays ≡ i = omega (arith, within, past, length_push plays play) in
          inr (sym here, sym at ∙ get_or_push plays play play i here)
    ]

-- the gate of record k is written
pub gate_of_other : (k j : ℕ) (area new : List ℕ) → j ≢ k → Torn (RECORD_LEN * k) 1 area new → gate new j ≡ gate area j
gate_of_other k j area new other torn = byte_kept (RECORD_LEN * k) 1 (RECORD_LEN * j) area new torn (elim (cases_lt j k) [
  | inl below ↦ inl (omega arith)
  | inr above ↦ inr (omega arith)
])

pub body_beside_gate : (k j : ℕ) (area new : List ℕ) → Torn (RECORD_LEN * k) 1 area new → body new j ≡ body area j
body_beside_gate k j area new torn = range_kept (RECORD_LEN * k) 1 (RECORD_LEN * j + 4) 60 area new torn (elim (cases_lt j k) [
  | inl below ↦ inl (omega arith)
  | inr above ↦ inr (omega arith)
])

-- the fields of record k are written
pub gate_beside_body : (k j : ℕ) (area new : List ℕ) → Torn (RECORD_LEN * k + 4) 60 area new → gate new j ≡ gate area j
gate_beside_body k j area new torn = byte_kept (RECORD_LEN * k + 4) 60 (RECORD_LEN * j) area new torn (elim (cases_lt k j) [
  | inl below ↦ inr (omega arith)
  | inr above ↦ inl (omega arith)
])

pub body_of_other : (k j : ℕ) (area new : List ℕ) → j ≢ k → Torn (RECORD_LEN * k + 4) 60 area new → body new j ≡ body area j
body_of_other k j area new other torn = range_kept (RECORD_LEN * k + 4) 60 (RECORD_LEN * j + 4) 60 area new torn (elim (cases_lt j k) [
  | inl below ↦ inl (omega arith)
  | inr above ↦ inr (omega arith)
])

-- any play, where one is asked for
nothing : PlayBody
nothing = record { event = 0; layout = 0; from = 0; to = 0 }

-- the oldest play's record is open
oldest_open : (epoch from k : ℕ) (plays : List PlayBody) (area : List ℕ) → (from - 1) % JOURNAL_RECORDS ≡ k → from ≤ length plays → HoldsPlays epoch from plays area → gate area k ≡ 1
oldest_open epoch from k plays area at some holds =
    let starts : 1 ≤ from = holds.starts in
    let lt : from - 1 < length plays = omega arith in
    let held = holds.held (from - 1) (get_or plays (from - 1) nothing) (omega arith) (slice_get-get_or plays (from - 1) nothing lt) in
    subst (λ (j : ℕ). gate area j ≡ 1) at held.0

-- the gate of the oldest record was written, and stands open
pub still_open : (epoch from k : ℕ) (plays : List PlayBody) (area new : List ℕ) → (from - 1) % JOURNAL_RECORDS ≡ k → from ≤ length plays → Torn (RECORD_LEN * k) 1 area new → gate new k ≡ 1 → HoldsPlays epoch from plays area → HoldsPlays epoch from plays new
still_open epoch from k plays area new at some torn opened holds = record {
  starts = holds.starts;
  within = holds.within;
  last = holds.last;
  ring = holds.ring;
  held = λ i play le is.
      let was = holds.held i play le is in
      (gate_now (i % JOURNAL_RECORDS) was.0, body_beside_gate k (i % JOURNAL_RECORDS) area new torn ∙ was.1);
  open_only = λ j lt now. holds.open_only j lt (gate_was j now);
}
  where
    gate_now : (j : ℕ) → gate area j ≡ 1 → gate new j ≡ 1
    gate_now j was = elim (cases_eq j k) [
      | inl same ↦ ap (λ (m : ℕ). gate new m) same ∙ opened
      | inr other ↦ gate_of_other k j area new other torn ∙ was
    ]

    gate_was : (j : ℕ) → gate new j ≡ 1 → gate area j ≡ 1
    gate_was j now = elim (cases_eq j k) [
      | inl same ↦ ap (λ (m : ℕ). gate area m) same ∙ oldest_open epoch from k plays area at some holds
      | inr other ↦ sym (gate_of_other k j area new other torn) ∙ now
    ]

-- it was closed, so that the records hold the plays behind the oldest
pub closed : (epoch from k : ℕ) (plays : List PlayBody) (area new : List ℕ) → (from - 1) % JOURNAL_RECORDS ≡ k → from < length plays → Torn (RECORD_LEN * k) 1 area new → gate new k ≢ 1 → HoldsPlays epoch from plays area → HoldsPlays epoch (from + 1) plays new
closed epoch from k plays area new at some torn shut holds = record {
  starts = omega arith;
  within = omega arith;
  last = λ _. omega arith;
  ring = omega (arith, holds.ring);
  held = λ i play le is. held_still i play le is;
  open_only = λ j lt now. open_still j lt now;
}
  where
    held_still : (i : ℕ) (play : PlayBody) → from + 1 ≤ i + 1 → slice_get plays i ≡ Some play → (gate new (i % JOURNAL_RECORDS) ≡ 1) × (body new (i % JOURNAL_RECORDS) ≡ fields epoch (i + 1) play)
    held_still i play le is =
        let was = holds.held i play (omega arith) is in
        let lt : i < length plays = slice_get_within plays i play is in
        let starts : 1 ≤ from = holds.starts in
        let ring : length plays < from + JOURNAL_RECORDS = holds.ring in
        let other : i % JOURNAL_RECORDS ≢ k = λ same. omega arith in
        (gate_of_other k (i % JOURNAL_RECORDS) area new other torn ∙ was.0, body_beside_gate k (i % JOURNAL_RECORDS) area new torn ∙ was.1)

    open_still : (j : ℕ) → j < JOURNAL_RECORDS → gate new j ≡ 1 → (i : ℕ) × (from + 1 ≤ i + 1) × (i < length plays) × (i % JOURNAL_RECORDS ≡ j)
    open_still j lt now =
        let other : j ≢ k = λ same. shut (ap (λ (m : ℕ). gate new m) (sym same) ∙ now) in
        let was = holds.open_only j lt (sym (gate_of_other k j area new other torn) ∙ now) in
        let is_other : was.0 % JOURNAL_RECORDS ≢ (from - 1) % JOURNAL_RECORDS = λ same. other (sym was.3 ∙ same ∙ at) in
        let not_oldest : was.0 ≢ from - 1 = λ same. is_other (ap (λ (m : ℕ). m % JOURNAL_RECORDS) same) in
        (was.0, omega (arith, was.1, not_oldest), was.2, was.3)

-- The next play's record is free where less than a round is held
free_record : (from n i : ℕ) → from ≤ i + 1 → i < n → n + 1 < from + JOURNAL_RECORDS → i % JOURNAL_RECORDS ≢ n % JOURNAL_RECORDS
free_record from n i le lt free same = omega arith

-- the fields of the next play's record were written
pub filled : (epoch from : ℕ) (plays : List PlayBody) (area new : List ℕ) → length plays + 1 < from + JOURNAL_RECORDS → Torn (RECORD_LEN * (length plays % JOURNAL_RECORDS) + 4) 60 area new → HoldsPlays epoch from plays area → HoldsPlays epoch from plays new
filled epoch from plays area new free torn holds = record {
  starts = holds.starts;
  within = holds.within;
  last = holds.last;
  ring = holds.ring;
  held = λ i play le is.
      let was = holds.held i play le is in
      let other = free_record from (length plays) i le (slice_get_within plays i play is) free in
      (gate_beside_body (length plays % JOURNAL_RECORDS) (i % JOURNAL_RECORDS) area new torn ∙ was.0, body_of_other (length plays % JOURNAL_RECORDS) (i % JOURNAL_RECORDS) area new other torn ∙ was.1);
  open_only = λ j lt now. holds.open_only j lt (sym (gate_beside_body (length plays % JOURNAL_RECORDS) j area new torn) ∙ now);
}

-- the gate of the next play's record was written, and stands closed
pub still_closed : (epoch from : ℕ) (plays : List PlayBody) (area new : List ℕ) → length plays + 1 < from + JOURNAL_RECORDS → Torn (RECORD_LEN * (length plays % JOURNAL_RECORDS)) 1 area new → gate new (length plays % JOURNAL_RECORDS) ≢ 1 → HoldsPlays epoch from plays area → HoldsPlays epoch from plays new
still_closed epoch from plays area new free torn shut holds = record {
  starts = holds.starts;
  within = holds.within;
  last = holds.last;
  ring = holds.ring;
  held = λ i play le is.
      let was = holds.held i play le is in
      let other = free_record from (length plays) i le (slice_get_within plays i play is) free in
      (gate_of_other (length plays % JOURNAL_RECORDS) (i % JOURNAL_RECORDS) area new other torn ∙ was.0, body_beside_gate (length plays % JOURNAL_RECORDS) (i % JOURNAL_RECORDS) area new torn ∙ was.1);
  open_only = λ j lt now.
      let other : j ≢ length plays % JOURNAL_RECORDS = λ same. shut (ap (λ (m : ℕ). gate new m) (sym same) ∙ now) in
      holds.open_only j lt (sym (gate_of_other (length plays % JOURNAL_RECORDS) j area new other torn) ∙ now);
}

-- it was opened, over the play's fields
pub opened : (epoch from : ℕ) (plays : List PlayBody) (play : PlayBody) (area new : List ℕ) → length plays + 1 < from + JOURNAL_RECORDS → Torn (RECORD_LEN * (length plays % JOURNAL_RECORDS)) 1 area new → body area (length plays % JOURNAL_RECORDS) ≡ fields epoch (length plays + 1) play → gate new (length plays % JOURNAL_RECORDS) ≡ 1 → HoldsPlays epoch from plays area → HoldsPlays epoch from (plays ++ play ∷ []) new
opened epoch from plays play area new free torn has now holds =
    let longer : length (plays ++ play ∷ []) ≡ length plays + 1 = length_push plays play in
    let within : from ≤ length plays + 1 = holds.within in
    record {
      starts = holds.starts;
      within = omega arith;
      last = λ _. omega arith;
      ring = omega arith;
      held = λ i one le is. elim (get_longer plays play one i is) [
        | inl was ↦ held_still i one le was
        | inr new ↦ held_new i one new.0 new.1
      ];
      open_only = λ j lt opened. open_now j lt opened;
    }
  where
    held_still : (i : ℕ) (one : PlayBody) → from ≤ i + 1 → slice_get plays i ≡ Some one → (gate new (i % JOURNAL_RECORDS) ≡ 1) × (body new (i % JOURNAL_RECORDS) ≡ fields epoch (i + 1) one)
    held_still i one le is =
        let was = holds.held i one le is in
        let other = free_record from (length plays) i le (slice_get_within plays i one is) free in
        (gate_of_other (length plays % JOURNAL_RECORDS) (i % JOURNAL_RECORDS) area new other torn ∙ was.0, body_beside_gate (length plays % JOURNAL_RECORDS) (i % JOURNAL_RECORDS) area new torn ∙ was.1)

    held_new : (i : ℕ) (one : PlayBody) → i ≡ length plays → one ≡ play → (gate new (i % JOURNAL_RECORDS) ≡ 1) × (body new (i % JOURNAL_RECORDS) ≡ fields epoch (i + 1) one)
    held_new i one at same = (
      ap (λ (m : ℕ). gate new (m % JOURNAL_RECORDS)) at ∙ now,
      ap (λ (m : ℕ). body new (m % JOURNAL_RECORDS)) at ∙ body_beside_gate (length plays % JOURNAL_RECORDS) (length plays % JOURNAL_RECORDS) area new torn ∙ has ∙ ap (λ (m : ℕ). fields epoch (m + 1) play) (sym at) ∙ ap (λ (p : PlayBody). fields epoch (i + 1) p) (sym same),
    )

    open_now : (j : ℕ) → j < JOURNAL_RECORDS → gate new j ≡ 1 → (i : ℕ) × (from ≤ i + 1) × (i < length (plays ++ play ∷ [])) × (i % JOURNAL_RECORDS ≡ j)
    open_now j lt opened = elim (cases_eq j (length plays % JOURNAL_RECORDS)) [
      | inl same ↦ (length plays, holds.within, omega (arith, length_push plays play), sym same)
      | inr other ↦
          let was = holds.open_only j lt (sym (gate_of_other (length plays % JOURNAL_RECORDS) j area new other torn) ∙ opened) in
          (was.0, was.1, omega (arith, was.2, length_push plays play), was.3)
    ]
