-- From the entries of an area to its plays, and to the contents that it stands for.
use Rattle.std.proofs.Common.{◌≡◌, ◌⊎◌, inl, inr, ℕ, zero, suc, ◌+◌, ◌-◌, ◌%◌, ◌<◌, ◌≤◌, List, length, Option, Some, None, IsSome, refl, sym, ◌∙◌, ap, subst, arith}
use Rattle.std.proofs.lemmas.Bool.{cases_eq, cases_lt}
use Rattle.sg_base.specs.declared.play.PlayBody.{PlayBody}
use Rattle.sg_base.specs.declared.limits.TheConstants.{JOURNAL_RECORDS}
use Rattle.sg_journal.specs.declared.record.Entry.{Entry}
use Rattle.sg_journal.specs.Records.{record_of, field, numbered, play_at, IsHeld, IsGap, IsFirstGap, Holds}
use Rattle.sg_journal.specs.Entries.{AreRead, AreOwn, held_by, IsStart, IsRecovered, IsGapAt}
use Rattle.sg_journal.proofs.EntryLemmas.{some_play, none_play}
use Rattle.sg_journal.proofs.Decoded.{entry_open, sound_own, own_parts}

-- what was read without damage has each number in its own record
pub read_own : (epoch : ℕ) (area : List ℕ) (entries : List (Option Entry)) → AreRead epoch JOURNAL_RECORDS area entries → AreOwn entries
read_own epoch area entries are = record {
  count = are.count;
  each = λ k e lt is.
      let open_entry = entry_open (record_of area k) e (sym (are.each k lt) ∙ is) in
      let parts = own_parts k (field (record_of area k) 4) (sound_own epoch k (record_of area k) open_entry.0 (are.sound k lt)) in
      (omega (arith, parts.0, open_entry.1), omega (arith, parts.1, open_entry.1), ap (λ (n : ℕ). (n - 1) % JOURNAL_RECORDS) open_entry.1 ∙ parts.2);
}

-- the plays of the entries are those of the area
same_held : (epoch : ℕ) (area : List ℕ) (entries : List (Option Entry)) (n : ℕ) → AreRead epoch JOURNAL_RECORDS area entries → held_by entries n ≡ play_at area n
same_held epoch area entries n are = ap (λ (o : Option Entry). numbered n o) (are.each ((n - 1) % JOURNAL_RECORDS) (omega arith))

some_along : (o p : Option PlayBody) → o ≡ p → IsSome o → IsSome p
some_along o p same some = subst (λ (q : Option PlayBody). IsSome q) same some

-- a play or none
play_cases : (o : Option PlayBody) → (o ≡ None) ⊎ IsSome o
play_cases None = inl refl
play_cases (Some play) = inr refl

-- below a number that is held, and above one that isn't, plays begin somewhere
descend : (entries : List (Option Entry)) (above d n : ℕ) → n ≡ above + d + 1 → (above ≡ 0) ⊎ (held_by entries above ≡ None) → IsSome (held_by entries n) → (s : ℕ) × (s ≤ n) × IsStart entries above s
descend entries above zero n at low some = (
  n,
  omega arith,
  record {
    higher = omega arith;
    held = some;
    begins = elim low [
      | inl none ↦ inl (omega arith)
      | inr gone ↦
          let is : n - 1 ≡ above = omega arith in
          inr (ap (λ (m : ℕ). held_by entries m) is ∙ gone)
    ];
  },
)
descend entries above (suc d) n at low some = elim (play_cases (held_by entries (n - 1))) [
  | inl gone ↦ (n, omega arith, record { higher = omega arith; held = some; begins = inr gone })
  | inr more ↦
      let below = descend entries above d (n - 1) (omega arith) low more in
      (below.0, omega (arith, below.1), below.2)
]

start_below : (entries : List (Option Entry)) (above n : ℕ) → above < n → (above ≡ 0) ⊎ (held_by entries above ≡ None) → IsSome (held_by entries n) → (s : ℕ) × (s ≤ n) × IsStart entries above s
start_below entries above n lt low some = descend entries above (n - above - 1) n (omega arith) low some

-- no number below the least start is held
least_held : (entries : List (Option Entry)) (first n : ℕ) → ((s : ℕ) → IsStart entries 0 s → first ≤ s) → 1 ≤ n → IsSome (held_by entries n) → first ≤ n
least_held entries first n least low some =
    let s = start_below entries 0 n (omega (arith, low)) (inl refl) some in
    let le : first ≤ s.0 = least s.0 s.2 in
    omega (arith, le, s.1)

-- a gap is a start above the first play
gap_start : (epoch : ℕ) (area : List ℕ) (entries : List (Option Entry)) (first n : ℕ) → AreRead epoch JOURNAL_RECORDS area entries → ((s : ℕ) → IsStart entries 0 s → first ≤ s) → IsGap area n → IsStart entries first n
gap_start epoch area entries first n are least gap =
    let m = gap.lower in
    let m_low : 1 ≤ m.0 = m.2.0 in
    let le : first ≤ m.0 = least_held entries first m.0 least m_low (some_along (play_at area m.0) (held_by entries m.0) (sym (same_held epoch area entries m.0 are)) m.2.1) in
    let lt : m.0 < n = m.1 in
    record {
      higher = omega arith;
      held = some_along (play_at area n) (held_by entries n) (sym (same_held epoch area entries n are)) gap.held.1;
      begins = inr (none_play (held_by entries (n - 1)) (λ some. gap.missing (omega arith, some_along (held_by entries (n - 1)) (play_at area (n - 1)) (same_held epoch area entries (n - 1) are) some)));
    }

-- the plays of an area without damage
pub recovered_holds : (epoch first : ℕ) (area : List ℕ) (entries : List (Option Entry)) (plays : List PlayBody) → AreRead epoch JOURNAL_RECORDS area entries → IsRecovered entries first plays → Holds epoch area first plays
recovered_holds epoch first area entries plays are rec = record {
  starts = rec.starts;
  sound = are.sound;
  no_gap = λ n gap. rec.alone n (gap_start epoch area entries first n are rec.least gap);
  each = λ i play is. sym (same_held epoch area entries (first + i) are) ∙ rec.run.each i play is;
  only = λ n held. (low n held, high n held);
  empty = rec.empty;
}
  where
    entries_hold : (n : ℕ) → IsHeld area n → IsSome (held_by entries n)
    entries_hold n held = some_along (play_at area n) (held_by entries n) (sym (same_held epoch area entries n are)) held.1

    low : (n : ℕ) → IsHeld area n → first ≤ n
    low n held = least_held entries first n rec.least held.0 (entries_hold n held)

    high : (n : ℕ) → IsHeld area n → n < first + length plays
    high n held = elim (cases_lt n (first + length plays)) [
      | inl lt ↦ lt
      | inr le ↦ elim (cases_eq n (first + length plays)) [
        | inl same ↦
            let play = some_play (held_by entries n) (entries_hold n held) in
            let gone : Some play.0 ≡ None = sym play.1 ∙ ap (λ (m : ℕ). held_by entries m) same ∙ rec.run.stops in
            let bad : ⊥ = cc in
            absurd bad
        | inr other ↦
            let s = start_below entries (first + length plays) n (omega arith) (inr rec.run.stops) (entries_hold n held) in
            let start = s.2 in
            let higher : first + length plays < s.0 = start.higher in
            absurd (rec.alone s.0 (record { higher = omega (arith, higher); held = start.held; begins = start.begins }))
      ]
    ]

-- the gap of an area
pub gap_first : (epoch : ℕ) (area : List ℕ) (entries : List (Option Entry)) (place found : ℕ) → AreRead epoch JOURNAL_RECORDS area entries → IsGapAt entries place found → IsFirstGap area place found
gap_first epoch area entries place found are at =
    let least = at.least in
    let next = at.next in
    let start = next.start in
    let first_start = least.start in
    let first_low : 0 < at.first = first_start.higher in
    let lt : at.first < found = start.higher in
    record {
      gap = record {
        held = (omega arith, some_along (held_by entries found) (play_at area found) (same_held epoch area entries found are) start.held);
        lower = (at.first, lt, (omega arith, some_along (held_by entries at.first) (play_at area at.first) (same_held epoch area entries at.first are) first_start.held));
        missing = λ held. elim start.begins [
          | inl one ↦ omega arith
          | inr gone ↦
              let play = some_play (play_at area (found - 1)) held.1 in
              let none : Some play.0 ≡ None = sym play.1 ∙ sym (same_held epoch area entries (found - 1) are) ∙ gone in
              let bad : ⊥ = cc in
              bad
        ];
      };
      least = λ n gap. next.least n (gap_start epoch area entries at.first n are least.least gap);
      place_is = at.place_is;
    }
