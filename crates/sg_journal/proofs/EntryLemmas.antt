-- The entries that an opening has read, by their numbers.
use Rattle.std.proofs.Common.{◌≡◌, ◌⊎◌, inl, inr, ℕ, ◌+◌, ◌-◌, ◌%◌, ◌<◌, ◌≤◌, min, Bool, cond, List, length, get_or, slice_get, Option, Some, None, IsSome, IfSome, MatchOption, refl, sym, ◌∙◌, ap, subst, arith, eq-eqb}
use Rattle.std.proofs.lemmas.Bool.{cases_eq, cases_lt}
use Rattle.std.proofs.lemmas.Bool.Decides.{eqb_tells}
use Rattle.std.proofs.lemmas.List.{get_or_read}
use Rattle.std.proofs.lemmas.Option.{slice_get-get_or}
use Rattle.sg_base.specs.declared.play.PlayBody.{PlayBody}
use Rattle.sg_base.specs.declared.limits.TheConstants.{MAX_PLAYS, JOURNAL_RECORDS}
use Rattle.sg_journal.specs.declared.record.Entry.{Entry}
use Rattle.sg_journal.specs.Records.{numbered}
use Rattle.sg_journal.specs.Entries.{entry_at, AreOwn, held_by, IsStart, IsLeastStart, IsRun}

-- the entry that has a play with this number
pub record HasEntry (n : ℕ) (play : PlayBody) (o : Option Entry) : Type 0 where
  pub entry : Entry
  pub is : o ≡ Some entry
  pub number_is : entry.number ≡ n
  pub play_is : entry.play ≡ play

pub numbered_some : (n : ℕ) (o : Option Entry) (play : PlayBody) → numbered n o ≡ Some play → HasEntry n play o
numbered_some n None play h = let bad : ⊥ = cc in absurd bad
numbered_some n (Some e) play h = elim (eqb_tells e.number n) [
  | inl same ↦
      let there : Some e.play ≡ Some play = ap (λ (b : Bool). cond b (Some e.play) None) (sym same.0) ∙ h in
      record { entry = e; is = refl; number_is = same.1; play_is = cc }
  | inr other ↦
      let gone : None ≡ Some play = ap (λ (b : Bool). cond b (Some e.play) None) (sym other.0) ∙ h in
      let bad : ⊥ = cc in
      absurd bad
]

pub numbered_own : (e : Entry) → numbered e.number (Some e) ≡ Some e.play
numbered_own e = ap (λ (b : Bool). cond b (Some e.play) None) (eq-eqb e.number e.number refl)

pub some_play : (o : Option PlayBody) → IsSome o → (play : PlayBody) × (o ≡ Some play)
some_play (Some play) h = (play, refl)
some_play None h = let bad : ⊥ = cc in absurd bad

pub is_some_play : (o : Option PlayBody) (play : PlayBody) → o ≡ Some play → IsSome o
is_some_play (Some one) play h = refl
is_some_play None play h = let bad : ⊥ = cc in absurd bad

pub none_play : (o : Option PlayBody) → (IsSome o → ⊥) → o ≡ None
none_play (Some play) h = absurd (h refl)
none_play None h = refl

record_below : (n : ℕ) → n % JOURNAL_RECORDS < JOURNAL_RECORDS
record_below n = omega arith

-- an entry's play is that of its number
pub own_held : (entries : List (Option Entry)) (k : ℕ) (e : Entry) → AreOwn entries → k < JOURNAL_RECORDS → entry_at entries k ≡ Some e → (1 ≤ e.number) × (held_by entries e.number ≡ Some e.play)
own_held entries k e own lt is =
    let its = own.each k e lt is in
    (its.0, ap (λ (j : ℕ). numbered e.number (entry_at entries j)) its.2 ∙ ap (λ (o : Option Entry). numbered e.number o) is ∙ numbered_own e)

-- a number that has a play is that of an entry
pub held_entry : (entries : List (Option Entry)) (n : ℕ) → IsSome (held_by entries n) → (e : Entry) × (entry_at entries ((n - 1) % JOURNAL_RECORDS) ≡ Some e) × (e.number ≡ n)
held_entry entries n some =
    let play = some_play (held_by entries n) some in
    let has = numbered_some n (entry_at entries ((n - 1) % JOURNAL_RECORDS)) play.0 play.1 in
    (has.entry, has.is, has.number_is)

pub held_low : (entries : List (Option Entry)) (n : ℕ) (play : PlayBody) → AreOwn entries → held_by entries n ≡ Some play → (1 ≤ n) × (n ≤ MAX_PLAYS)
held_low entries n play own held =
    let has = numbered_some n (entry_at entries ((n - 1) % JOURNAL_RECORDS)) play held in
    let its = own.each ((n - 1) % JOURNAL_RECORDS) has.entry (record_below (n - 1)) has.is in
    let low : 1 ≤ has.entry.number = its.0 in
    let high : has.entry.number ≤ MAX_PLAYS = its.1 in
    (omega (arith, low, has.number_is), omega (arith, high, has.number_is))

-- of two numbers of one record one has a play at most
pub round_free : (entries : List (Option Entry)) (n : ℕ) (play : PlayBody) → held_by entries n ≡ Some play → 1 ≤ n → held_by entries (n + JOURNAL_RECORDS) ≡ None
round_free entries n play held low = none_play (held_by entries (n + JOURNAL_RECORDS)) (λ some.
    let one = numbered_some n (entry_at entries ((n - 1) % JOURNAL_RECORDS)) play held in
    let two = held_entry entries (n + JOURNAL_RECORDS) some in
    let same_record : (n + JOURNAL_RECORDS - 1) % JOURNAL_RECORDS ≡ (n - 1) % JOURNAL_RECORDS = omega arith in
    let is : Some two.0 ≡ Some one.entry = sym two.1 ∙ ap (λ (k : ℕ). entry_at entries k) same_record ∙ one.is in
    let same : two.0 ≡ one.entry = cc in
    let number : two.0.number ≡ one.entry.number = ap (λ (e : Entry). e.number) same in
    omega (arith, number, one.number_is, two.2))

-- the least start among the first k entries
pub record Scanned (entries : List (Option Entry)) (above k : ℕ) (best : Option ℕ) : Type 0 where
  pub none : best ≡ None → (j : ℕ) (e : Entry) → j < k → entry_at entries j ≡ Some e → IsStart entries above e.number → ⊥
  pub start : (b : ℕ) → best ≡ Some b → IsStart entries above b
  pub least : (b : ℕ) → best ≡ Some b → (j : ℕ) (e : Entry) → j < k → entry_at entries j ≡ Some e → IsStart entries above e.number → b ≤ e.number

pub scanned_end : (entries : List (Option Entry)) (above : ℕ) (best : Option ℕ) → AreOwn entries → Scanned entries above JOURNAL_RECORDS best → MatchOption best ((n : ℕ) → IsStart entries above n → ⊥) (λ n. IsLeastStart entries above n)
scanned_end entries above None own scanned = λ n start.
    let e = held_entry entries n start.held in
    scanned.none refl ((n - 1) % JOURNAL_RECORDS) e.0 (record_below (n - 1)) e.1 (subst (λ (m : ℕ). IsStart entries above m) (sym e.2) start)
scanned_end entries above (Some b) own scanned = record {
  start = scanned.start b refl;
  least = λ n start.
      let e = held_entry entries n start.held in
      let le : b ≤ e.0.number = scanned.least b refl ((n - 1) % JOURNAL_RECORDS) e.0 (record_below (n - 1)) e.1 (subst (λ (m : ℕ). IsStart entries above m) (sym e.2) start) in
      omega (arith, le, e.2);
}

-- an entry that is no start
pub scanned_over : (entries : List (Option Entry)) (above k : ℕ) (best : Option ℕ) (o : Option Entry) → entry_at entries k ≡ o → ((e : Entry) → o ≡ Some e → IsStart entries above e.number → ⊥) → Scanned entries above k best → Scanned entries above (k + 1) best
scanned_over entries above k best o at none_there scanned = record {
  none = λ is j e lt there start. elim (cases_eq j k) [
    | inl same ↦ none_there e (sym at ∙ ap (λ (i : ℕ). entry_at entries i) (sym same) ∙ there) start
    | inr other ↦ scanned.none is j e (omega arith) there start
  ];
  start = scanned.start;
  least = λ b is j e lt there start. elim (cases_eq j k) [
    | inl same ↦ absurd (none_there e (sym at ∙ ap (λ (i : ℕ). entry_at entries i) (sym same) ∙ there) start)
    | inr other ↦ scanned.least b is j e (omega arith) there start
  ];
}

-- an entry that is one
pub scanned_start : (entries : List (Option Entry)) (above k n now : ℕ) (best : Option ℕ) → IsStart entries above n → (entry_at entries k ≡ None) ⊎ ((e : Entry) × (entry_at entries k ≡ Some e) × (e.number ≡ n)) → MatchOption best (now ≡ n) (λ b. now ≡ min b n) → Scanned entries above k best → Scanned entries above (k + 1) (Some now)
scanned_start entries above k n now best start at lower scanned = record {
  none = λ is. let bad : ⊥ = cc in absurd bad;
  start = λ b is.
      let same : now ≡ b = cc in
      subst (λ (m : ℕ). IsStart entries above m) same (is_start best lower scanned);
  least = λ b is j e lt there higher.
      let same : now ≡ b = cc in
      let le : now ≤ e.number = least best lower scanned j e lt there higher in
      omega (arith, same, le);
}
  where
    is_start : (best : Option ℕ) → MatchOption best (now ≡ n) (λ b. now ≡ min b n) → Scanned entries above k best → IsStart entries above now
    is_start None lower scanned = subst (λ (m : ℕ). IsStart entries above m) (sym lower) start
    is_start (Some b) lower scanned = elim (cases_lt b n) [
      | inl below ↦ let is : b ≡ now = omega arith in subst (λ (m : ℕ). IsStart entries above m) is (scanned.start b refl)
      | inr past ↦ let is : n ≡ now = omega arith in subst (λ (m : ℕ). IsStart entries above m) is start
    ]

    at_k : (e : Entry) → entry_at entries k ≡ Some e → e.number ≡ n
    at_k e there = elim at [
      | inl none ↦ let gone : None ≡ Some e = sym none ∙ there in let bad : ⊥ = cc in absurd bad
      | inr some ↦
          let is : Some some.0 ≡ Some e = sym some.1 ∙ there in
          let same : some.0 ≡ e = cc in
          ap (λ (d : Entry). d.number) (sym same) ∙ some.2
    ]

    least : (best : Option ℕ) → MatchOption best (now ≡ n) (λ b. now ≡ min b n) → Scanned entries above k best → (j : ℕ) (e : Entry) → j < k + 1 → entry_at entries j ≡ Some e → IsStart entries above e.number → now ≤ e.number
    least None lower scanned j e lt there higher = elim (cases_eq j k) [
      | inl same ↦ let number = at_k e (ap (λ (i : ℕ). entry_at entries i) (sym same) ∙ there) in omega (arith, number, lower)
      | inr other ↦ absurd (scanned.none refl j e (omega arith) there higher)
    ]
    least (Some b) lower scanned j e lt there higher = elim (cases_eq j k) [
      | inl same ↦ let number = at_k e (ap (λ (i : ℕ). entry_at entries i) (sym same) ∙ there) in omega (arith, number, lower)
      | inr other ↦ let le : b ≤ e.number = scanned.least b refl j e (omega arith) there higher in omega (arith, le, lower)
    ]

-- what was read at an index
pub read_entry : (entries : List (Option Entry)) (k : ℕ) (o : Option Entry) → k < length entries → o ≡ get_or entries k o → entry_at entries k ≡ o
read_entry entries k o lt is = sym (get_or_read entries k o lt is None)

pub if_some : {A : Type 0} (P : A → Type 0) (o : Option A) (x : A) → o ≡ Some x → IfSome o P → P x
if_some P o x is holds = subst (λ (q : Option _). IfSome q P) is holds

-- a run that goes through every record
pub whole_run : (entries : List (Option Entry)) (first : ℕ) (plays : List PlayBody) → AreOwn entries → 1 ≤ first → length plays ≡ JOURNAL_RECORDS → first + length plays ≤ MAX_PLAYS + 1 → ((i : ℕ) (play : PlayBody) → slice_get plays i ≡ Some play → held_by entries (first + i) ≡ Some play) → IsRun entries first plays
whole_run entries first plays own low long fits each =
    let nothing : PlayBody = record { event = 0; layout = 0; from = 0; to = 0 } in
    let zero_lt : 0 < length plays = omega (arith, long) in
    let at_zero = each 0 (get_or plays 0 nothing) (slice_get-get_or plays 0 nothing zero_lt) in
    let at_first : held_by entries first ≡ Some (get_or plays 0 nothing) = ap (λ (n : ℕ). held_by entries n) (omega arith) ∙ at_zero in
    record {
      each = each;
      stops = ap (λ (n : ℕ). held_by entries (first + n)) long ∙ round_free entries first (get_or plays 0 nothing) at_first low;
      few = omega (arith, long);
      fits = fits;
    }
