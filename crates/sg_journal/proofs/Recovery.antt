-- An opening of an area that holds the plays of some contents.
use Rattle.std.proofs.Common.{◌≡◌, inl, inr, ℕ, ◌+◌, ◌-◌, ◌%◌, ◌^◌, ◌<◌, ◌≤◌, List, length, get_or, drop, slice_index, Option, Some, None, Result, Ok, Err, OnOk, IfOk, IsErrOf, refl, sym, ◌∙◌, ap, subst, arith}
use Rattle.std.proofs.lemmas.Bool.{cases_eq, cases_lt}
use Rattle.std.proofs.lemmas.List.{same_lists, length-drop, get_or-drop, get_or_default}
use Rattle.std.proofs.lemmas.Option.{slice_get-get_or}
use Rattle.sg_base.specs.declared.play.PlayBody.{PlayBody}
use Rattle.sg_disk.specs.View.{View, Only, Same, Passed}
use Rattle.sg_disk.specs.Runs.{Ran, Quiet}
use Rattle.sg_disk.specs.Contents.{Contents, IsPlay}
use Rattle.sg_disk.specs.StandsFor.{HoldsPlays, journal_of}
use Rattle.sg_contents.specs.StandsFor.{StandsFor}
use Rattle.sg_base.specs.declared.limits.TheConstants.{MAX_PLAYS, JOURNAL_RECORDS}
use Rattle.sg_disk.specs.declared.places.TheConstants.{JOURNAL, JOURNAL_LEN, OPEN_CALLS}
use Rattle.sg_disk.proofs.Moments.{quiet_only, ran_one, ran_joined, ran_fewer}
use Rattle.sg_contents.proofs.Standing.{settled_by, stands_from}
use Rattle.sg_disk.proofs.Writes.{one_stable}
use Rattle.sg_journal.specs.declared.record.Entry.{Entry}
use Rattle.sg_journal.specs.declared.journal.Journal.{Journal}
use Rattle.sg_journal.specs.Ready.{first_of, oldest_of, epoch_of, plays_of, IsReady}
use Rattle.sg_journal.specs.Records.{record_of, field, entry_of, numbered, play_at, IsHeld, IsGap, AreSound, IsFirstWrong, FirstDamage, Holds}
use Rattle.sg_journal.specs.Entries.{AreRead}
use Rattle.sg_journal.proofs.EntryLemmas.{numbered_own, numbered_some, some_play, is_some_play}
use Rattle.sg_journal.proofs.Decoded.{IsRecord, gate_first, decoded, record_entry, right_record, closed_right, entry_open}

-- the plays of an epoch, and an area whose open records are those from a number on
pub record AreRecorded (epoch from : ℕ) (plays : List PlayBody) (area : List ℕ) : Type 0 where
  pub epoch_small : epoch < 2 ^ 32
  pub are : (i : ℕ) (d : PlayBody) → i < length plays → IsPlay (get_or plays i d)
  pub few : length plays ≤ MAX_PLAYS
  pub holds : HoldsPlays epoch from plays area

nothing : PlayBody
nothing = record { event = 0; layout = 0; from = 0; to = 0 }

-- the record of the play at i
recorded_at : (epoch from : ℕ) (plays : List PlayBody) (area : List ℕ) (i : ℕ) → AreRecorded epoch from plays area → from ≤ i + 1 → i < length plays → IsRecord epoch (i + 1) (get_or plays i nothing) (record_of area (i % JOURNAL_RECORDS))
recorded_at epoch from plays area i rec le lt =
    let holds = rec.holds in
    let held = holds.held i (get_or plays i nothing) le (slice_get-get_or plays i nothing lt) in
    decoded epoch (i + 1) (i % JOURNAL_RECORDS) (get_or plays i nothing) area (omega (arith, lt, rec.few)) rec.epoch_small (rec.are i nothing lt) held.0 held.1

held_at : (epoch from : ℕ) (plays : List PlayBody) (area : List ℕ) (i : ℕ) → AreRecorded epoch from plays area → from ≤ i + 1 → i < length plays → play_at area (i + 1) ≡ Some (get_or plays i nothing)
held_at epoch from plays area i rec le lt =
    let same : (i + 1 - 1) % JOURNAL_RECORDS ≡ i % JOURNAL_RECORDS = ap (λ (n : ℕ). n % JOURNAL_RECORDS) (omega arith) in
    let entry = record_entry epoch (i + 1) (get_or plays i nothing) (record_of area (i % JOURNAL_RECORDS)) (recorded_at epoch from plays area i rec le lt) in
    ap (λ (k : ℕ). numbered (i + 1) (entry_of (record_of area k))) same ∙ ap (λ (o : Option Entry). numbered (i + 1) o) entry ∙ numbered_own (record { number = i + 1; play = get_or plays i nothing })

-- a number that is held is one of them
held_within : (epoch from : ℕ) (plays : List PlayBody) (area : List ℕ) (n : ℕ) → AreRecorded epoch from plays area → IsHeld area n → (from ≤ n) × (n ≤ length plays)
held_within epoch from plays area n rec held =
    let k : ℕ = (n - 1) % JOURNAL_RECORDS in
    let play = some_play (play_at area n) held.1 in
    let has = numbered_some n (entry_of (record_of area ((n - 1) % JOURNAL_RECORDS))) play.0 play.1 in
    let opened = entry_open (record_of area ((n - 1) % JOURNAL_RECORDS)) has.entry has.is in
    let holds = rec.holds in
    let one = holds.open_only ((n - 1) % JOURNAL_RECORDS) (omega arith) (sym (gate_first area ((n - 1) % JOURNAL_RECORDS)) ∙ opened.0) in
    let there = recorded_at epoch from plays area one.0 rec one.1 one.2 in
    let number : field (record_of area ((n - 1) % JOURNAL_RECORDS)) 4 ≡ one.0 + 1 = ap (λ (j : ℕ). field (record_of area j) 4) (sym one.3) ∙ there.number_is in
    let lower : from ≤ one.0 + 1 = one.1 in
    let upper : one.0 < length plays = one.2 in
    (omega (arith, lower, number, opened.1, has.number_is), omega (arith, upper, number, opened.1, has.number_is))

is_held : (epoch from : ℕ) (plays : List PlayBody) (area : List ℕ) (n : ℕ) → AreRecorded epoch from plays area → 1 ≤ n → from ≤ n → n ≤ length plays → IsHeld area n
is_held epoch from plays area n rec low le lt =
    let at : n - 1 + 1 ≡ n = omega arith in
    let is = held_at epoch from plays area (n - 1) rec (omega arith) (omega arith) in
    (low, is_some_play (play_at area n) (get_or plays (n - 1) nothing) (ap (λ (m : ℕ). play_at area m) (sym at) ∙ is))

-- nothing is wrong with such an area
pub undamaged : (epoch from : ℕ) (plays : List PlayBody) (area : List ℕ) → AreRecorded epoch from plays area → AreSound epoch JOURNAL_RECORDS area
undamaged epoch from plays area rec k lt = elim (cases_eq (slice_index (record_of area k) 0) 1) [
  | inl opened ↦
      let holds = rec.holds in
      let one = holds.open_only k lt (sym (gate_first area k) ∙ opened) in
      let there = recorded_at epoch from plays area one.0 rec one.1 one.2 in
      let upper : one.0 < length plays = one.2 in
      let own : (one.0 + 1 - 1) % JOURNAL_RECORDS ≡ k = ap (λ (n : ℕ). n % JOURNAL_RECORDS) (omega arith) ∙ one.3 in
      right_record epoch (one.0 + 1) k (get_or plays one.0 nothing) (record_of area k) (rec.are one.0 nothing one.2) (omega arith) (omega (arith, upper, rec.few)) own (subst (λ (j : ℕ). IsRecord epoch (one.0 + 1) (get_or plays one.0 nothing) (record_of area j)) one.3 there)
  | inr shut ↦ closed_right epoch k (record_of area k) shut
]

pub no_gaps : (epoch from : ℕ) (plays : List PlayBody) (area : List ℕ) (n : ℕ) → AreRecorded epoch from plays area → IsGap area n → ⊥
no_gaps epoch from plays area n rec gap =
    let m = gap.lower in
    let n_in = held_within epoch from plays area n rec gap.held in
    let m_in = held_within epoch from plays area m.0 rec m.2 in
    let lt : m.0 < n = m.1 in
    let starts = rec.holds.starts in
    gap.missing (is_held epoch from plays area (n - 1) rec (omega (arith, lt, m_in.0, starts)) (omega (arith, lt, m_in.0)) (omega (arith, n_in.1)))

pub no_damage : (epoch from : ℕ) (plays : List PlayBody) (area : List ℕ) (place found : ℕ) → AreRecorded epoch from plays area → FirstDamage epoch area place found → ⊥
no_damage epoch from plays area place found rec (inl first) =
    let gone : None ≡ Some first.wrong = sym (undamaged epoch from plays area rec first.k first.within) ∙ first.is in
    let bad : ⊥ = cc in
    bad
no_damage epoch from plays area place found rec (inr gap) = let first = gap.1 in no_gaps epoch from plays area found rec first.gap

-- the first of the plays that are held, and how many there are
same_first : (epoch from first : ℕ) (plays found : List PlayBody) (area : List ℕ) → AreRecorded epoch from plays area → Holds epoch area first found → (first ≡ from) × (first + length found ≡ length plays + 1)
same_first epoch from first plays found area rec is = elim (cases_lt 0 (length plays)) [
  | inl some ↦
      let last : from ≤ length plays = rec.holds.last some in
      let starts : 1 ≤ from = rec.holds.starts in
      let lowest = is.only from (is_held epoch from plays area from rec starts (omega arith) last) in
      let highest = is.only (length plays) (is_held epoch from plays area (length plays) rec (omega arith) last (omega arith)) in
      let one_at_least : 0 < length found = omega (arith, lowest.0, lowest.1) in
      let bottom = held_within epoch from plays area (first + 0) rec (found_held 0 one_at_least (omega (arith, is.starts))) in
      let same : first ≡ from = omega (arith, lowest.0, bottom.0) in
      (same, at_top same highest.1)
  | inr none ↦
      let starts : 1 ≤ from = rec.holds.starts in
      let within : from ≤ length plays + 1 = rec.holds.within in
      let empty : length found ≡ 0 = no_found none in
      let one : first ≡ 1 = is.empty empty in
      (omega arith, omega arith)
]
  where
    found_held : (i : ℕ) → i < length found → 1 ≤ first + i → IsHeld area (first + i)
    found_held i lt low = (low, is_some_play (play_at area (first + i)) (get_or found i nothing) (is.each i (get_or found i nothing) (slice_get-get_or found i nothing lt)))

    no_found : length plays ≤ 0 → length found ≡ 0
    no_found none = elim (cases_lt 0 (length found)) [
      | inl some ↦
          let within = held_within epoch from plays area (first + 0) rec (found_held 0 some (omega (arith, is.starts))) in
          let starts : 1 ≤ from = rec.holds.starts in
          absurd (omega (arith, within.0, within.1, starts, none))
      | inr no_one ↦ omega arith
    ]

    at_top : first ≡ from → length plays < first + length found → first + length found ≡ length plays + 1
    at_top same above = elim (cases_lt (length plays + 1) (first + length found)) [
      | inl more ↦
          let starts : 1 ≤ from = rec.holds.starts in
          let within = held_within epoch from plays area (first + (length plays + 1 - first)) rec (found_held (length plays + 1 - first) (omega arith) (omega arith)) in
          absurd (omega (arith, within.1, rec.holds.within))
      | inr no_more ↦ omega arith
    ]

-- the plays are those from the first number on
same_plays : (epoch from first : ℕ) (plays found : List PlayBody) (area : List ℕ) → AreRecorded epoch from plays area → Holds epoch area first found → found ≡ drop (first - 1) plays
same_plays epoch from first plays found area rec is =
    let same = same_first epoch from first plays found area rec is in
    let starts : 1 ≤ first = is.starts in
    let long : length found ≡ length (drop (first - 1) plays) = simp length-drop (omega (arith, same.1, starts)) in
    same_lists found (drop (first - 1) plays) long (λ k d lt.
    let i_is : first - 1 + k + 1 ≡ first + k = omega arith in
    let there : Some (get_or plays (first - 1 + k) nothing) ≡ Some (get_or found k nothing) =
    sym (held_at epoch from plays area (first - 1 + k) rec (omega (arith, same.0)) (omega (arith, same.1, lt))) ∙ ap (λ (n : ℕ). play_at area n) i_is ∙ is.each k (get_or found k nothing) (slice_get-get_or found k nothing lt) in
    let one : get_or plays (first - 1 + k) nothing ≡ get_or found k nothing = cc in
    get_or_default found k d nothing lt ∙ sym one ∙ get_or_default plays (first - 1 + k) nothing d (omega (arith, same.1, lt)) ∙ sym (get_or-drop (first - 1) plays k d))

-- contents whose journal stands in these bytes
pub stands_recorded : (r : Contents) (c : List ℕ) → StandsFor r c → (from : ℕ) × (from ≤ r.floor) × AreRecorded r.epoch from r.plays (journal_of c)
stands_recorded r c stands =
    let lawful = stands.lawful in
    let journal = stands.journal in (
      journal.0,
      journal.1,
      record {
        epoch_small = lawful.epoch.1;
        are = λ i d lt. lawful.plays i d lt;
        few = lawful.few;
        holds = journal.2;
      },
    )

-- The journal that was opened is ready, with contents whose floor is its first number
pub opened_ready : (w : View) (j : Journal) (r : Contents) (bytes : List ℕ) → w.told → w.bytes ≡ bytes → Only bytes w → StandsFor r bytes → epoch_of j ≡ r.epoch → oldest_of j ≡ first_of j → Holds r.epoch (journal_of bytes) (first_of j) (plays_of j) → (first_of j ≤ r.floor) × IsReady w j (record r { floor = first_of j })
opened_ready w j r bytes told is only stands epoch oldest holds =
    let rec = stands_recorded r bytes stands in
    let same = same_first r.epoch rec.0 (first_of j) r.plays (plays_of j) (journal_of bytes) rec.2 holds in
    let held : HoldsPlays r.epoch (first_of j) r.plays (journal_of bytes) = subst (λ (n : ℕ). HoldsPlays r.epoch n r.plays (journal_of bytes)) (sym same.0) rec.2.holds in (
      omega (arith, same.0, rec.1),
      record {
        settled = settled_by w bytes (record r { floor = first_of j }) told only (stands_from r bytes (first_of j) holds.starts held stands);
        one = one_stable JOURNAL JOURNAL_LEN w (subst (λ (b : List ℕ). Only b w) (sym is) only);
        agrees = record {
          held = subst (λ (n : ℕ). HoldsPlays r.epoch n r.plays (journal_of w.bytes)) (sym oldest) (subst (λ (b : List ℕ). HoldsPlays r.epoch (first_of j) r.plays (journal_of b)) (sym is) held);
          first = refl;
          next = same.1;
          plays = same_plays r.epoch rec.0 (first_of j) r.plays (plays_of j) (journal_of bytes) rec.2 holds;
          epoch = epoch;
        };
      },
    )

-- what was read of the disk behind the sync is what a read gave before it
pub area_read : (v u : View) (epoch : ℕ) (area : List ℕ) (entries seen : List (Option Entry)) → v.told → Passed Same Same v u → (u.told → area ≡ journal_of u.bytes) → seen ≡ entries → AreRead epoch JOURNAL_RECORDS area entries → AreRead epoch JOURNAL_RECORDS (journal_of v.bytes) seen
area_read v u epoch area entries seen told sync is same are =
    let area_is : area ≡ journal_of v.bytes = is (sync.told told) ∙ ap (λ (b : List ℕ). journal_of b) (sync.bytes told) in
    subst (λ (a : List ℕ). AreRead epoch JOURNAL_RECORDS a seen) area_is (subst (λ (l : List (Option Entry)). AreRead epoch JOURNAL_RECORDS area l) (sym same) are)

-- a fact that holds whatever was answered
pub always_ok : {T E : Type 0} (r : Result T E) (P : Type 0) → P → OnOk r P
always_ok (Ok x) P p = p
always_ok (Err e) P p = tt

pub if_ok_three : {T E : Type 0} (r : Result T E) (A B C D : T → Type 0) → ((x : T) → A x → B x → C x → D x) → IfOk r A → IfOk r B → IfOk r C → IfOk r D
if_ok_three (Ok x) A B C D f a b c = f x a b c
if_ok_three (Err e) A B C D f a b c = tt

-- the disk behind an opening that passed
pub opening_only : (v u w : View) (k : ℕ) → v.told → (v.told → Only v.bytes u) → Quiet k u w → Only v.bytes w
opening_only v u w k told durable quiet = quiet_only k u w v.bytes quiet (durable told)

pub opening_ran : (v u w : View) (k : ℕ) → 1 ≤ k → Passed Same Same v u → Quiet k u w → Ran OPEN_CALLS v w
opening_ran v u w k some sync quiet = ran_fewer (1 + k) OPEN_CALLS v w (omega arith) (ran_joined 1 k v u w (ran_one Same Same v u sync) quiet.ran)

pub wrong_before : (v u : View) (epoch place found : ℕ) → v.told → Passed Same Same v u → IsFirstWrong epoch JOURNAL_RECORDS (journal_of u.bytes) place found → IsFirstWrong epoch JOURNAL_RECORDS (journal_of v.bytes) place found
wrong_before v u epoch place found told sync first = subst (λ (b : List ℕ). IsFirstWrong epoch JOURNAL_RECORDS (journal_of b) place found) (sync.bytes told) first

-- the bytes of such contents are not damaged
pub stands_undamaged : (r : Contents) (c : List ℕ) (epoch place found : ℕ) → StandsFor r c → r.epoch ≡ epoch → FirstDamage epoch (journal_of c) place found → ⊥
stands_undamaged r c epoch place found stands same damage =
    let rec = stands_recorded r c stands in
    no_damage r.epoch rec.0 r.plays (journal_of c) place found rec.2 (subst (λ (e : ℕ). FirstDamage e (journal_of c) place found) (sym same) damage)

-- a refusal that is handed on
pub handed_on : {T U E : Type 0} (r : Result T E) (d e f : E) → r ≡ Err d → d ≡ e → r ≡ Err f → IsErrOf {T = U} (Err e) f
handed_on {T} {U} {E} r d e f at same is =
    let both : ◌≡◌ {A = Result T E} (Err d) (Err f) = sym at ∙ is in
    let one : d ≡ f = cc in
    let refusal : E → Result U E = λ x. Err x in
    ap refusal (sym same ∙ one)
