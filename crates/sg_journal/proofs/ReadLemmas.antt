-- The records of an area that is read piece by piece.
use Rattle.std.proofs.Common.{◌≡◌, inl, inr, ℕ, ◌+◌, ◌-◌, ◌*◌, ◌<◌, ◌≤◌, List, [], ◌∷◌, ◌++◌, length, take, drop, Option, Some, None, Err, IsErrOf, refl, sym, ◌∙◌, ap, subst, arith, length-drop}
use Rattle.std.proofs.lemmas.Bool.{cases_lt}
use Rattle.std.proofs.lemmas.List.{get_or_append_left, get_or_push, length_push, drop-drop, drop_at, drop-append-le, take-append-le}
use Rattle.sg_disk.specs.View.{View, range, Same, Passed, Failed}
use Rattle.sg_disk.specs.Runs.{Ran, Broke, Quiet}
use Rattle.sg_disk.specs.StandsFor.{journal_of}
use Rattle.sg_disk.proofs.Ranges.{range-range}
use Rattle.sg_disk.proofs.Moments.{ran_broke, ran_fewer, broke_one, quiet_one, quiet_joined}
use Rattle.sg_disk.proofs.Parts.{range_more}
use Rattle.sg_base.specs.declared.limits.TheConstants.{JOURNAL_RECORDS}
use Rattle.sg_disk.specs.declared.places.TheConstants.{JOURNAL, JOURNAL_LEN, RECORD_LEN}
use Rattle.sg_journal.specs.declared.fault.OpenFault.{OpenFault}
use Rattle.sg_journal.specs.declared.fault.OpenFault.TheVariants.{Damaged, Disk, Memory}
use Rattle.sg_journal.specs.declared.record.Entry.{Entry}
use Rattle.sg_journal.specs.declared.record.Wrong.{Wrong}
use Rattle.sg_journal.specs.Records.{record_of, entry_of, wrong_at, AreSound, IsFirstWrong}
use Rattle.sg_journal.specs.Entries.{AreRead, EndedBy}

-- a record behind those of an area
pub record_behind : (area piece : List ℕ) (from i : ℕ) → length area ≡ RECORD_LEN * from → record_of (area ++ piece) (from + i) ≡ range piece (RECORD_LEN * i) RECORD_LEN
unfolding range
record_behind area piece from i long =
    let at : RECORD_LEN * (from + i) ≡ RECORD_LEN * from + RECORD_LEN * i = omega arith in
    ap (λ (l : List ℕ). take RECORD_LEN l) (ap (λ (n : ℕ). drop n (area ++ piece)) at ∙ sym (drop-drop (RECORD_LEN * i) (RECORD_LEN * from) (area ++ piece)) ∙ ap (λ (l : List ℕ). drop (RECORD_LEN * i) l) (drop_at area piece (RECORD_LEN * from) long))

-- one of those
pub record_before : (area piece : List ℕ) (from k : ℕ) → length area ≡ RECORD_LEN * from → k < from → record_of (area ++ piece) k ≡ record_of area k
unfolding range
record_before area piece from k long lt =
    let within : RECORD_LEN * k ≤ length area = omega (arith, long) in
    let whole : RECORD_LEN ≤ length (drop (RECORD_LEN * k) area) = simp length-drop (omega (arith, long)) in
    ap (λ (l : List ℕ). take RECORD_LEN l) (drop-append-le (RECORD_LEN * k) area piece within) ∙ take-append-le RECORD_LEN (drop (RECORD_LEN * k) area) piece whole

pub sound_longer : (epoch from : ℕ) (area piece : List ℕ) → length area ≡ RECORD_LEN * from → AreSound epoch from area → AreSound epoch from (area ++ piece)
sound_longer epoch from area piece long sound k lt = ap (λ (r : List ℕ). wrong_at epoch k r) (record_before area piece from k long lt) ∙ sound k lt

-- what was read stays so when more is
pub read_longer : (epoch from : ℕ) (area piece : List ℕ) (entries : List (Option Entry)) → length area ≡ RECORD_LEN * from → AreRead epoch from area entries → AreRead epoch from (area ++ piece) entries
read_longer epoch from area piece entries long are = record {
  count = are.count;
  each = λ k lt. are.each k lt ∙ ap (λ (r : List ℕ). entry_of r) (sym (record_before area piece from k long lt));
  sound = sound_longer epoch from area piece long are.sound;
}

-- one record more
pub read_more : (epoch n : ℕ) (area : List ℕ) (entries : List (Option Entry)) (o : Option Entry) → o ≡ entry_of (record_of area n) → wrong_at epoch n (record_of area n) ≡ None → AreRead epoch n area entries → AreRead epoch (n + 1) area (entries ++ o ∷ [])
read_more epoch n area entries o is right are = record {
  count = omega (arith, length_push entries o, are.count);
  each = λ k lt. elim (cases_lt k n) [
    | inl before ↦ get_or_append_left entries (o ∷ []) None k (omega (arith, before, are.count)) ∙ are.each k before
    | inr past ↦
        let here : n ≡ k = omega (arith, lt, past) in
        get_or_push entries o None k (omega (arith, here, are.count)) ∙ is ∙ ap (λ (j : ℕ). entry_of (record_of area j)) here
  ];
  sound = λ k lt. elim (cases_lt k n) [
    | inl before ↦ are.sound k before
    | inr past ↦
        let here : n ≡ k = omega (arith, lt, past) in
        ap (λ (j : ℕ). wrong_at epoch j (record_of area j)) (sym here) ∙ right
  ];
}

-- the first record that has something wrong
pub first_wrong : (epoch n count : ℕ) (area : List ℕ) (entries : List (Option Entry)) (wrong : Wrong) → n < count → wrong_at epoch n (record_of area n) ≡ Some wrong → AreRead epoch n area entries → IsFirstWrong epoch count area (JOURNAL + RECORD_LEN * n + wrong.place) wrong.found
first_wrong epoch n count area entries wrong lt is are = record {
  k = n;
  wrong = wrong;
  within = lt;
  is = is;
  before = are.sound;
  place_is = refl;
  found_is = refl;
}

-- one record of a piece
pub piece_step : (epoch from i : ℕ) (area piece bytes : List ℕ) (before now : List (Option Entry)) (o : Option Entry) → length area ≡ RECORD_LEN * from → bytes ≡ range piece (RECORD_LEN * i) RECORD_LEN → o ≡ entry_of bytes → wrong_at epoch (from + i) bytes ≡ None → now ≡ before ++ o ∷ [] → AreRead epoch (from + i) (area ++ piece) before → AreRead epoch (from + (i + 1)) (area ++ piece) now
piece_step epoch from i area piece bytes before now o long is entry right grown are =
    let record_is : bytes ≡ record_of (area ++ piece) (from + i) = is ∙ sym (record_behind area piece from i long) in
    let n_is : from + i + 1 ≡ from + (i + 1) = omega arith in
    subst (λ (n : ℕ). AreRead epoch n (area ++ piece) now) n_is
    (subst (λ (l : List (Option Entry)). AreRead epoch (from + i + 1) (area ++ piece) l) (sym grown)
    (read_more epoch (from + i) (area ++ piece) before o (entry ∙ ap (λ (r : List ℕ). entry_of r) record_is) (ap (λ (r : List ℕ). wrong_at epoch (from + i) r) (sym record_is) ∙ right) are))

-- one that has something wrong
pub piece_wrong : (epoch from i count : ℕ) (area piece bytes : List ℕ) (before : List (Option Entry)) (wrong : Wrong) → from + i < count → length area ≡ RECORD_LEN * from → bytes ≡ range piece (RECORD_LEN * i) RECORD_LEN → wrong_at epoch (from + i) bytes ≡ Some wrong → AreRead epoch (from + i) (area ++ piece) before → IsFirstWrong epoch count (area ++ piece) (JOURNAL + RECORD_LEN * (from + i) + wrong.place) wrong.found
piece_wrong epoch from i count area piece bytes before wrong lt long is wrong_is are =
    let record_is : bytes ≡ record_of (area ++ piece) (from + i) = is ∙ sym (record_behind area piece from i long) in
    first_wrong epoch (from + i) count (area ++ piece) before wrong lt (ap (λ (r : List ℕ). wrong_at epoch (from + i) r) (sym record_is) ∙ wrong_is) are

-- a slice of a piece
pub slice_is : (piece : List ℕ) (start : ℕ) → take (start + RECORD_LEN - start) (drop start piece) ≡ range piece start RECORD_LEN
unfolding range
slice_is piece start =
    let long : start + RECORD_LEN - start ≡ RECORD_LEN = omega arith in
    ap (λ (n : ℕ). take n (drop start piece)) long

-- the place and the number of a damage
pub same_damage : {T : Type 0} (x : OpenFault) (a b place found : ℕ) → x ≡ Damaged a b → IsErrOf {T = T} (Err x) (Damaged place found) → (a ≡ place) × (b ≡ found)
same_damage x a b place found is same =
    let one : x ≡ Damaged place found = cc in
    let two : Damaged a b ≡ Damaged place found = sym is ∙ one in
    (cc, cc)

pub read_none : (epoch : ℕ) (entries : List (Option Entry)) → entries ≡ [] → AreRead epoch 0 [] entries
read_none epoch entries none = record {
  count = ap length none;
  each = λ k lt. absurd (omega (arith, lt));
  sound = λ k lt. absurd (omega (arith, lt));
}

-- a record of what was read so far is that of the whole area
record_of_front : (c : List ℕ) (l k : ℕ) → RECORD_LEN * k + RECORD_LEN ≤ l → l ≤ JOURNAL_LEN → record_of (range c JOURNAL l) k ≡ record_of (journal_of c) k
record_of_front c l k within le = range-range c JOURNAL l (RECORD_LEN * k) RECORD_LEN within ∙ sym (range-range c JOURNAL JOURNAL_LEN (RECORD_LEN * k) RECORD_LEN (omega (arith, within, le)))

pub wrong_in_front : (epoch n l : ℕ) (c area : List ℕ) (place found : ℕ) → area ≡ range c JOURNAL l → l ≡ RECORD_LEN * n → n ≤ JOURNAL_RECORDS → IsFirstWrong epoch n area place found → IsFirstWrong epoch JOURNAL_RECORDS (journal_of c) place found
wrong_in_front epoch n l c area place found front long le first = record {
  k = first.k;
  wrong = first.wrong;
  within = omega (arith, first.within, le);
  is = sym (same first.k first.within) ∙ first.is;
  before = λ j lt. sym (same j (omega (arith, lt, first.within))) ∙ first.before j lt;
  place_is = first.place_is;
  found_is = first.found_is;
}
  where
    same : (k : ℕ) → k < n → wrong_at epoch k (record_of area k) ≡ wrong_at epoch k (record_of (journal_of c) k)
    same k lt = ap (λ (a : List ℕ). wrong_at epoch k (record_of a k)) front ∙ ap (λ (r : List ℕ). wrong_at epoch k r) (record_of_front c l k (omega arith) (omega arith))

-- one piece more, which was read from the disk
pub front_more : (v u : View) (l k n : ℕ) (area piece : List ℕ) → Quiet k v u → n ≡ 65536 → (v.told → area ≡ range v.bytes JOURNAL l) → (u.told → piece ≡ range u.bytes (JOURNAL + l) n) → v.told → area ++ piece ≡ range v.bytes JOURNAL (l + 65536)
front_more v u l k n area piece quiet long area_is piece_is told =
    ap (λ (a : List ℕ). a ++ piece) (area_is told)
    ∙ ap (λ (p : List ℕ). range v.bytes JOURNAL l ++ p) (piece_is (quiet.ran.told told) ∙ ap (λ (c : List ℕ). range c (JOURNAL + l) n) (quiet.bytes told) ∙ ap (λ (m : ℕ). range v.bytes (JOURNAL + l) m) long)
    ∙ range_more v.bytes JOURNAL l 65536

pub quiet_more : (k : ℕ) (v u w : View) → Quiet k v u → Passed Same Same u w → w.size ≡ u.size → Quiet (k + 1) v w
quiet_more k v u w quiet passed size = quiet_joined k 1 v u w quiet (quiet_one u w passed size)

pub broke_more : (k : ℕ) (v u w : View) → Quiet k v u → Failed Same u w → Broke v w
broke_more k v u w quiet failed = ran_broke k v u w quiet.ran (broke_one Same u w failed)

-- a refusal behind calls that all passed
pub ended_passed : (k : ℕ) (v w : View) (fault : OpenFault) → (IsErrOf {T = Unit {0}} (Err fault) Disk → ⊥) → Ran k v w → EndedBy fault v w
ended_passed k v w (Damaged place found) passed ran = ran_fewer k 0 v w (omega arith) ran
ended_passed k v w Disk passed ran = absurd (passed refl)
ended_passed k v w Memory passed ran = ran_fewer k 0 v w (omega arith) ran
