-- The records as an opening has read them, before it knows which plays they are.
use Rattle.std.specs.Prelude.{◌≡◌, ◌⊎◌, ℕ, ◌+◌, ◌-◌, ◌*◌, ◌%◌, ◌<◌, ◌≤◌, List, length, Option, Some, None, IsSome, slice_index_or, slice_get}
use Rattle.sg_base.specs.declared.play.PlayBody.{PlayBody}
use Rattle.sg_disk.specs.View.{View}
use Rattle.sg_disk.specs.Runs.{Ran, Broke}
use Rattle.sg_base.specs.declared.limits.TheConstants.{MAX_PLAYS, JOURNAL_RECORDS}
use Rattle.sg_disk.specs.declared.places.TheConstants.{JOURNAL, RECORD_LEN}
use Rattle.sg_journal.specs.declared.record.Entry.{Entry}
use Rattle.sg_journal.specs.declared.fault.OpenFault.{OpenFault}
use Rattle.sg_journal.specs.declared.fault.OpenFault.TheVariants.{Damaged, Disk, Memory}
use Rattle.sg_journal.specs.Records.{record_of, entry_of, numbered, AreSound}

-- what a refusal leaves: a disk that failed, or one of which every call has passed
abbrev pub EndedBy : OpenFault → View → View → Type 0
EndedBy (Damaged place found) old new = Ran 0 old new
EndedBy Disk old new = Broke old new
EndedBy Memory old new = Ran 0 old new

-- what was read of record k
abbrev pub entry_at : List (Option Entry) → ℕ → Option Entry
entry_at entries k = slice_index_or entries k None

-- these were read of the first n records of an area, and nothing is wrong with them
pub record AreRead (epoch n : ℕ) (area : List ℕ) (entries : List (Option Entry)) : Type 0 where
  pub count : length entries ≡ n
  pub each : (k : ℕ) → k < n → entry_at entries k ≡ entry_of (record_of area k)
  pub sound : AreSound epoch n area

-- each number is one that the play in its record may have
pub record AreOwn (entries : List (Option Entry)) : Type 0 where
  pub count : length entries ≡ JOURNAL_RECORDS
  pub each : (k : ℕ) (entry : Entry) → k < JOURNAL_RECORDS → entry_at entries k ≡ Some entry
      → (1 ≤ entry.number) × (entry.number ≤ MAX_PLAYS) × ((entry.number - 1) % JOURNAL_RECORDS ≡ k)

-- the play with a number
abbrev pub held_by : List (Option Entry) → ℕ → Option PlayBody
held_by entries n = numbered n (entry_at entries ((n - 1) % JOURNAL_RECORDS))

-- a number above another that is held, where the one before it isn't
pub record IsStart (entries : List (Option Entry)) (above n : ℕ) : Type 0 where
  pub higher : above < n
  pub held : IsSome (held_by entries n)
  pub begins : (n ≡ 1) ⊎ (held_by entries (n - 1) ≡ None)

-- the least such number
pub record IsLeastStart (entries : List (Option Entry)) (above n : ℕ) : Type 0 where
  pub start : IsStart entries above n
  pub least : (m : ℕ) → IsStart entries above m → n ≤ m

-- the plays with numbers that follow each other, up to one that isn't held
pub record IsRun (entries : List (Option Entry)) (first : ℕ) (plays : List PlayBody) : Type 0 where
  pub each : (i : ℕ) (play : PlayBody) → slice_get plays i ≡ Some play
      → held_by entries (first + i) ≡ Some play
  pub stops : held_by entries (first + length plays) ≡ None
  pub few : length plays ≤ JOURNAL_RECORDS
  pub fits : first + length plays ≤ MAX_PLAYS + 1

-- the plays from the least number on, and no other play is held
pub record IsRecovered (entries : List (Option Entry)) (first : ℕ)
    (plays : List PlayBody) : Type 0 where
  pub starts : 1 ≤ first
  pub run : IsRun entries first plays
  pub least : (n : ℕ) → IsStart entries 0 n → first ≤ n
  pub alone : (n : ℕ) → IsStart entries first n → ⊥
  pub empty : length plays ≡ 0 → first ≡ 1

-- the least number behind a gap, and the place of its record
pub record IsGapAt (entries : List (Option Entry)) (place found : ℕ) : Type 0 where
  pub first : ℕ
  pub least : IsLeastStart entries 0 first
  pub next : IsLeastStart entries first found
  pub place_is : place ≡ JOURNAL + RECORD_LEN * ((found - 1) % JOURNAL_RECORDS)
