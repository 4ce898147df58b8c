-- What the journal's area holds, record by record, and what an opening takes as damage.
use Rattle.std.specs.Prelude.{◌≡◌, ◌⊎◌, ◌==◌, ◌&&◌, ℕ, ◌+◌, ◌-◌, ◌*◌, ◌%◌, ◌<◌, ◌≤◌, nat_lt, nat_le, Bool, not, List, length, Option, Some, None, IsSome, slice_index, slice_get, if◌then◌else◌}
use Rattle.std.specs.Int.{w32, from_le_bytes}
use Rattle.sg_base.specs.declared.play.PlayBody.{PlayBody}
use Rattle.sg_disk.specs.View.{range}
use Rattle.sg_base.specs.declared.limits.TheConstants.{LAST_MOMENT, MAX_PLAYS, JOURNAL_RECORDS}
use Rattle.sg_disk.specs.declared.places.TheConstants.{JOURNAL, RECORD_LEN}
use Rattle.sg_journal.specs.declared.record.TheConstants.{NUMBER, EVENT, LAYOUT, FROM, TO, EPOCH}
use Rattle.sg_journal.specs.declared.record.Entry.{Entry}
use Rattle.sg_journal.specs.declared.record.Wrong.{Wrong}

-- record k of the area
abbrev pub record_of : List ℕ → ℕ → List ℕ
record_of area k = range area (RECORD_LEN * k) RECORD_LEN

-- a field of a record: four bytes, the low one first
abbrev pub field : List ℕ → ℕ → ℕ
field bytes place = from_le_bytes w32 (range bytes place 4)

-- the number and the play of a record whose gate is open
abbrev pub entry_of : List ℕ → Option Entry
entry_of bytes =
    if slice_index bytes 0 == 1 then Some (record {
      number = field bytes NUMBER;
      play = record {
        event = field bytes EVENT;
        layout = field bytes LAYOUT;
        from = field bytes FROM;
        to = field bytes TO;
      };
    }) else None

-- a number that the play in record k may have: play n stands in record n - 1 modulo the number of records
abbrev pub is_own : ℕ → ℕ → Bool
is_own k number = nat_le 1 number &&
    (nat_le number MAX_PLAYS && ((number - 1) % JOURNAL_RECORDS == k))

-- What the play of a record has wrong, the first of these: an end that isn't behind the start, a start or an end after
-- 2099, and no layout
abbrev pub wrong_play : List ℕ → Option Wrong
wrong_play bytes =
    if nat_le (field bytes TO) (field bytes FROM)
    then Some (record { place = TO; found = field bytes TO })
    else (if nat_lt LAST_MOMENT (field bytes FROM)
    then Some (record { place = FROM; found = field bytes FROM })
    else (if nat_lt LAST_MOMENT (field bytes TO)
    then Some (record { place = TO; found = field bytes TO })
    else (if field bytes LAYOUT == 0 then Some (record { place = LAYOUT; found = 0 })
    else None)))

-- what an open record has wrong: a number that isn't its own, then another epoch, then its play
abbrev pub wrong_of : ℕ → ℕ → List ℕ → Option Wrong
wrong_of epoch k bytes =
    if not (is_own k (field bytes NUMBER))
    then Some (record { place = NUMBER; found = field bytes NUMBER })
    else (if not (field bytes EPOCH == epoch)
    then Some (record { place = EPOCH; found = field bytes EPOCH })
    else wrong_play bytes)

-- what record k has wrong, where its gate is open
abbrev pub wrong_at : ℕ → ℕ → List ℕ → Option Wrong
wrong_at epoch k bytes = if slice_index bytes 0 == 1 then wrong_of epoch k bytes else None

-- the play of an entry with this number
abbrev pub numbered : ℕ → Option Entry → Option PlayBody
numbered n None = None
numbered n (Some entry) = if entry.number == n then Some entry.play else None

-- the play with a number, where the record of that number is open and has it
abbrev pub play_at : List ℕ → ℕ → Option PlayBody
play_at area n = numbered n (entry_of (record_of area ((n - 1) % JOURNAL_RECORDS)))

abbrev pub IsHeld : List ℕ → ℕ → Type 0
IsHeld area n = (1 ≤ n) × IsSome (play_at area n)

-- a number that is held, though a lower one is and the one before it isn't
pub record IsGap (area : List ℕ) (n : ℕ) : Type 0 where
  pub held : IsHeld area n
  pub lower : (m : ℕ) × (m < n) × IsHeld area m
  pub missing : IsHeld area (n - 1) → ⊥

-- nothing is wrong in the first n records
abbrev pub AreSound : ℕ → ℕ → List ℕ → Type 0
AreSound epoch n area = (k : ℕ) → k < n → wrong_at epoch k (record_of area k) ≡ None

-- the first of n records that has something wrong, the place on the disk, and what was found there
pub record IsFirstWrong (epoch n : ℕ) (area : List ℕ) (place found : ℕ) : Type 0 where
  pub k : ℕ
  pub wrong : Wrong
  pub within : k < n
  pub is : wrong_at epoch k (record_of area k) ≡ Some wrong
  pub before : AreSound epoch k area
  pub place_is : place ≡ JOURNAL + RECORD_LEN * k + wrong.place
  pub found_is : found ≡ wrong.found

-- the least number behind a gap, and the place of its record on the disk
pub record IsFirstGap (area : List ℕ) (place found : ℕ) : Type 0 where
  pub gap : IsGap area found
  pub least : (n : ℕ) → IsGap area n → found ≤ n
  pub place_is : place ≡ JOURNAL + RECORD_LEN * ((found - 1) % JOURNAL_RECORDS)

-- the damage that an opening of this area finds
abbrev pub FirstDamage : ℕ → List ℕ → ℕ → ℕ → Type 0
FirstDamage epoch area place found = IsFirstWrong epoch JOURNAL_RECORDS area place found
    ⊎ (AreSound epoch JOURNAL_RECORDS area × IsFirstGap area place found)

-- An area without damage holds these plays, of which the first has this number, and no other; where it holds none, the
-- first would have the number 1
pub record Holds (epoch : ℕ) (area : List ℕ) (first : ℕ) (plays : List PlayBody) : Type 0 where
  pub starts : 1 ≤ first
  pub sound : AreSound epoch JOURNAL_RECORDS area
  pub no_gap : (n : ℕ) → IsGap area n → ⊥
  pub each : (i : ℕ) (play : PlayBody) → slice_get plays i ≡ Some play
      → play_at area (first + i) ≡ Some play
  pub only : (n : ℕ) → IsHeld area n → (first ≤ n) × (n < first + length plays)
  pub empty : length plays ≡ 0 → first ≡ 1
