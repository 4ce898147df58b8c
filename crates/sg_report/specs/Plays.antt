-- The plays that a keeper has, of all displays and epochs.
use Rattle.std.specs.Prelude.{◌≡◌, ◌↔◌, ℕ, ◌^◌, ◌<◌, ◌≤◌, List, Option, None, Some}
use Rattle.std.specs.List.{AllByRecursion}
use Rattle.sg_base.specs.declared.key.Key.{Key}
use Rattle.sg_base.specs.declared.limits.TheConstants.{LAST_MOMENT}
use Rattle.sg_base.specs.declared.play.PlayBody.{PlayBody}
use Rattle.sg_base.specs.Keys.{number_of}
use Rattle.sg_base.specs.Rising.{IsRising, found}
use Rattle.sg_records.specs.Numbers.{play_bytes, play_number}
use Rattle.sg_report.specs.declared.kept.KeptPlay.{KeptPlay}

-- a play as it may be kept: of a layout, and of at least one second
pub record IsPlay (p : PlayBody) : Type 0 where
  pub event : p.event < 2 ^ 32
  pub layout : (0 < p.layout) × (p.layout < 2 ^ 32)
  pub time : p.from < p.to
  pub end : p.to ≤ LAST_MOMENT

-- the same, of a display and an epoch, in which it is counted from 1
pub record IsKept (k : KeptPlay) : Type 0 where
  pub display : k.display < 2 ^ 32
  pub epoch : k.epoch < 2 ^ 32
  pub number : (0 < k.number) × (k.number < 2 ^ 32)
  pub play : IsPlay k.play

-- the number of the key under which it is kept
abbrev pub kept_number : KeptPlay → ℕ
kept_number k = play_number k.display k.epoch k.number

-- what the row of a key says: the play whose row it is, or none where it is the row of no play
abbrev pub IsReadAs : Key × List ℕ → Option KeptPlay → Type 0
IsReadAs row None = (k : KeptPlay) → IsKept k → kept_number k ≡ number_of row.0 → play_bytes k.play ≡ row.1 → ⊥
IsReadAs row (Some k) = IsKept k × (kept_number k ≡ number_of row.0) × (play_bytes k.play ≡ row.1)

-- plays by key
pub record AreKept (plays : List KeptPlay) : Type 0 where
  pub rising : IsRising kept_number plays
  pub valid : AllByRecursion IsKept plays

-- a play is in the list exactly where its row is there
abbrev pub IsListed : (ℕ → Option (List ℕ)) → List KeptPlay → KeptPlay → Type 0
IsListed rows plays k = (found kept_number (kept_number k) plays ≡ Some k) ↔ (rows (kept_number k) ≡ Some (play_bytes k.play))

-- the list has the plays whose rows are there, and no other
abbrev pub HasPlays : (ℕ → Option (List ℕ)) → List KeptPlay → Type 0
HasPlays rows plays = (k : KeptPlay) → IsKept k → IsListed rows plays k
