-- The rows of epochs, of plays and of a medium's pieces: numbers in little-endian order, and bytes.
use Rattle.std.specs.Prelude.{ℕ, ◌+◌, ◌*◌, ◌^◌, ◌&&◌, nat_le, nat_lt, Bool, IsTrue, List, ◌++◌}
use Rattle.std.specs.Int.{w32, to_le_bytes}
use Rattle.sg_base.specs.declared.limits.TheConstants.{MAX_EPOCH}
use Rattle.sg_base.specs.declared.play.PlayBody.{PlayBody}
use Rattle.sg_base.specs.Keys.{number}
use Rattle.sg_records.specs.declared.epoch.Epoch.{Epoch}
use Rattle.sg_records.specs.Clients.{is_id}

-- the number of the key under which an epoch is kept
abbrev pub epoch_number : Epoch → ℕ
epoch_number e = number 9 e.display e.epoch

-- how many plays it has
abbrev pub epoch_bytes : Epoch → List ℕ
epoch_bytes e = to_le_bytes w32 e.plays

-- an epoch as it may be kept: 1 to 65,535 of a display, with no more plays than a server takes
abbrev pub is_epoch : ℕ → Epoch → Bool
is_epoch limit e = is_id e.display && (nat_lt 0 e.epoch && (nat_le e.epoch MAX_EPOCH && nat_le e.plays limit))

abbrev pub IsEpoch : ℕ → Epoch → Type 0
IsEpoch limit e = IsTrue (is_epoch limit e)

-- the number of the key of a play, which is counted from 1 in its epoch
abbrev pub play_number : ℕ → ℕ → ℕ → ℕ
play_number display epoch n = number 10 (display * 2 ^ 32 + epoch) n

abbrev pub play_bytes : PlayBody → List ℕ
play_bytes p = to_le_bytes w32 p.event ++ (to_le_bytes w32 p.layout ++ (to_le_bytes w32 p.from ++ to_le_bytes w32 p.to))

-- the number of the key of a medium's piece, counted from 0
abbrev pub piece_number : ℕ → ℕ → ℕ
piece_number media index = number 11 media index
