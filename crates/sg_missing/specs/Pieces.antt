-- The pieces of a file that are missing.
use Rattle.std.specs.Prelude.{◌≡◌, ◌⊎◌, ℕ, zero, suc, ◌+◌, ◌-◌, ◌*◌, ◌/◌, ◌%◌, ◌<◌, min, List, [], ◌∷◌}
use Rattle.sg_base.specs.declared.limits.TheConstants.{PIECE_LEN}

-- where the piece ends that begins at a place in a file of so many bytes: at the next multiple of a piece's length, or with the file
abbrev pub piece_end : ℕ → ℕ → ℕ
piece_end at n = min (PIECE_LEN * (at / PIECE_LEN + 1)) n

-- so many pieces in a row, by the places at which they begin, from this one of the file on
abbrev pub begins_from : ℕ → ℕ → List ℕ
begins_from piece zero = []
begins_from piece (suc more) = PIECE_LEN * piece ∷ begins_from (piece + 1) more

-- Where the missing pieces of a file of n bytes begin, of which the first `here` are there: right after these, and at every later
-- multiple of a piece's length below n.
abbrev pub missing_from : ℕ → ℕ → List ℕ
missing_from here n =
    here ∷ begins_from (here / PIECE_LEN + 1) ((n + (PIECE_LEN - 1)) / PIECE_LEN - (here / PIECE_LEN + 1))

-- a missing piece begins at this place
abbrev pub IsMissingAt : ℕ → ℕ → ℕ → Type 0
IsMissingAt here n at = (at ≡ here) ⊎ ((here < at) × (at < n) × (at % PIECE_LEN ≡ 0))
