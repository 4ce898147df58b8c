-- For private clauses: how far bytes agree with a text that comes piece by piece.
use Rattle.std.specs.Prelude.{ℕ, ◌+◌, nat_lt, Bool, false, List, [], ◌∷◌, length, drop, if◌then◌else◌, Option, Some, None}
use Rattle.sg_manifest.specs.Reading.{common}

-- the bytes to which no text came yet, how many agreed with the text, and whether the text went on otherwise
pub record Agreement : Type 0 where
  pub left : List ℕ
  pub count : ℕ
  pub apart : Bool

-- no text came yet
abbrev pub start : List ℕ → Agreement
start bytes = record { left = bytes; count = 0; apart = false }

-- a text came, of which the first n bytes agree
abbrev pub further : Agreement → List ℕ → ℕ → Agreement
further a text n = record { left = drop n a.left; count = a.count + n; apart = nat_lt n (length text) }

-- a text came
abbrev pub against : Agreement → List ℕ → Agreement
against a text = if a.apart then a else further a text (common a.left text)

abbrev pub first_left : List ℕ → ℕ → Option ℕ
first_left [] n = None
first_left (b ∷ bs) n = Some n

-- where bytes and text differ, if they do
abbrev pub difference : Agreement → Option ℕ
difference a = if a.apart then Some a.count else first_left a.left a.count
