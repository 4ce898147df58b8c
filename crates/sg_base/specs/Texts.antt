-- Short texts.
use Rattle.std.specs.Prelude.{ℕ, ◌&&◌, nat_le, nat_lt, Bool, List, length}
use Rattle.std.specs.Char.{is_ascii_alphanumeric}
use Rattle.std.specs.List.{list_all}
use Rattle.sg_base.specs.declared.limits.TheConstants.{MAX_KEY}

-- a text that is there and has at most so many bytes
abbrev pub is_short : ℕ → List ℕ → Bool
is_short most bytes = nat_lt 0 (length bytes) && nat_le (length bytes) most

-- letters and digits of ASCII, one at least
abbrev pub is_key : List ℕ → Bool
is_key bytes = is_short MAX_KEY bytes && list_all is_ascii_alphanumeric bytes
