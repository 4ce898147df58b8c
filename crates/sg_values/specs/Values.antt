-- The words that are values of options.
use Rattle.std.specs.Prelude.{ℕ, ◌&&◌, nat_le, if◌then◌else◌, Bool, List, Option, None, Some, decimal}
use Rattle.std.specs.Str.{bytes_eq}
use Rattle.std.specs.Str.Parse.{digits_value}
use Rattle.sg_base.specs.declared.limits.TheConstants.{MAX_PLACE}
use Rattle.sg_base.specs.Texts.{is_short}

-- the number, if it is in a range
abbrev pub ranged : ℕ → ℕ → ℕ → Option ℕ
ranged low high n = if nat_le low n && nat_le n high then Some n else None

-- the number from one to another that a word is in decimal, without a sign or a leading zero: it is written as the word
abbrev pub number_at : ℕ → ℕ → List ℕ → Option ℕ
number_at low high word = if bytes_eq word (decimal (digits_value 10 word)) then ranged low high (digits_value 10 word) else None

-- the path of a file or a folder, or an address
abbrev pub is_place : List ℕ → Bool
is_place word = is_short MAX_PLACE word
