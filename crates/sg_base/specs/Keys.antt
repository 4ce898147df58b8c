-- Keys as numbers.
use Rattle.std.specs.Prelude.{ℕ, ◌+◌, ◌*◌, ◌^◌}
use Rattle.sg_base.specs.declared.key.Key.{Key}

-- the number of a key, where each part has its own digits: keys stand in the order of their numbers
abbrev pub number : ℕ → ℕ → ℕ → ℕ
number kind a b = kind * 2 ^ 128 + (a * 2 ^ 64 + b)

abbrev pub number_of : Key → ℕ
number_of key = number key.kind key.a key.b
