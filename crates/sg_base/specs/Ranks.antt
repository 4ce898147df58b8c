-- Ranks as numbers.
use Rattle.std.specs.Prelude.{ℕ, ◌+◌, ◌*◌, ◌^◌}
use Rattle.sg_base.specs.declared.sorted.Rank.{Rank}

-- the number that a rank stands for
abbrev pub rank_of : Rank → ℕ
rank_of rank = rank.high * 2 ^ 128 + rank.low
