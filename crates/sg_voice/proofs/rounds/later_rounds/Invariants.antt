use Rattle.std.proofs.Common.{◌≡◌, ℕ, ◌+◌, ◌-◌, ◌≤◌, ◌++◌, vec_len, vec_capacity}
use Rattle.std.specs.List.{AllByRecursion}
use Rattle.sg_voice.specs.Hour.{IsInterrupt, round_of, rounds_of, most_of, total}
use Rattle.sg_voice.specs.Within.{within}
use Rattle.sg_voice.proofs.rounds.later_rounds.Given as goal

abbrev pub invariant-loop-round : goal.invariant-loop-round
invariant-loop-round l = record {
  sound : AllByRecursion IsInterrupt l.alive.items;
  -- what was dropped plays in no round that is left
  same : (s : ℕ) → l.round ≤ s → round_of s l.alive.items ≡ round_of s l.fn.alive.items;
  items : l.plays.items ++ within l.left (rounds_of (most_of l.fn.alive.items - l.round) l.round l.fn.alive.items) ≡ l.fn.plays.items ++ within l.room (rounds_of (most_of l.fn.alive.items - 1) 1 l.fn.alive.items);
  left : l.left - total (rounds_of (most_of l.fn.alive.items - l.round) l.round l.fn.alive.items) ≡ l.room - total (rounds_of (most_of l.fn.alive.items - 1) 1 l.fn.alive.items);
  hour : vec_len l.plays + l.left ≤ 3600;
  plays : 3600 ≤ vec_capacity l.plays;
  alive : 3600 ≤ vec_capacity l.alive;
}
