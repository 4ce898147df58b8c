use Rattle.std.proofs.Common.{◌≡◌, ◌+◌, ◌-◌, ◌*◌, ◌<◌, ◌≤◌, ◌++◌, ◌∷◌, length, vec_len, vec_capacity, slice_range}
use Rattle.sg_voice.specs.Hour.{cyclic, before, mixed, mixed_plays, placed}
use Rattle.sg_voice.proofs.mix.mix.Given as goal

-- next is how many interrupt plays are put, and next * n + remainder how far k was counted up
abbrev pub invariant-loop-j : goal.invariant-loop-j
invariant-loop-j l = record {
  items : l.slots.items ++ placed l.at (mixed l.n l.normal l.plays (l.n - l.j) l.j) ≡ placed 0 (mixed_plays l.n l.normal l.plays);
  place : l.next * l.n + l.remainder ≡ l.j * length l.plays;
  small : l.j < l.n → l.remainder < l.n;
  behind : vec_len l.slots ≤ l.at;
  capacity : 3600 ≤ vec_capacity l.slots;
}

abbrev pub invariant-loop-remainder : goal.invariant-loop-remainder
invariant-loop-remainder l = record {
  items : l.slots.items ++ placed l.at (slice_range l.plays l.next (before l.n (length l.plays) (l.j + 1)) ++ (cyclic l.normal l.j ∷ mixed l.n l.normal l.plays (l.n - (l.j + 1)) (l.j + 1))) ≡ placed 0 (mixed_plays l.n l.normal l.plays);
  place : l.next * l.n + l.remainder ≡ (l.j + 1) * length l.plays;
  behind : vec_len l.slots ≤ l.at;
  capacity : 3600 ≤ vec_capacity l.slots;
}

abbrev pub decreases-loop-remainder : goal.decreases-loop-remainder
decreases-loop-remainder l = l.remainder
