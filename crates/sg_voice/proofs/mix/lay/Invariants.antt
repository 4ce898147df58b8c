use Rattle.std.proofs.Common.{◌≡◌, ◌≤◌, ◌++◌, drop, vec_len, vec_capacity}
use Rattle.std.specs.List.{AllByRecursion}
use Rattle.sg_voice.specs.Hour.{IsPlay, placed}
use Rattle.sg_voice.proofs.mix.lay.Given as goal

abbrev pub invariant-loop-play : goal.invariant-loop-play
invariant-loop-play l = record {
  sound : AllByRecursion IsPlay (drop l.play-index l.plays);
  items : l.slots.items ++ placed l.at (drop l.play-index l.plays) ≡ placed 0 l.plays;
  behind : vec_len l.slots ≤ l.at;
  capacity : 3600 ≤ vec_capacity l.slots;
}
