use Rattle.std.proofs.Common.{◌≡◌, ◌+◌, ◌-◌, ◌≤◌, List, ◌++◌, drop, vec_len, vec_capacity}
use Rattle.std.specs.List.{AllByRecursion}
use Rattle.sg_voice.specs.declared.play.Play.{Play}
use Rattle.sg_voice.specs.Hour.{IsInterrupt, round_of, total}
use Rattle.sg_voice.specs.Within.{within}
use Rattle.sg_voice.proofs.rounds.one_round.Given as goal

abbrev pub invariant-loop-interrupt : goal.invariant-loop-interrupt
invariant-loop-interrupt l = record {
  sound : AllByRecursion IsInterrupt (drop l.interrupt-index l.interrupts);
  items : (rest : List Play) → l.plays.items ++ within l.left (round_of l.round (drop l.interrupt-index l.interrupts) ++ rest) ≡ l.fn.plays.items ++ within l.room (round_of l.round l.interrupts ++ rest);
  left : l.left - total (round_of l.round (drop l.interrupt-index l.interrupts)) ≡ l.room - total (round_of l.round l.interrupts);
  hour : vec_len l.plays + l.left ≤ 3600;
  capacity : 3600 ≤ vec_capacity l.plays;
}
