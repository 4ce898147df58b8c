use Rattle.std.proofs.Common.{◌≡◌, max, drop}
use Rattle.std.specs.List.{AllByRecursion}
use Rattle.sg_voice.specs.Hour.{IsInterrupt, most_of}
use Rattle.sg_voice.proofs.rounds.most.Given as goal

abbrev pub invariant-loop-interrupt : goal.invariant-loop-interrupt
invariant-loop-interrupt l = record {
  sound : AllByRecursion IsInterrupt (drop l.interrupt-index l.interrupts);
  most : max l.most (most_of (drop l.interrupt-index l.interrupts)) ≡ most_of l.interrupts;
}
