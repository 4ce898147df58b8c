use Rattle.std.proofs.Common.{◌≡◌, ◌+◌, ◌-◌, ◌≤◌}
use Rattle.sg_voice.specs.Hour.{fill_from, normal_count}
use Rattle.sg_voice.proofs.mix.fill.Given as goal

abbrev pub invariant-loop-left : goal.invariant-loop-left
invariant-loop-left l = record {
  so_far : fill_from (l.room - l.n) l.normal l.n l.left + l.n ≡ normal_count l.normal l.room;
  room : l.left + l.n ≤ l.room;
}

abbrev pub decreases-loop-left : goal.decreases-loop-left
decreases-loop-left l = l.left
