use Rattle.std.proofs.Common.{◌≡◌, ◌≤◌, take, vec_capacity}
use Rattle.sg_disk.specs.History.{replayed}
use Rattle.sg_disk.proofs.history.replay.Given as goal

abbrev pub invariant-loop-call : goal.invariant-loop-call
invariant-loop-call l = record {
  done : l.bytes.items ≡ replayed l.fn.bytes.items (take l.call-index l.calls);
  room : vec_capacity l.fn.bytes ≤ vec_capacity l.bytes;
}
