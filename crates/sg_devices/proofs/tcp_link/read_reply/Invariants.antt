use Rattle.std.proofs.Common.{length, ◌-◌, ◌≡◌, ◌≤◌}
use Rattle.sg_devices.proofs.tcp_link.read_reply.Given as goal

-- What came so far has room.
abbrev pub invariant-loop-count : goal.invariant-loop-count
invariant-loop-count g l = record {
  within : l.count ≤ length l.reply;
  len : length l.reply ≡ length l.initial.reply;
}

abbrev pub decreases-loop-count : goal.decreases-loop-count
decreases-loop-count g l = length l.initial.reply - l.count
