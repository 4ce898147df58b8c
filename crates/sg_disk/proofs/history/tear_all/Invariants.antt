use Rattle.std.proofs.Common.{◌≡◌, take}
use Rattle.sg_disk.specs.History.{torn_replayed}
use Rattle.sg_disk.proofs.history.tear_all.Given as goal

abbrev pub invariant-loop-call : goal.invariant-loop-call
invariant-loop-call l = l.bytes.items ≡ torn_replayed l.pick l.fn.bytes.items (take l.call-index l.calls)
