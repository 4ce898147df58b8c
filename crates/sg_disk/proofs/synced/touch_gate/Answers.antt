use Rattle.std.proofs.Common.{[], ◌∷◌}
use Rattle.sg_disk.proofs.Writes.{within_write}
use Rattle.sg_disk.proofs.synced.touch_gate.Goals as goal

pub returns-in_ok-write_at-clause-within : goal.returns-in_ok-write_at-clause-within
returns-in_ok-write_at-clause-within g c =
    within_write c.args.place (0 ∷ []) (g.D.Disk.view c.args.disk.now) (g.D.Disk.view c.write_at.new.self) c.requires c.in_ok-write_at.ensures.passed
