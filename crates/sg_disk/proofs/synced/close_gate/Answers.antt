use Rattle.sg_disk.proofs.Moments.{unchanged, unchanged_failed, unchanged_joined}
use Rattle.sg_disk.proofs.synced.close_gate.Goals as goal

pub returns-in_err-sync-clause-untouched : goal.returns-in_err-sync-clause-untouched
returns-in_err-sync-clause-untouched g c closed =
    unchanged_joined (g.D.Disk.view c.args.disk.now) (g.D.Disk.view c.touch_gate.new.disk) (g.D.Disk.view c.sync.new.self)
    (c.in_ok-touch_gate.ensures.untouched closed)
    (unchanged_failed (g.D.Disk.view c.touch_gate.new.disk) (g.D.Disk.view c.sync.new.self) c.in_err-sync.ensures.failed)

pub returns-clause-untouched : goal.returns-clause-untouched
returns-clause-untouched g c closed =
    unchanged_joined (g.D.Disk.view c.args.disk.now) (g.D.Disk.view c.touch_gate.new.disk) (g.D.Disk.view c.sync.new.self)
    (c.in_ok-touch_gate.ensures.untouched closed)
    (unchanged (g.D.Disk.view c.touch_gate.new.disk) (g.D.Disk.view c.sync.new.self) c.in_ok-sync.ensures.passed)
