use Rattle.std.proofs.Common.{length}
use Rattle.sg_disk.proofs.Writes.{within_joined, within_write, within_same, within_same_failed}
use Rattle.sg_disk.proofs.synced.write_synced.Goals as goal

pub returns-in_err-sync-clause-within : goal.returns-in_err-sync-clause-within
returns-in_err-sync-clause-within g c =
    let n = length c.args.bytes.now in
    within_joined c.args.place n (g.D.Disk.view c.args.disk.now) (g.D.Disk.view c.write_at.new.self) (g.D.Disk.view c.sync.new.self)
    c.in_ok-write_at.ensures.passed.told
    (within_write c.args.place c.args.bytes.now _ _ c.requires c.in_ok-write_at.ensures.passed)
    (within_same_failed c.args.place n _ _ c.in_err-sync.ensures.failed)

pub returns-clause-within : goal.returns-clause-within
returns-clause-within g c =
    let n = length c.args.bytes.now in
    within_joined c.args.place n (g.D.Disk.view c.args.disk.now) (g.D.Disk.view c.write_at.new.self) (g.D.Disk.view c.sync.new.self)
    c.in_ok-write_at.ensures.passed.told
    (within_write c.args.place c.args.bytes.now _ _ c.requires c.in_ok-write_at.ensures.passed)
    (within_same c.args.place n _ _ c.in_ok-sync.ensures.passed)
