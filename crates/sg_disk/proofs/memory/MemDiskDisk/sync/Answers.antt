use Rattle.std.proofs.Common.{rules, reverse}
use Rattle.sg_disk.specs.View.{Same}
use Rattle.sg_disk.specs.declared.history.Call.TheVariants.{Sync}
use Rattle.sg_disk.proofs.MemSteps.{passes, syncs}
use Rattle.sg_disk.proofs.Noted.{on_ok, same_first, newest}
use Rattle.sg_disk.proofs.memory.MemDiskDisk.sync.Goals as goal

pub returns-clause-passed : goal.returns-clause-passed
returns-clause-passed c =
    let was = c.args.self.now.log in
    let now = c.sync.new.self in
    let mid = c.begin.new.self.log in
    let grown = on_ok c.sync.result _ (search rules) c.sync.ensures.noted in
    passes Same Same _ _ (syncs was.first.items now.first.items (reverse was.calls.items) (reverse now.calls.items) was.fits now.fits _ _ _ _ (same_first was mid now c.begin.ensures.log c.sync.ensures.first) (newest was mid now Sync c.begin.ensures.log grown)) (search rules) (search rules) (search rules)
