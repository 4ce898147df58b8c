use Rattle.std.proofs.Common.{length, ap, arith}
use Rattle.sg_disk.proofs.Logs.{read_of-reverse}
use Rattle.sg_disk.proofs.history.Log.write.Goals as goal

pub overwrite-requires : goal.overwrite-requires
overwrite-requires c = omega (arith, c.requires, ap length c.deref_mut.ensures.value, ap length c.args.self.now.reads, ap length (read_of-reverse c.args.self.now.first.items c.args.self.now.calls.items))
