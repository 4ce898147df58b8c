use Rattle.std.proofs.Common.{sym, ◌∙◌}
use Rattle.sg_disk.proofs.Logs.{read_of-reverse}
use Rattle.sg_disk.proofs.history.Log.current.Goals as goal

pub returns : goal.returns
returns c = c.deref.ensures.value ∙ c.args.self.now.reads ∙ sym (read_of-reverse c.args.self.now.first.items c.args.self.now.calls.items)
