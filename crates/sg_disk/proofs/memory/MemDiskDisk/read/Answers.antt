use Rattle.std.proofs.Common.{List, length, take, drop, reverse, ◌∙◌, ap}
use Rattle.sg_disk.specs.View.{range}
use Rattle.sg_disk.specs.History.{read_of}
use Rattle.sg_disk.specs.declared.history.Log.{Log}
use Rattle.sg_disk.proofs.memory.MemDiskDisk.read.Goals as goal

pub returns-in-Passes-clause-ok : goal.returns-in-Passes-clause-ok
unfolding range
returns-in-Passes-clause-ok c told =
    c.copy_from_slice.ensures.after ∙ c.split_at-in-Passes.ensures.front ∙ ap (λ (l : List _). take (length c.args.into.now) l) (c.split_at.ensures.back ∙ ap (λ (l : List _). drop c.args.place l) (c.current.ensures ∙ ap (λ (l : Log). read_of l.first.items (reverse l.calls.items)) c.begin.ensures.log))
