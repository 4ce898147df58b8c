use Rattle.std.proofs.Common.{◌∙◌, sym}
use Rattle.sg_tables.proofs.CountLemmas.{no_user}
use Rattle.sg_tables.proofs.faults.used.Goals as goal

pub returns-then-count_of-eq0 : goal.returns-then-count_of-eq0
returns-then-count_of-eq0 c =
    sym (no_user c.args.id c.args.entries.now.items (sym c.requires.counted ∙ (sym c.count_of.ensures ∙ c.if-count_of-eq0.true)))
