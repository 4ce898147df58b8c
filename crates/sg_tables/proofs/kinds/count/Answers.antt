use Rattle.std.proofs.Common.{◌∙◌, ap, length}
use Rattle.std.proofs.lemmas.List.Sums.{length-filter}
use Rattle.sg_tables.specs.Refusals.{is_of}
use Rattle.sg_tables.proofs.kinds.count.Goals as goal

pub returns : goal.returns
returns c = ap length c.of_kind.ensures ∙ length-filter (is_of c.args.kind) c.args.entries.now.items
