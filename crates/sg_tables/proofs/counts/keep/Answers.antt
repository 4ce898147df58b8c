use Rattle.std.proofs.Common.{◌∙◌, ap}
use Rattle.sg_tables.specs.Counts.{counted}
use Rattle.sg_tables.specs.Rows.{number_at}
use Rattle.sg_tables.proofs.CountLemmas.{counted_here, counted_there}
use Rattle.sg_tables.proofs.counts.keep.Goals as goal

pub returns-clause-here : goal.returns-clause-here
returns-clause-here c = ap (λ cs. counted (number_at c.args.row) cs) c.put.ensures.items ∙ counted_here (record { row = c.args.row; count = c.args.count }) c.args.counts.now.items

pub returns-clause-others : goal.returns-clause-others
returns-clause-others c n other = ap (λ cs. counted n cs) c.put.ensures.items ∙ counted_there (record { row = c.args.row; count = c.args.count }) c.args.counts.now.items n other
