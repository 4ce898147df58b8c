use Rattle.std.proofs.Common.{◌∙◌, ap, sym}
use Rattle.sg_base.specs.Rising.{without}
use Rattle.sg_tables.specs.Counts.{count_number, counted}
use Rattle.sg_tables.specs.Rows.{number_at}
use Rattle.sg_tables.proofs.CountLemmas.{counted_here, counted_there, counted_gone, counted_left}
use Rattle.sg_tables.proofs.counts.lower.Goals as goal

pub returns-then-count-eq0-clause-here : goal.returns-then-count-eq0-clause-here
returns-then-count-eq0-clause-here c =
    let k = number_at c.args.row in
    let gone = c.remove.ensures.items ∙ ap (λ n. without count_number n c.args.counts.now.items) (c.rank.ensures ∙ c.key.ensures) in
    ap (λ cs. counted k cs) gone ∙ (counted_gone k c.args.counts.now.items ∙ sym c.if-count-eq0.true)

pub returns-then-count-eq0-clause-others : goal.returns-then-count-eq0-clause-others
returns-then-count-eq0-clause-others c n other =
    let gone = c.remove.ensures.items ∙ ap (λ n. without count_number n c.args.counts.now.items) (c.rank.ensures ∙ c.key.ensures) in
    ap (λ cs. counted n cs) gone ∙ counted_left (number_at c.args.row) n c.args.counts.now.items other

pub returns-else-count-eq0-clause-here : goal.returns-else-count-eq0-clause-here
returns-else-count-eq0-clause-here c = ap (λ cs. counted (number_at c.args.row) cs) c.replace.ensures.items ∙ counted_here (record { row = c.args.row; count = c.args.count }) c.args.counts.now.items

pub returns-else-count-eq0-clause-others : goal.returns-else-count-eq0-clause-others
returns-else-count-eq0-clause-others c n other = ap (λ cs. counted n cs) c.replace.ensures.items ∙ counted_there (record { row = c.args.row; count = c.args.count }) c.args.counts.now.items n other
