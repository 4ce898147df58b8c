use Rattle.std.proofs.Common.{◌∙◌, List, ap}
use Rattle.sg_report.specs.declared.line.Line.{Line}
use Rattle.sg_report.specs.Lines.{table_text}
use Rattle.sg_report.proofs.PageLemmas.{report_of_counted}
use Rattle.sg_report.proofs.report.plays_csv.Goals as goal

pub returns-clause-report : goal.returns-clause-report
returns-clause-report g c =
    report_of_counted c.args.from c.args.to (g.K.Keeper.view c.args.keeper.now) c.count_plays.new.lines.items c.in_ok-text.text.items c.in_ok-count_plays.ensures.counts
    (c.in_ok-text.ensures ∙ ap (λ (lines : List Line). table_text lines) c.as_slice.ensures.items)
