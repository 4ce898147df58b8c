use Rattle.sg_endings.specs.Stops.{status_of, text_of}
use Rattle.sg_endings.proofs.Endings.{stopped_first}
use Rattle.sg_report_command.specs.Reports.{Reports}
use Rattle.sg_report_command.proofs.reporting.report.Goals as goal

pub returns-in-Ok-clause-run : goal.returns-in-Ok-clause-run
returns-in-Ok-clause-run g c =
    stopped_first (Reports c.args.from c.args.to (g.K.Keeper.view c.args.keeper.now) (g.K.Keeper.view c.text_of_report.new.keeper)) 0 c.in-Ok.text.items c.put_last.result _ _ _ _
    (rw c.as_slice.ensures.value at c.put_last.ensures) c.in-Ok.ensures.report

pub returns-in-Err-clause-run : goal.returns-in-Err-clause-run
returns-in-Err-clause-run g c =
    stopped_first (Reports c.args.from c.args.to (g.K.Keeper.view c.args.keeper.now) (g.K.Keeper.view c.text_of_report.new.keeper)) (status_of c.in-Err.stop) (text_of c.in-Err.stop) c.finish.result _ _ _ _
    c.finish.ensures c.in-Err.ensures.stop
