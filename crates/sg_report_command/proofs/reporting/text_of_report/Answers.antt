use Rattle.std.proofs.Common.{ℕ, Vec, Global}
use Rattle.sg_report_command.proofs.ReportLemmas.{not_opened, reported_if, stopped_counting}
use Rattle.sg_report_command.proofs.reporting.text_of_report.Goals.{in-Ok, in-Err}
use Rattle.sg_report_command.proofs.reporting.text_of_report.Goals as goal

pub returns-clause-report : goal.returns-clause-report
returns-clause-report g c = elim c.match-open_server.branch [
  | in-Ok w ↦ rw (w.result-is, w.keeper-is)
      (reported_if (λ (v : Vec ℕ Global). v.items) c.args.from c.args.to (g.K.Keeper.view c.args.keeper.now) (g.K.Keeper.view c.open_server.new.keeper) (g.K.Keeper.view w.counted.new.keeper)
      w.counted.result w.in-Ok.ensures.opened w.in-Ok.ensures.ran w.in-Ok.ensures.same w.counted.ensures.report w.counted.ensures.ran)
  | in-Err w ↦ rw w.result-is tt
]

pub returns-clause-stop : goal.returns-clause-stop
returns-clause-stop g c = elim c.match-open_server.branch [
  | in-Ok w ↦ rw (w.result-is, w.keeper-is)
      (stopped_counting c.args.from c.args.to (g.K.Keeper.view c.args.keeper.now) (g.K.Keeper.view c.open_server.new.keeper) (g.K.Keeper.view w.counted.new.keeper) w.counted.result w.in-Ok.ensures.ran w.counted.ensures.stop)
  | in-Err w ↦ rw (w.result-is, w.keeper-is)
      (not_opened c.args.from c.args.to (g.K.Keeper.view c.args.keeper.now) (g.K.Keeper.view c.open_server.new.keeper) w.in-Err.stop w.in-Err.ensures.stop)
]
