use Rattle.std.proofs.Common.{◌∙◌, arith}
use Rattle.sg_calendar.proofs.StartLemmas.{IsCut, hour_latest}
use Rattle.sg_calendar.proofs.starts.latest_by_hour.Goals.{in-Some, in-None}
use Rattle.sg_calendar.proofs.starts.latest_by_hour.Goals as goal

pub returns : goal.returns
returns c =
    let cut : IsCut c.args.repeat.now.until c.args.t c.match-until.cut =
    elim c.match-until.branch [
      | in-Some w ↦ rw (← w.in-Some.ensures.value) (w.cut-is ∙ w.min-cut.ensures)
      | in-None w ↦ rw (← w.in-None.ensures.value) w.cut-is
    ] in
    rw c.every.ensures.value (hour_latest c.args.repeat.now c.args.from (omega (arith, c.every.ensures.value, c.every.ensures.some)) c.args.t c.match-until.cut c.if-cut-from.false cut)
