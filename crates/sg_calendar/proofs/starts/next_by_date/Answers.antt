use Rattle.sg_calendar.proofs.StartLemmas.{day_next}
use Rattle.sg_calendar.proofs.starts.next_by_date.Goals as goal

pub returns-in-Some : goal.returns-in-Some
returns-in-Some c = day_next c.args.repeat.now c.args.from c.args.first c.in-Some.day c.in-Some.ensures
