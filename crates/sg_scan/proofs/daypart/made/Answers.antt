use Rattle.std.proofs.Common.{rules}
use Rattle.sg_rows.proofs.DaypartLemmas.{Made, valid_made}
use Rattle.sg_scan.proofs.daypart.made.Goals as goal

pub returns-in-Ok : goal.returns-in-Ok
returns-in-Ok c =
    let made = c.in-Ok.ensures.made in
    let is : Made (record { 0 = c.args.id }) c.args.window c.args.exceptions.items c.args.dates.items c.in-Ok.daypart = record {
      none = made.0;
      named = made.1;
      window = made.2;
      exceptions = c.in-Ok.ensures.one_order;
      dates = c.in-Ok.ensures.one_order_of_dates;
    } in
    valid_made c.args.form (record { 0 = c.args.id }) c.args.window c.args.exceptions.items c.args.dates.items c.in-Ok.daypart is
    c.requires.id c.requires.window c.requires.exceptions c.requires.dates c.requires.allowed (search rules)
