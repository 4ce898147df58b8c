use Rattle.std.proofs.Common.{◌∙◌, ap, arith, sym}
use Rattle.std.specs.Option.{option_copied}
use Rattle.sg_edits.specs.Edited.{core_of}
use Rattle.sg_edits.proofs.AfterLemmas.{ordered_enrol, stands_enrol, step_enrolled, step_unknown}
use Rattle.sg_edits.proofs.enrolling.enrol.Goals as goal

pub returns-in-Some-clause-step : goal.returns-in-Some-clause-step
returns-in-Some-clause-step g c clients limit =
    step_enrolled c.give_epoch.result (core_of c.args.tables.now.rows clients c.args.epochs.now.items limit) c.give_epoch.new.epochs.items c.args.display.0 _
    (sym c.entry.ensures ∙ ap option_copied c.in-Some.is) c.give_epoch.ensures.step

pub returns-in-Some-clause-server : goal.returns-in-Some-clause-server
returns-in-Some-clause-server g c clients limit server =
    ordered_enrol c.give_epoch.result (core_of c.args.tables.now.rows clients c.args.epochs.now.items limit) c.give_epoch.new.epochs.items c.args.display.0 (omega arith) c.give_epoch.ensures.step c.give_epoch.ensures.unchanged server

pub returns-in-Some-clause-rows : goal.returns-in-Some-clause-rows
returns-in-Some-clause-rows g c clients limit server =
    stands_enrol c.give_epoch.result (g.K.Keeper.view c.args.keeper.now).told (core_of c.args.tables.now.rows clients c.args.epochs.now.items limit) c.give_epoch.new.epochs.items
    (g.K.Keeper.view c.args.keeper.now).rows (g.K.Keeper.view c.give_epoch.new.keeper).rows c.args.display.0 (omega arith) c.give_epoch.ensures.step c.give_epoch.ensures.rows server

pub returns-in-None-clause-step : goal.returns-in-None-clause-step
returns-in-None-clause-step g c clients limit =
    step_unknown (core_of c.args.tables.now.rows clients c.args.epochs.now.items limit) c.args.display (sym c.entry.ensures ∙ ap option_copied c.in-None.is)
