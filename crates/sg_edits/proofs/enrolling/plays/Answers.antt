use Rattle.std.proofs.Common.{arith}
use Rattle.sg_edits.specs.Edited.{core_of}
use Rattle.sg_edits.proofs.AfterLemmas.{ordered_plays, stands_batch, step_played}
use Rattle.sg_edits.proofs.enrolling.plays.Goals as goal

pub returns-clause-step : goal.returns-clause-step
returns-clause-step g c rows clients =
    step_played c.add_plays.result (core_of rows clients c.args.epochs.now.items c.args.limit) c.add_plays.new.epochs.items c.args.of.0 c.args.of.1 c.args.first c.args.list.now c.add_plays.ensures.step

pub returns-clause-server : goal.returns-clause-server
returns-clause-server g c rows clients server =
    ordered_plays c.add_plays.result (core_of rows clients c.args.epochs.now.items c.args.limit) c.add_plays.new.epochs.items c.args.of.0 c.args.of.1 c.args.first c.args.list.now (omega arith) (omega arith)
    c.add_plays.ensures.step c.add_plays.ensures.unchanged server

pub returns-clause-rows : goal.returns-clause-rows
returns-clause-rows g c rows clients server =
    stands_batch c.add_plays.result (g.K.Keeper.view c.args.keeper.now).told (core_of rows clients c.args.epochs.now.items c.args.limit) c.add_plays.new.epochs.items
    (g.K.Keeper.view c.args.keeper.now).rows (g.K.Keeper.view c.add_plays.new.keeper).rows c.args.of.0 c.args.of.1 c.args.first c.args.list.now (omega arith) (omega arith)
    c.add_plays.ensures.step c.add_plays.ensures.rows server
