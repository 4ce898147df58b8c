use Rattle.std.proofs.Common.{◌≡◌, ◌∙◌, ap, sym, subst}
use Rattle.std.specs.Prelude.{IfOk}
use Rattle.sg_edits.specs.Edited.{core_of}
use Rattle.sg_edits.proofs.AfterLemmas.{ordered_edit, same_core, stands_edit}
use Rattle.sg_edits.proofs.EditStands.{stands_same}
use Rattle.sg_edits.proofs.KeeperLemmas.{ran_any}
use Rattle.sg_records.specs.declared.reply.Reply.{Reply}
use Rattle.sg_steps.specs.Step.{stepped}
use Rattle.sg_edits.proofs.editing.edit.Goals as goal

pub returns-in-Some-clause-step : goal.returns-in-Some-clause-step
returns-in-Some-clause-step g c epochs limit =
    sym (ap (stepped (core_of c.args.tables.now.rows c.args.clients.now.items epochs limit) c.args.client c.args.seq c.args.edit.now) (sym c.given_reply.ensures ∙ c.in-Some.is))

pub returns-in-Some-clause-rows : goal.returns-in-Some-clause-rows
returns-in-Some-clause-rows g c epochs limit server content told s =
    stands_same (core_of c.args.tables.now.rows c.args.clients.now.items epochs limit) content (g.K.Keeper.view c.args.keeper.now).rows s

pub returns-in-None-clause-step : goal.returns-in-None-clause-step
returns-in-None-clause-step g c epochs limit =
    subst (λ x. IfOk c.execute.result (λ (r : Reply). record { core = core_of c.execute.new.tables.rows c.execute.new.clients.items epochs limit; reply = r }
    ≡ stepped (core_of c.args.tables.now.rows c.args.clients.now.items epochs limit) c.args.client c.args.seq c.args.edit.now x))
    (sym (sym c.given_reply.ensures ∙ c.in-None.is)) (c.execute.ensures.step epochs limit)

pub returns-in-None-clause-server : goal.returns-in-None-clause-server
returns-in-None-clause-server g c epochs limit server =
    ordered_edit c.execute.result (core_of c.args.tables.now.rows c.args.clients.now.items epochs limit) (core_of c.execute.new.tables.rows c.execute.new.clients.items epochs limit) c.args.client c.args.seq c.args.edit.now c.requires (c.execute.ensures.step epochs limit)
    (same_core c.execute.result c.execute.new.tables.rows c.args.tables.now.rows c.execute.new.clients.items c.args.clients.now.items epochs limit c.execute.ensures.tables c.execute.ensures.clients) server

pub returns-in-None-clause-rows : goal.returns-in-None-clause-rows
returns-in-None-clause-rows g c epochs limit server =
    stands_edit c.execute.result (g.K.Keeper.view c.args.keeper.now).told (core_of c.args.tables.now.rows c.args.clients.now.items epochs limit) (core_of c.execute.new.tables.rows c.execute.new.clients.items epochs limit)
    (g.K.Keeper.view c.args.keeper.now).rows (g.K.Keeper.view c.execute.new.keeper).rows c.args.client c.args.seq c.args.edit.now c.ranges.client.fits c.requires (c.execute.ensures.step epochs limit) c.execute.ensures.rows server

pub returns-in-None-clause-ran : goal.returns-in-None-clause-ran
returns-in-None-clause-ran g c = ran_any c.execute.result (g.K.Keeper.view c.args.keeper.now) (g.K.Keeper.view c.execute.new.keeper) c.execute.ensures.ran
