use Rattle.std.proofs.Common.{◌≡◌, subst}
use Rattle.sg_edits.proofs.ExecuteLemmas.{made_rows, made_same, made_step, refused_rows, refused_same, refused_step}
use Rattle.sg_edits.proofs.StepLemmas.{tried_ok}
use Rattle.sg_steps.specs.Calls.{IsAttempt}
use Rattle.sg_steps.specs.Step.{asked, tried}
use Rattle.sg_tables.specs.Tables.{change_of}
use Rattle.sg_edits.proofs.editing.execute.Goals as goal

pub commit-requires-clause-asked : goal.commit-requires-clause-asked
commit-requires-clause-asked g c =
    let is = subst (IsAttempt c.attempt.new.tables (tried c.args.tables.now.rows (asked c.args.edit.now))) c.in-Ok.is c.in_ok-prepared.ensures.attempt in
    (tried_ok c.args.tables.now.rows (asked c.args.edit.now) (change_of c.in-Ok.prepared) is.1).0

pub returns-in-Ok-clause-step : goal.returns-in-Ok-clause-step
returns-in-Ok-clause-step g c epochs limit =
    let is = subst (IsAttempt c.attempt.new.tables (tried c.args.tables.now.rows (asked c.args.edit.now))) c.in-Ok.is c.in_ok-prepared.ensures.attempt in
    made_step c.commit.result c.args.tables.now.rows c.attempt.new.tables.rows c.commit.new.tables.rows c.args.clients.now.items c.commit.new.clients.items epochs limit c.args.client c.args.seq
    (tried c.args.tables.now.rows (asked c.args.edit.now)) (change_of c.in-Ok.prepared) is.1 c.attempt.ensures.rows c.commit.ensures.reply c.commit.ensures.done c.commit.ensures.kept

pub returns-in-Ok-clause-rows : goal.returns-in-Ok-clause-rows
returns-in-Ok-clause-rows g c =
    let is = subst (IsAttempt c.attempt.new.tables (tried c.args.tables.now.rows (asked c.args.edit.now))) c.in-Ok.is c.in_ok-prepared.ensures.attempt in
    made_rows c.commit.result (g.K.Keeper.view c.args.keeper.now).told c.args.tables.now.rows c.attempt.new.tables.rows c.args.client c.args.seq (tried c.args.tables.now.rows (asked c.args.edit.now)) (change_of c.in-Ok.prepared)
    (g.K.Keeper.view c.args.keeper.now).rows (g.K.Keeper.view c.commit.new.keeper).rows is.1 c.attempt.ensures.rows c.commit.ensures.rows

pub returns-in-Ok-clause-tables : goal.returns-in-Ok-clause-tables
returns-in-Ok-clause-tables g c =
    made_same c.commit.result c.args.tables.now.rows c.attempt.new.tables.rows c.commit.new.tables.rows c.attempt.ensures.rows c.commit.ensures.tables

pub returns-in-Err-clause-step : goal.returns-in-Err-clause-step
returns-in-Err-clause-step g c epochs limit =
    let is = subst (IsAttempt c.attempt.new.tables (tried c.args.tables.now.rows (asked c.args.edit.now))) c.in-Err.is c.in_ok-prepared.ensures.attempt in
    refused_step c.keep_reply.result c.args.tables.now.rows c.attempt.new.tables.rows c.args.clients.now.items c.keep_reply.new.clients.items epochs limit c.args.client c.args.seq
    (tried c.args.tables.now.rows (asked c.args.edit.now)) c.in-Err.reply is c.attempt.ensures.rows c.keep_reply.ensures.reply c.keep_reply.ensures.kept

pub returns-in-Err-clause-rows : goal.returns-in-Err-clause-rows
returns-in-Err-clause-rows g c =
    let is = subst (IsAttempt c.attempt.new.tables (tried c.args.tables.now.rows (asked c.args.edit.now))) c.in-Err.is c.in_ok-prepared.ensures.attempt in
    refused_rows c.keep_reply.result (g.K.Keeper.view c.args.keeper.now).told c.args.tables.now.rows c.args.client c.args.seq (tried c.args.tables.now.rows (asked c.args.edit.now)) c.in-Err.reply
    (g.K.Keeper.view c.args.keeper.now).rows (g.K.Keeper.view c.keep_reply.new.keeper).rows is c.keep_reply.ensures.rows

pub returns-in-Err-clause-tables : goal.returns-in-Err-clause-tables
returns-in-Err-clause-tables g c =
    refused_same c.keep_reply.result c.args.tables.now.rows c.attempt.new.tables.rows c.attempt.ensures.rows
