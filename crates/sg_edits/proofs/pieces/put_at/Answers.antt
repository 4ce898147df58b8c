use Rattle.std.proofs.Common.{◌∙◌, sym}
use Rattle.sg_edits.proofs.KeeperLemmas.{failed_then, ran_then, same_then}
use Rattle.sg_edits.proofs.PieceCalls.{at_held, at_new}
use Rattle.sg_edits.proofs.pieces.put_at.Goals as goal

pub returns-then-branch-clause-put : goal.returns-then-branch-clause-put
returns-then-branch-clause-put g c told stored h =
    at_held c.args.tables.now.rows (g.K.Keeper.view c.args.keeper.now).rows (g.K.Keeper.view c.is_held.new.keeper).rows c.args.medium c.args.offset c.args.bytes.now stored c.held_reply.result
    (sym (c.in_ok-is_held.ensures.held told stored h) ∙ c.if-branch.true) c.held_reply.ensures (c.in_ok-is_held.ensures.same told)

pub returns-clause-put : goal.returns-clause-put
returns-clause-put g c =
    let now = g.K.Keeper.view c.args.keeper.now in
    let mid = g.K.Keeper.view c.is_held.new.keeper in
    at_new c.put_new.result now.told mid.told c.args.tables.now.rows c.put_new.new.tables.rows now.rows mid.rows (g.K.Keeper.view c.put_new.new.keeper).rows c.args.medium c.args.offset c.args.bytes.now
    (λ told stored h. sym (c.in_ok-is_held.ensures.held told stored h) ∙ c.if-branch.false) c.in_ok-is_held.ensures.ran.told c.in_ok-is_held.ensures.same c.put_new.ensures.put

pub returns-clause-ran : goal.returns-clause-ran
returns-clause-ran g c =
    ran_then 0 0 c.put_new.result (g.K.Keeper.view c.args.keeper.now) (g.K.Keeper.view c.is_held.new.keeper) (g.K.Keeper.view c.put_new.new.keeper) c.in_ok-is_held.ensures.ran c.put_new.ensures.ran

pub returns-clause-failed : goal.returns-clause-failed
returns-clause-failed g c =
    failed_then 0 c.put_new.result (g.K.Keeper.view c.args.keeper.now) (g.K.Keeper.view c.is_held.new.keeper) (g.K.Keeper.view c.put_new.new.keeper) c.in_ok-is_held.ensures.ran c.put_new.ensures.failed

pub returns-clause-same : goal.returns-clause-same
returns-clause-same g c =
    same_then 0 c.put_new.result (g.K.Keeper.view c.args.keeper.now) (g.K.Keeper.view c.is_held.new.keeper) (g.K.Keeper.view c.put_new.new.keeper) c.in_ok-is_held.ensures.ran c.in_ok-is_held.ensures.same c.put_new.ensures.same
