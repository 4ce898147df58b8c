use Rattle.std.proofs.Common.{◌≡◌, ◌∙◌, sym}
use Rattle.sg_edits.proofs.KeeperLemmas.{failed_then, ran_then, same_then}
use Rattle.sg_edits.proofs.PieceCalls.{last_dropped, last_whole, open_of, saved_complete, saved_without}
use Rattle.sg_edits.proofs.pieces.put_last.Goals as goal

pub returns-then-are_same-clause-put : goal.returns-then-are_same-clause-put
returns-then-are_same-clause-put g c =
    let now = g.K.Keeper.view c.args.keeper.now in
    let mid = g.K.Keeper.view c.digest_with.new.keeper in
    last_whole c.complete.result now.told mid.told c.args.tables.now.rows c.complete.new.tables.rows now.rows mid.rows (g.K.Keeper.view c.complete.new.keeper).rows c.args.medium c.args.bytes.now c.in_ok-found.found
    (record { says = c.in_ok-found.ensures.digest; same = c.in_ok-found.ensures.same }) (sym c.are_same.ensures ∙ c.if-are_same.true) c.in_ok-found.ensures.ran.told
    c.complete.ensures.reply c.complete.ensures.tables c.complete.ensures.rows

pub returns-then-are_same-clause-saved : goal.returns-then-are_same-clause-saved
returns-then-are_same-clause-saved g c =
    saved_complete c.complete.result c.args.tables.now.rows c.complete.new.tables.rows c.args.medium (open_of c.args.tables.now.rows c.args.medium c.requires.saved c.requires.there c.requires.«open») c.requires.saved c.requires.there c.complete.ensures.tables c.complete.ensures.unchanged

pub returns-then-are_same-clause-ran : goal.returns-then-are_same-clause-ran
returns-then-are_same-clause-ran g c =
    ran_then 0 1 c.complete.result (g.K.Keeper.view c.args.keeper.now) (g.K.Keeper.view c.digest_with.new.keeper) (g.K.Keeper.view c.complete.new.keeper) c.in_ok-found.ensures.ran c.complete.ensures.ran

pub returns-then-are_same-clause-failed : goal.returns-then-are_same-clause-failed
returns-then-are_same-clause-failed g c =
    failed_then 0 c.complete.result (g.K.Keeper.view c.args.keeper.now) (g.K.Keeper.view c.digest_with.new.keeper) (g.K.Keeper.view c.complete.new.keeper) c.in_ok-found.ensures.ran c.complete.ensures.failed

pub returns-then-are_same-clause-same : goal.returns-then-are_same-clause-same
returns-then-are_same-clause-same g c =
    same_then 0 c.complete.result (g.K.Keeper.view c.args.keeper.now) (g.K.Keeper.view c.digest_with.new.keeper) (g.K.Keeper.view c.complete.new.keeper) c.in_ok-found.ensures.ran c.in_ok-found.ensures.same c.complete.ensures.same

pub returns-else-are_same-clause-put : goal.returns-else-are_same-clause-put
returns-else-are_same-clause-put g c =
    let now = g.K.Keeper.view c.args.keeper.now in
    let mid = g.K.Keeper.view c.digest_with.new.keeper in
    last_dropped c.drop_all.result now.told mid.told c.args.tables.now.rows c.drop_all.new.tables.rows now.rows mid.rows (g.K.Keeper.view c.drop_all.new.keeper).rows c.args.medium c.args.bytes.now c.in_ok-found.found
    (record { says = c.in_ok-found.ensures.digest; same = c.in_ok-found.ensures.same }) (sym c.are_same.ensures ∙ c.if-are_same.false) c.in_ok-found.ensures.ran.told
    c.drop_all.ensures.reply c.drop_all.ensures.tables c.drop_all.ensures.rows

pub returns-else-are_same-clause-saved : goal.returns-else-are_same-clause-saved
returns-else-are_same-clause-saved g c =
    saved_without c.drop_all.result c.args.tables.now.rows c.drop_all.new.tables.rows c.args.medium (open_of c.args.tables.now.rows c.args.medium c.requires.saved c.requires.there c.requires.«open») c.requires.saved c.requires.there c.drop_all.ensures.tables c.drop_all.ensures.unchanged

pub returns-else-are_same-clause-ran : goal.returns-else-are_same-clause-ran
returns-else-are_same-clause-ran g c =
    ran_then 0 1 c.drop_all.result (g.K.Keeper.view c.args.keeper.now) (g.K.Keeper.view c.digest_with.new.keeper) (g.K.Keeper.view c.drop_all.new.keeper) c.in_ok-found.ensures.ran c.drop_all.ensures.ran

pub returns-else-are_same-clause-failed : goal.returns-else-are_same-clause-failed
returns-else-are_same-clause-failed g c =
    failed_then 0 c.drop_all.result (g.K.Keeper.view c.args.keeper.now) (g.K.Keeper.view c.digest_with.new.keeper) (g.K.Keeper.view c.drop_all.new.keeper) c.in_ok-found.ensures.ran c.drop_all.ensures.failed

pub returns-else-are_same-clause-same : goal.returns-else-are_same-clause-same
returns-else-are_same-clause-same g c =
    same_then 0 c.drop_all.result (g.K.Keeper.view c.args.keeper.now) (g.K.Keeper.view c.digest_with.new.keeper) (g.K.Keeper.view c.drop_all.new.keeper) c.in_ok-found.ensures.ran c.in_ok-found.ensures.same c.drop_all.ensures.same
