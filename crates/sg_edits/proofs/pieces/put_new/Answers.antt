use Rattle.std.proofs.Common.{◌∙◌}
use Rattle.sg_edits.proofs.PieceCalls.{new_next}
use Rattle.sg_edits.proofs.pieces.put_new.Goals as goal

pub returns-clause-put : goal.returns-clause-put
returns-clause-put g c =
    let now = g.K.Keeper.view c.args.keeper.now in
    new_next c.put_next.result now.told c.args.tables.now.rows c.put_next.new.tables.rows now.rows (g.K.Keeper.view c.put_next.new.keeper).rows c.args.medium c.args.offset c.args.bytes.now
    c.if-medium.false c.if-offset-medium.false (c.if-bytes-wanted.false ∙ c.wanted-wanted.ensures) c.put_next.ensures.put
