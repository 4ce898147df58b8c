use Rattle.std.proofs.Common.{arith}
use Rattle.sg_edits.proofs.PieceCalls.{piece_after}
use Rattle.sg_edits.proofs.pieces.put_piece.Goals as goal

pub returns-clause-put : goal.returns-clause-put
returns-clause-put g c clients epochs limit =
    piece_after c.put.result (g.K.Keeper.view c.args.keeper.now).told c.args.tables.now.rows c.put.new.tables.rows clients epochs limit (g.K.Keeper.view c.args.keeper.now).rows (g.K.Keeper.view c.put.new.keeper).rows c.args.media c.args.offset c.args.bytes.now (omega arith) c.requires c.put.ensures.put
