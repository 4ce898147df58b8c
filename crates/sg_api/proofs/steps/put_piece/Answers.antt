use Rattle.sg_answers.specs.Calls.{PutPiece}
use Rattle.sg_api.proofs.AnswerLemmas.{faulted, pieced}
use Rattle.sg_api.proofs.steps.put_piece.Goals as goal

pub returns-in-Ok-clause-answered : goal.returns-in-Ok-clause-answered
returns-in-Ok-clause-answered g c =
    pieced c.args.media c.args.offset c.args.bytes.now c.args.cms.now c.put_piece.new.self
    (g.K.Keeper.view c.args.keeper.now) (g.K.Keeper.view c.put_piece.new.keeper) c.in-Ok.reply c.piece_put.result c.piece_put.ensures.outcome c.in-Ok.ensures.others
    (λ content told stands. let p = c.in-Ok.ensures.put content told stands in record { rows = p.0; reply = p.1; stands = p.2 }) c.in-Ok.ensures.ran

pub returns-in-Err-clause-answered : goal.returns-in-Err-clause-answered
returns-in-Err-clause-answered g c =
    faulted (PutPiece c.args.media c.args.offset c.args.bytes.now) c.args.cms.now c.put_piece.new.self
    (g.K.Keeper.view c.args.keeper.now) (g.K.Keeper.view c.put_piece.new.keeper) c.faulty.result c.in-Err.fault c.faulty.ensures.outcome c.in-Err.ensures.unchanged
    c.in-Err.ensures.failed c.in-Err.ensures.same
