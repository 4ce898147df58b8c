use Rattle.std.proofs.Common.{refl}
use Rattle.sg_edit_command.proofs.EndLemmas.{edits_opened}
use Rattle.sg_edit_command.specs.Edits.{Edits, EditsRows}
use Rattle.sg_edit_command.specs.Edits.EditsRows.{unopened}
use Rattle.sg_endings.proofs.Endings.{retold, stopped_first}
use Rattle.sg_endings.specs.Stops.{status_of, text_of}
use Rattle.sg_lines.specs.Reading.{Input, side}
use Rattle.sg_edit_command.proofs.editing.edit.Goals as goal

pub returns-in-Ok : goal.returns-in-Ok
returns-in-Ok g c =
    let before : Input = side g.S.Ends.left g.S.Ends.take_faults c.args.source.now in
    let after : Input = side g.S.Ends.left g.S.Ends.take_faults c.answer_all.new.source in
    retold (Edits c.in-Ok.cms before after (g.K.Keeper.view c.open_server.new.keeper) (g.K.Keeper.view c.answer_all.new.keeper))
    (EditsRows before after (g.K.Keeper.view c.args.keeper.now) (g.K.Keeper.view c.answer_all.new.keeper)) c.answer_all.result _ _ _ _
    (edits_opened c.in-Ok.cms before after (g.K.Keeper.view c.args.keeper.now) (g.K.Keeper.view c.open_server.new.keeper) (g.K.Keeper.view c.answer_all.new.keeper) c.in-Ok.ensures.ran
    c.in-Ok.ensures.same c.in-Ok.ensures.opened)
    c.answer_all.ensures

pub returns-in-Err : goal.returns-in-Err
returns-in-Err g c =
    let before : Input = side g.S.Ends.left g.S.Ends.take_faults c.args.source.now in
    stopped_first (EditsRows before before (g.K.Keeper.view c.args.keeper.now) (g.K.Keeper.view c.open_server.new.keeper)) (status_of c.in-Err.stop) (text_of c.in-Err.stop) c.finish.result _ _ _ _
    c.finish.ensures (unopened c.in-Err.stop c.in-Err.ensures.stop refl)
