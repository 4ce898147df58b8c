use Rattle.std.proofs.Common.{refl}
use Rattle.sg_edit_command.proofs.EndLemmas.{ends_now, next_line}
use Rattle.sg_edit_command.specs.Answering.{EndsNext, stop_of}
use Rattle.sg_edit_command.specs.Answering.EndsNext.{none, stopped}
use Rattle.sg_endings.proofs.Endings.{stopped_first}
use Rattle.sg_endings.specs.Stops.{status_of, text_of}
use Rattle.sg_lines.specs.Reading.{Input, side}
use Rattle.sg_loading.proofs.RunLemmas.{ran_none}
use Rattle.sg_edit_command.proofs.editing.answer_next.Goals as goal

pub returns-in-Ok-Some : goal.returns-in-Ok-Some
returns-in-Ok-Some g c =
    let before : Input = side g.S.Ends.left g.S.Ends.take_faults c.args.source.now in
    let after : Input = side g.S.Ends.left g.S.Ends.take_faults c.next.new.source in
    let gives = rw c.in-Ok-Some.field-0-is at c.in-Ok-Some.ensures in
    let answered = rw c.as_slice.ensures.value at c.answer_line.ensures in
    next_line before after c.args.lines.now c.next.new.self c.args.number c.args.cms.now c.answer_line.new.cms (g.K.Keeper.view c.args.keeper.now) (g.K.Keeper.view c.answer_line.new.keeper)
    c.in-Ok-Some.line.items _ _ _ _ c.answer_line.result gives answered

pub returns-in-Ok-None : goal.returns-in-Ok-None
returns-in-Ok-None g c =
    let before : Input = side g.S.Ends.left g.S.Ends.take_faults c.args.source.now in
    let after : Input = side g.S.Ends.left g.S.Ends.take_faults c.next.new.source in
    let gives = rw c.in-Ok-None.field-0-is at c.in-Ok-None.ensures in
    ends_now (EndsNext before after c.args.lines.now c.args.number c.args.cms.now (g.K.Keeper.view c.args.keeper.now) (g.K.Keeper.view c.args.keeper.now)) (g.O.Ends.written c.args.out.now)
    (g.O.Ends.put_faults c.args.out.now) (none c.next.new.self gives (ran_none (g.K.Keeper.view c.args.keeper.now)) (λ told. refl))

pub returns-in-Err : goal.returns-in-Err
returns-in-Err g c =
    let before : Input = side g.S.Ends.left g.S.Ends.take_faults c.args.source.now in
    let after : Input = side g.S.Ends.left g.S.Ends.take_faults c.next.new.source in
    let finished = rw c.stop_of.ensures at c.finish.ensures in
    stopped_first (EndsNext before after c.args.lines.now c.args.number c.args.cms.now (g.K.Keeper.view c.args.keeper.now) (g.K.Keeper.view c.args.keeper.now))
    (status_of (stop_of c.in-Err.why c.args.number)) (text_of (stop_of c.in-Err.why c.args.number)) c.finish.result _ _ _ _ finished
    (stopped c.in-Err.why c.in-Err.ensures (ran_none (g.K.Keeper.view c.args.keeper.now)) (λ told. refl))
