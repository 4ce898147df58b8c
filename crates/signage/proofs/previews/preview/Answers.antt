use Rattle.sg_lines.specs.Reading.{Input}
use Rattle.signage.specs.Stop.{status_of, text_of}
use Rattle.signage.specs.Preview.{IsPreview}
use Rattle.signage.specs.Printing.{IsTimeline}
use Rattle.sg_endings.proofs.Endings.{stopped_first, retold}
use Rattle.signage.proofs.PreviewLemmas.{previewed, stop_preview}
use Rattle.signage.proofs.previews.preview.Goals as goal

pub returns-in-Ok : goal.returns-in-Ok
returns-in-Ok g c =
    let before : Input = record { left = g.S.Ends.left c.args.source.now; faults = g.S.Ends.take_faults c.args.source.now } in
    let after : Input = record { left = g.S.Ends.left c.load.new.source; faults = g.S.Ends.take_faults c.load.new.source } in
    retold (IsTimeline c.in-Ok.snapshot c.args.moments.now) (IsPreview before after c.args.moments.now) c.show.result _ _ _ _
    (previewed before after c.in-Ok.snapshot c.args.moments.now c.in-Ok.ensures) c.show.ensures

pub returns-in-Err : goal.returns-in-Err
returns-in-Err g c =
    let before : Input = record { left = g.S.Ends.left c.args.source.now; faults = g.S.Ends.take_faults c.args.source.now } in
    let after : Input = record { left = g.S.Ends.left c.load.new.source; faults = g.S.Ends.take_faults c.load.new.source } in
    stopped_first (IsPreview before after c.args.moments.now) (status_of c.in-Err.stop) (text_of c.in-Err.stop) c.finish.result _ _ _ _ c.finish.ensures
    (stop_preview before after c.args.moments.now c.in-Err.stop c.in-Err.ensures)
