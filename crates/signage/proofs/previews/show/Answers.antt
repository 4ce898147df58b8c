use Rattle.sg_endings.specs.Texts.{memory_fault}
use Rattle.signage.specs.Printing.{IsTimeline}
use Rattle.sg_endings.proofs.Endings.{stopped_first}
use Rattle.signage.proofs.PreviewLemmas.{no_lines}
use Rattle.signage.proofs.previews.show.Goals as goal

pub returns : goal.returns
returns g c =
    stopped_first (IsTimeline c.args.snapshot.now c.args.moments.now) 9 memory_fault c.finish.result _ _ _ _ c.finish.ensures (no_lines c.args.snapshot.now c.args.moments.now)
