use Rattle.std.proofs.Common.{◌∙◌, sym, subst, arith}
use Rattle.sg_disk.specs.Contents.{fresh}
use Rattle.sg_disk.specs.declared.places.TheConstants.{SLOT_ZERO, SLOT_ONE}
use Rattle.sg_contents.specs.StandsFor.{StandsFor}
use Rattle.sg_contents.proofs.Standing.{settled_by}
use Rattle.sg_format.proofs.FormatLemmas.{fresh_written}
use Rattle.sg_format.proofs.formatting.format.Goals as goal

pub returns-clause-fresh : goal.returns-clause-fresh
returns-clause-fresh g c told =
    let f = c.args.format.now in
    let x = g.D.Disk.view c.clear_areas.new.disk in
    let y = g.D.Disk.view c.fill_header.new.disk in
    let made = c.in_ok-resize.ensures.passed.told (c.in_ok-close_header.ensures.ran.told told) in
    let shut = c.in_ok-close_gates.ensures.ran.told made in
    let here = c.in_ok-clear_areas.ensures.ran.told shut in
    let kept = c.in_ok-clear_areas.ensures.kept shut in
    let stands = fresh_written f.display f.epoch f.room x.bytes (c.requires.display, omega arith) c.requires.epoch c.requires.room (x.sized here ∙ c.clear_areas.ensures.size ∙ c.close_gates.ensures.size ∙ c.in_ok-resize.ensures.size) (kept SLOT_ZERO 1 (omega arith) (c.in_ok-close_gates.ensures.zero made)) (kept SLOT_ONE 1 (omega arith) (c.in_ok-close_gates.ensures.one made)) (c.in_ok-clear_areas.ensures.journal shut) (c.in_ok-clear_areas.ensures.seals shut) in
    settled_by y y.bytes (fresh f.display f.epoch f.room) (c.in_ok-fill_header.ensures.ran.told here) (c.in_ok-fill_header.ensures.stable here) (subst (StandsFor (fresh f.display f.epoch f.room)) (sym (c.in_ok-fill_header.ensures.written here)) stands)
