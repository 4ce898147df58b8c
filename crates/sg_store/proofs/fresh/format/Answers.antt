use Rattle.std.proofs.Common.{◌∙◌, sym, subst, arith}
use Rattle.sg_disk.specs.Contents.{fresh}
use Rattle.sg_disk.specs.StandsFor.{StandsFor}
use Rattle.sg_disk.proofs.Standing.{settled_by}
use Rattle.sg_store.proofs.FreshLemmas.{fresh_written}
use Rattle.sg_store.proofs.fresh.format.Goals as goal

pub returns-clause-fresh : goal.returns-clause-fresh
returns-clause-fresh g c told =
    let f = c.args.format.now in
    let x = g.D.Disk.view c.clear.new.disk in
    let y = g.D.Disk.view c.fill_header.new.disk in
    let made = c.in_ok-resize.ensures.passed.told (c.in_ok-close_header.ensures.ran.told told) in
    let here = c.in_ok-clear.ensures.ran.told made in
    let stands = fresh_written f.display f.epoch f.room x.bytes (c.requires.display, omega arith) c.requires.epoch c.requires.room (x.sized here ∙ c.clear.ensures.size ∙ c.in_ok-resize.ensures.size) (c.in_ok-clear.ensures.zero made) (c.in_ok-clear.ensures.one made) (c.in_ok-clear.ensures.journal made) in
    settled_by y y.bytes (fresh f.display f.epoch f.room) (c.in_ok-fill_header.ensures.ran.told here) (c.in_ok-fill_header.ensures.stable here) (subst (StandsFor (fresh f.display f.epoch f.room)) (sym (c.in_ok-fill_header.ensures.written here)) stands)
