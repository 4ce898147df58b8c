use Rattle.std.proofs.Common.{false}
use Rattle.sg_panels.proofs.ReadLemmas.{only_joined}
use Rattle.sg_panels.proofs.Walks.{place_tried}
use Rattle.sg_panels.proofs.paint.paint_place.Goals as goal

pub returns-in-Ok-clause-place : goal.returns-in-Ok-clause-place
returns-in-Ok-clause-place g c =
    place_tried (g.S.Shelf.knows c.args.shelf.now (g.D.Disk.view c.args.disk.now)) (g.S.Shelf.knows c.args.shelf.now (g.D.Disk.view c.paint.new.disk)) c.args.picture.now _ _ _ _ _
    c.in-Ok.marks c.in-Ok-false.ensures.known (c.in-Ok-false.ensures.marked c.in-Ok-false.field-0-test) c.in-Ok.ensures.tries

pub returns-in-Ok-clause-only : goal.returns-in-Ok-clause-only
returns-in-Ok-clause-only g c =
    only_joined false (g.D.Disk.view c.args.disk.now) (g.D.Disk.view c.paint.new.disk) (g.D.Disk.view c.try_spares.new.disk) c.in-Ok-false.ensures.only c.in-Ok.ensures.only
