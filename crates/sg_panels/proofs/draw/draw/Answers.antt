use Rattle.std.proofs.Common.{false, refl, arith}
use Rattle.sg_panels.specs.Draws.{has_disk_failed, has_panel_failed}
use Rattle.sg_panels.proofs.DrawLemmas.{shows_more}
use Rattle.sg_panels.proofs.ReadLemmas.{counts_from, only_joined}
use Rattle.sg_panels.proofs.draw.draw.Goals as goal

pub returns-in_default-show : goal.returns-in_default-show
returns-in_default-show g c = record {
  shows = λ done. absurd (c.in_default-show.not-Done done);
  cause = counts_from (has_panel_failed c.show.result) _ _ _ c.loop-i.invariant.shows.kept c.show.ensures.cause;
  known = λ passed bytes knows. c.show.ensures.known passed bytes (c.loop-i.invariant.known bytes knows);
  only = only_joined (has_disk_failed c.show.result) (g.D.Disk.view c.args.disk.now) (g.D.Disk.view c.loop-i.disk) (g.D.Disk.view c.show.new.disk)
      c.loop-i.invariant.only c.show.ensures.only;
}

pub loop-i-preserved : goal.loop-i-preserved
loop-i-preserved g c = record {
  shows = shows_more (g.S.Shelf.knows c.args.shelf.now (g.D.Disk.view c.args.disk.now)) (g.S.Shelf.knows c.args.shelf.now (g.D.Disk.view c.loop-i.disk)) c.args.picture.now
      c.loop-i.i (0, record { 0 = 0 }) _ _ _ (omega arith) c.loop-i.invariant.known c.loop-i.invariant.shows (c.in-Done.ensures.shown refl) (c.in-Done.ensures.begun refl)
      (c.in-Done.ensures.cause.kept refl);
  known = λ bytes knows. c.in-Done.ensures.known refl bytes (c.loop-i.invariant.known bytes knows);
  only = only_joined false (g.D.Disk.view c.args.disk.now) (g.D.Disk.view c.loop-i.disk) (g.D.Disk.view c.show.new.disk) c.loop-i.invariant.only c.in-Done.ensures.only;
}
