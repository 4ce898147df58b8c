use Rattle.std.proofs.Common.{false, refl, arith}
use Rattle.std.proofs.lemmas.Grind.{common_steps}
use Rattle.sg_panels.specs.Draws.{has_disk_failed, has_panel_failed}
use Rattle.sg_panels.proofs.DrawLemmas.{come_more, next_piece}
use Rattle.sg_panels.proofs.ReadLemmas.{counts_joined, only_joined}
use Rattle.sg_panels.proofs.draw.give_all.Goals as goal

pub returns-in_default : goal.returns-in_default
returns-in_default g c = record {
  given = λ done. absurd (c.in_default.not-Done done);
  cause = counts_joined (has_panel_failed c.give.result) _ _ _ c.loop-at.invariant.counts c.give.ensures.cause;
  known = λ passed bytes knows. c.give.ensures.known passed bytes (c.loop-at.invariant.known bytes knows);
  only = only_joined (has_disk_failed c.give.result) (g.D.Disk.view c.args.disk.now) (g.D.Disk.view c.loop-at.disk) (g.D.Disk.view c.give.new.disk)
      c.loop-at.invariant.only c.give.ensures.only;
}

pub loop-at-preserved : goal.loop-at-preserved
loop-at-preserved g c = record {
  reach = omega arith;
  aligned = λ more. next_piece c.loop-at.at c.min-count.result c.args.size (omega arith) (c.loop-at.invariant.aligned (omega arith)) (omega arith) more;
  come = come_more (g.S.Shelf.knows c.args.shelf.now (g.D.Disk.view c.args.disk.now)) (g.S.Shelf.knows c.args.shelf.now (g.D.Disk.view c.loop-at.disk)) c.args.media.0
      c.loop-at.at c.min-count.result _ c.give.new.piece _ _ _ (grind (arith, common_steps)) c.loop-at.invariant.known (grind (arith, common_steps, c.give.auto.piece))
      (c.in-Done.ensures.given refl) (c.in-Done.ensures.bytes refl) c.loop-at.invariant.come;
  long = λ some bytes knows. c.in-Done.ensures.long refl bytes (c.loop-at.invariant.known bytes knows);
  counts = counts_joined false _ _ _ c.loop-at.invariant.counts c.in-Done.ensures.cause;
  known = λ bytes knows. c.in-Done.ensures.known refl bytes (c.loop-at.invariant.known bytes knows);
  only = only_joined false (g.D.Disk.view c.args.disk.now) (g.D.Disk.view c.loop-at.disk) (g.D.Disk.view c.give.new.disk) c.loop-at.invariant.only c.in-Done.ensures.only;
}
