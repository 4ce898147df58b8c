use Rattle.std.proofs.Common.{rules, false, arith, ◌≤◌, ◌+◌, ℕ, sym, subst, ◌∙◌}
use Rattle.std.proofs.lemmas.List.{length-set}
use Rattle.sg_panels.proofs.ReadLemmas.{only_joined, only_none}
use Rattle.sg_panels.proofs.Walks.{walked_none, spare_painted, spare_on, after_one, spares_over}
use Rattle.sg_panels.proofs.paint.try_spares.Goals as goal

pub loop-j-init : goal.loop-j-init
loop-j-init g c = record {
  long = search rules;
  few = omega arith;
  walked = walked_none _ _ _ _;
  known = λ bytes knows. knows;
  only = only_none (g.D.Disk.view c.args.disk.now);
}

pub returns-in-Painted-clause-tries : goal.returns-in-Painted-clause-tries
returns-in-Painted-clause-tries g c =
    rw c.dropped.ensures
    (spare_painted _ (g.S.Shelf.knows c.args.shelf.now (g.D.Disk.view c.args.disk.now)) (g.S.Shelf.knows c.args.shelf.now (g.D.Disk.view c.loop-j.disk)) c.args.picture.now _ _
    c.loop-j.spares.items c.loop-j.j c.index_mut.result.now c.try_spare.new.spare _ _ c.loop-j.failed c.in-Ok.tried (omega arith) c.index_mut.ensures.value
    c.loop-j.invariant.known c.in-Painted.is c.in-Ok.ensures.tried c.loop-j.invariant.walked)

pub returns-in-Painted-clause-only : goal.returns-in-Painted-clause-only
returns-in-Painted-clause-only g c =
    only_joined false (g.D.Disk.view c.args.disk.now) (g.D.Disk.view c.loop-j.disk) (g.D.Disk.view c.try_spare.new.disk) c.loop-j.invariant.only c.in-Ok.ensures.only

pub loop-j-preserved : goal.loop-j-preserved
loop-j-preserved g c = record {
  long = length-set c.loop-j.spares.items c.loop-j.j c.try_spare.new.spare ∙ c.loop-j.invariant.long;
  few = subst (λ (n : ℕ). n ≤ c.loop-j.j + 1) (sym c.counted-failed.ensures) (after_one c.loop-j.failed c.loop-j.j c.in-Ok.tried c.loop-j.invariant.few);
  walked = spare_on _ (g.S.Shelf.knows c.args.shelf.now (g.D.Disk.view c.args.disk.now)) (g.S.Shelf.knows c.args.shelf.now (g.D.Disk.view c.loop-j.disk)) c.args.picture.now _ _
      c.loop-j.spares.items c.loop-j.j c.index_mut.result.now c.try_spare.new.spare _ _ c.loop-j.failed c.counted-failed.result c.in-Ok.tried (omega arith)
      c.index_mut.ensures.value c.in_default.not-Painted c.counted-failed.ensures c.in-Ok.ensures.tried c.loop-j.invariant.walked;
  known = λ bytes knows. c.in-Ok.ensures.known bytes (c.loop-j.invariant.known bytes knows);
  only = only_joined false (g.D.Disk.view c.args.disk.now) (g.D.Disk.view c.loop-j.disk) (g.D.Disk.view c.try_spare.new.disk) c.loop-j.invariant.only c.in-Ok.ensures.only;
}

pub returns-clause-tries : goal.returns-clause-tries
returns-clause-tries g c =
    rw c.dropped-2.ensures
    (spares_over _ (g.S.Shelf.knows c.args.shelf.now (g.D.Disk.view c.args.disk.now)) c.args.picture.now _ _ c.loop-j.spares.items c.loop-j.j _ c.loop-j.failed (omega arith)
    c.loop-j.invariant.walked)
