use Rattle.std.proofs.Common.{rules, true, false, [], ◌∷◌, ◌++◌, ◌+◌, refl, ◌∙◌, arith}
use Rattle.std.proofs.lemmas.List.{length-set}
use Rattle.sg_panels.proofs.LineLemmas.{appends_none, place_put, place_stopped}
use Rattle.sg_panels.proofs.ReadLemmas.{counts_failed, counts_kept, counts_none, only_joined, only_none}
use Rattle.sg_panels.proofs.Walks.{along_none, one_longer, place_on, places_over}
use Rattle.sg_panels.proofs.paint.paint_all.Goals as goal

pub loop-i-init : goal.loop-i-init
loop-i-init g c = record {
  long = search rules;
  come = ([], refl, along_none _ _ _ _, appends_none (g.O.Ends.written c.args.out.now));
  counts = counts_none (g.O.Ends.put_faults c.args.out.now);
  known = λ bytes knows. knows;
  only = only_none (g.D.Disk.view c.args.disk.now);
}

pub returns-in-Err-clause-disk : goal.returns-in-Err-clause-disk
returns-in-Err-clause-disk g c = λ _. (c.loop-i.invariant.come.0, c.loop-i.invariant.come.3)

pub returns-in-Err-clause-only : goal.returns-in-Err-clause-only
returns-in-Err-clause-only g c =
    only_joined true (g.D.Disk.view c.args.disk.now) (g.D.Disk.view c.loop-i.disk) (g.D.Disk.view c.paint_place.new.disk) c.loop-i.invariant.only c.in-Err.ensures.only

pub returns-in-Err-put_marks-clause-write : goal.returns-in-Err-put_marks-clause-write
returns-in-Err-put_marks-clause-write g c = λ _. (
  c.loop-i.invariant.come.0 ++ c.in-Ok.marks ∷ [],
  place_stopped (g.O.Ends.written c.args.out.now) (g.O.Ends.written c.loop-i.out) (g.O.Ends.written c.put_marks.new.out) c.loop-i.i (c.loop-i.i + 1)
      c.loop-i.invariant.come.0 c.in-Ok.marks c.loop-i.invariant.come.1 refl c.loop-i.invariant.come.3 c.in-Err-put_marks.ensures.err,
)

pub returns-in-Err-put_marks-clause-cause : goal.returns-in-Err-put_marks-clause-cause
returns-in-Err-put_marks-clause-cause g c =
    counts_failed (g.O.Ends.put_faults c.args.out.now) (g.O.Ends.put_faults c.loop-i.out) (g.O.Ends.put_faults c.put_marks.new.out) c.loop-i.invariant.counts
    c.in-Err-put_marks.ensures.cause.later c.in-Err-put_marks.ensures.cause.failed

pub returns-in-Err-put_marks-clause-only : goal.returns-in-Err-put_marks-clause-only
returns-in-Err-put_marks-clause-only g c =
    only_joined false (g.D.Disk.view c.args.disk.now) (g.D.Disk.view c.loop-i.disk) (g.D.Disk.view c.paint_place.new.disk) c.loop-i.invariant.only c.in-Ok.ensures.only

pub loop-i-preserved : goal.loop-i-preserved
loop-i-preserved g c = record {
  long = length-set c.loop-i.panels.items c.loop-i.i c.paint_place.new.screen ∙ c.loop-i.invariant.long;
  come = (
    c.loop-i.invariant.come.0 ++ c.in-Ok.marks ∷ [],
    one_longer c.loop-i.invariant.come.0 c.in-Ok.marks c.loop-i.i c.loop-i.invariant.come.1,
    place_on _ (g.S.Shelf.knows c.args.shelf.now (g.D.Disk.view c.args.disk.now)) (g.S.Shelf.knows c.args.shelf.now (g.D.Disk.view c.loop-i.disk)) c.args.picture.now _ _ _ _
        c.loop-i.panels.items c.loop-i.i c.index_mut.result.now c.paint_place.new.screen c.loop-i.invariant.come.0 c.in-Ok.marks (omega arith) c.index_mut.ensures.value
        c.loop-i.invariant.known c.in-Ok.ensures.place c.loop-i.invariant.come.2,
    place_put (g.O.Ends.written c.args.out.now) (g.O.Ends.written c.loop-i.out) (g.O.Ends.written c.put_marks.new.out) c.loop-i.i (c.loop-i.i + 1) c.loop-i.invariant.come.0
        c.in-Ok.marks c.loop-i.invariant.come.1 refl c.loop-i.invariant.come.3 c.in-Ok-put_marks.ensures.ok,
  );
  counts = counts_kept (g.O.Ends.put_faults c.args.out.now) (g.O.Ends.put_faults c.loop-i.out) (g.O.Ends.put_faults c.put_marks.new.out) c.loop-i.invariant.counts
      c.in-Ok-put_marks.ensures.cause.kept;
  known = λ bytes knows. c.in-Ok.ensures.known bytes (c.loop-i.invariant.known bytes knows);
  only = only_joined false (g.D.Disk.view c.args.disk.now) (g.D.Disk.view c.loop-i.disk) (g.D.Disk.view c.paint_place.new.disk) c.loop-i.invariant.only c.in-Ok.ensures.only;
}

pub returns-clause-painted : goal.returns-clause-painted
returns-clause-painted g c = (
  c.loop-i.invariant.come.0,
  places_over _ (g.S.Shelf.knows c.args.shelf.now (g.D.Disk.view c.args.disk.now)) c.args.picture.now _ _ _ c.loop-i.panels.items c.loop-i.i c.loop-i.invariant.come.0
      (omega arith) c.loop-i.invariant.come.2,
  c.loop-i.invariant.come.3,
)
