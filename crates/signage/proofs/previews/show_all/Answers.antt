use Rattle.std.proofs.Common.{refl, ◌∙◌, subst, ap}
use Rattle.sg_base.specs.Causes.{Rose}
use Rattle.sg_manifest.specs.Snapshot.{SnapshotRow}
use Rattle.signage.specs.Lines.{line_at, lines_of}
use Rattle.signage.proofs.LineLemmas.{around}
use Rattle.sg_endings.proofs.Endings.{part_behind, part_more}
use Rattle.signage.proofs.PreviewLemmas.{all_lines}
use Rattle.signage.proofs.previews.show_all.Goals as goal

pub returns-in-Err : goal.returns-in-Err
returns-in-Err g c = record {
  done = λ fine. absurd (fine refl);
  quiet = λ fine. absurd (fine refl);
  write = λ five. record {
    rose = subst (λ n. Rose n (g.O.Ends.put_faults c.put_all.new.out)) c.loop-moment.invariant.faults c.in-Err.ensures.cause.failed;
    status = 0;
    text = lines_of c.args.display.now c.args.moments.now;
    is = all_lines c.args.display.now c.args.moments.now;
    put =
        let line = c.as_bytes.ensures ∙ (c.line-line.ensures.text ∙ ap (λ (s : SnapshotRow). line_at s c.moment-item.result) c.loop-moment.invariant.same) in
        let part = rw line at c.in-Err.ensures.err in
        rw (around (line_at c.args.display.now) c.args.moments.now c.loop-moment.moment-index c.moment-item.result c.loop-moment-test.true c.moment-item.is)
        (part_more _ _ _ _ (part_behind _ _ _ _ _ c.loop-moment.invariant.written part));
  };
}
