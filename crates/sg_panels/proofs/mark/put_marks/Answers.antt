use Rattle.sg_panels.proofs.LineLemmas.{place_ends_spares, place_ends_last, place_whole}
use Rattle.sg_panels.proofs.mark.put_marks.Goals as goal

pub returns-in-Err-put_times-clause-err : goal.returns-in-Err-put_times-clause-err
returns-in-Err-put_times-clause-err g c =
    place_ends_spares (g.O.Ends.written c.args.out.now) (g.O.Ends.written c.put_if.new.out) (g.O.Ends.written c.put_times.new.out) c.args.place c.args.marks _ _
    c.dropped_line.ensures c.dropped_line-2.ensures c.in-Ok.ensures.ok c.in-Err-put_times.ensures.err

pub returns-in-Ok-put_if-clause-ok : goal.returns-in-Ok-put_if-clause-ok
returns-in-Ok-put_if-clause-ok g c =
    place_whole (g.O.Ends.written c.args.out.now) (g.O.Ends.written c.put_if.new.out) (g.O.Ends.written c.put_times.new.out) (g.O.Ends.written c.put_if-2.new.out)
    c.args.place c.args.marks _ _ _ c.dropped_line.ensures c.dropped_line-2.ensures c.replaced_line.ensures c.in-Ok.ensures.ok c.in-Ok-put_times.ensures.ok
    c.in-Ok-put_if.ensures.ok

pub returns-in-Err-put_if-clause-err : goal.returns-in-Err-put_if-clause-err
returns-in-Err-put_if-clause-err g c =
    place_ends_last (g.O.Ends.written c.args.out.now) (g.O.Ends.written c.put_if.new.out) (g.O.Ends.written c.put_times.new.out) (g.O.Ends.written c.put_if-2.new.out)
    c.args.place c.args.marks _ _ _ c.dropped_line.ensures c.dropped_line-2.ensures c.replaced_line.ensures c.in-Ok.ensures.ok c.in-Ok-put_times.ensures.ok
    c.in-Err-put_if.ensures.err
