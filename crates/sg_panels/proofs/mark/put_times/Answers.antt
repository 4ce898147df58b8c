use Rattle.std.proofs.Common.{List, ℕ, refl, subst, ◌∙◌, arith}
use Rattle.std.specs.Io.KnownBytes.{Appends}
use Rattle.sg_base.specs.Causes.{Rose}
use Rattle.sg_outside.specs.Streams.{AppendsPart}
use Rattle.sg_panels.proofs.LineLemmas.{appends_none, times_more, times_stopped}
use Rattle.sg_panels.proofs.mark.put_times.Goals as goal

pub loop-done-init : goal.loop-done-init
loop-done-init g c = record { reach = omega arith; put = appends_none (g.O.Ends.written c.args.out.now); same = refl }

pub loop-done-preserved : goal.loop-done-preserved
loop-done-preserved g c = record {
  reach = omega arith;
  put = times_more (g.O.Ends.written c.args.out.now) (g.O.Ends.written c.loop-done.out) (g.O.Ends.written c.put_all.new.out) c.loop-done.done c.args.line.now
      c.loop-done.invariant.put (subst (λ (l : List ℕ). Appends (g.O.Ends.written c.loop-done.out) (g.O.Ends.written c.put_all.new.out) l) c.as_bytes.ensures c.in-Ok.ensures.ok);
  same = c.in-Ok.ensures.cause.kept ∙ c.loop-done.invariant.same;
}

pub returns-in-Err-clause-err : goal.returns-in-Err-clause-err
returns-in-Err-clause-err g c =
    times_stopped (g.O.Ends.written c.args.out.now) (g.O.Ends.written c.loop-done.out) (g.O.Ends.written c.put_all.new.out) c.loop-done.done c.args.times c.args.line.now
    (omega arith) c.loop-done.invariant.put
    (subst (λ (l : List ℕ). AppendsPart (g.O.Ends.written c.loop-done.out) (g.O.Ends.written c.put_all.new.out) l) c.as_bytes.ensures c.in-Err.ensures.err)

pub returns-in-Err-clause-cause : goal.returns-in-Err-clause-cause
returns-in-Err-clause-cause g c = record {
  later = omega (arith, c.in-Err.ensures.cause.later, c.loop-done.invariant.same);
  failed = subst (λ (n : ℕ). Rose n (g.O.Ends.put_faults c.put_all.new.out)) c.loop-done.invariant.same c.in-Err.ensures.cause.failed;
  kept = tt;
}
