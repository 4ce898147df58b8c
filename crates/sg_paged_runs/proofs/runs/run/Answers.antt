use Rattle.std.proofs.Common.{arith}
use Rattle.sg_disk.proofs.Moments.{ran_joined}
use Rattle.sg_paged_runs.proofs.RunLemmas.{moments_more, come_more}
use Rattle.sg_paged_runs.proofs.runs.run.Goals as goal

pub loop-call-preserved : goal.loop-call-preserved
loop-call-preserved g c =
    let v = g.D.Disk.view c.args.disk.now in
    let u = g.D.Disk.view c.loop-call.disk in
    let w = g.D.Disk.view c.step.new.disk in
    record {
      size = c.in_ok-step.ensures.size;
      ran = ran_joined 0 0 v u w c.loop-call.invariant.ran c.in_ok-step.ensures.passed;
      journal = λ told one. c.in_ok-step.ensures.journal (c.loop-call.invariant.ran.told told) (c.loop-call.invariant.journal told one);
      come = λ start at. come_more start c.args.calls.now c.loop-call.call-index c.call-item.result v u w c.loop-call.store c.step.new.store (omega arith) c.call-item.is (c.loop-call.invariant.come start at) c.step.ensures.any_moment c.in_ok-step.ensures.stepped;
    }

pub returns-in_err-step-clause-any_moment : goal.returns-in_err-step-clause-any_moment
returns-in_err-step-clause-any_moment g c start at =
    moments_more start c.args.calls.now c.loop-call.call-index c.call-item.result (g.D.Disk.view c.args.disk.now) (g.D.Disk.view c.loop-call.disk) (g.D.Disk.view c.step.new.disk) c.loop-call.store (omega arith) c.call-item.is (c.loop-call.invariant.come start at) c.step.ensures.any_moment
