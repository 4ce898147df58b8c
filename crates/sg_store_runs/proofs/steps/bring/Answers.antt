use Rattle.std.proofs.Common.{◌+◌, ◌≤◌, length, ap, arith}
use Rattle.sg_base.specs.declared.file.Listed.{Listed}
use Rattle.sg_disk.proofs.Standing.{settled_read}
use Rattle.sg_store.proofs.StageLemmas.{some_half, half_there}
use Rattle.sg_store_runs.specs.declared.call.Call.TheVariants.{Bytes}
use Rattle.sg_store_runs.proofs.StepLemmas.{same_moments, brings}
use Rattle.sg_store_runs.proofs.steps.bring.Goals as goal

pub returns-in_err-stage_bytes-clause-any_moment : goal.returns-in_err-stage_bytes-clause-any_moment
returns-in_err-stage_bytes-clause-any_moment g c old at =
    same_moments (g.D.Disk.view c.args.disk.now) (g.D.Disk.view c.stage_bytes.new.disk) c.args.store.now old (Bytes c.args.bytes.now) (c.stage_bytes.ensures.any_moment old.contents at.ready)

pub returns-clause-any_moment : goal.returns-clause-any_moment
returns-clause-any_moment g c old at =
    same_moments (g.D.Disk.view c.args.disk.now) (g.D.Disk.view c.stage_bytes.new.disk) c.args.store.now old (Bytes c.args.bytes.now) (c.stage_bytes.ensures.any_moment old.contents at.ready)

pub returns-clause-stepped : goal.returns-clause-stepped
returns-clause-stepped g c old at =
    let v = g.D.Disk.view c.args.disk.now in
    let w = g.D.Disk.view c.stage_bytes.new.disk in
    let s = c.args.store.now in
    let bytes = c.args.bytes.now in
    let found = some_half s.half (λ h. h.count + length bytes ≤ h.placed.file.length) (c.may_bring.ensures.lawful c.if-not-may_bring.false) in
    let there = half_there s old.contents v.bytes found.0 found.1 (settled_read v old.contents at.ready.settled) at.ready.knows in
    let fits : length there.f.bytes + length bytes ≤ there.f.listed.length = omega (arith, there.long, found.2, ap (λ (l : Listed). l.length) there.listed) in
    brings v w s c.stage_bytes.new.self old there.f bytes there.is fits c.in_ok-stage_bytes.ensures.ready c.in_ok-stage_bytes.ensures.sealed_bytes c.in_ok-stage_bytes.ensures.half_bytes at
