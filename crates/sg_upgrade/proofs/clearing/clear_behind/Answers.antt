use Rattle.std.proofs.Common.{ℕ, ◌+◌, ◌-◌, ◌*◌, ◌≡◌, length, subst, arith}
use Rattle.sg_disk.specs.declared.places.TheConstants.{DATA}
use Rattle.sg_disk.proofs.Writes.{within_joined, within_part_failed}
use Rattle.sg_upgrade.specs.declared.places.TheConstants.{WHOLE}
use Rattle.sg_upgrade.proofs.ClearLemmas.{Cleared, zeros_long, cleared_none, cleared_more}
use Rattle.sg_upgrade.proofs.clearing.clear_behind.Goals as goal

pub loop-piece-init : goal.loop-piece-init
loop-piece-init g c = cleared_none (DATA + c.args.room) (g.D.Disk.view c.args.disk.now)

pub loop-piece-preserved : goal.loop-piece-preserved
loop-piece-preserved g c =
    let next : 16384 * c.loop-piece.piece + 16384 ≡ 16384 * (c.loop-piece.piece + 1) = omega arith in
    subst (λ (n : ℕ). Cleared (DATA + c.args.room) n (g.D.Disk.view c.args.disk.now) (g.D.Disk.view c.write_at.new.self)) next
    (cleared_more (DATA + c.args.room) (16384 * c.loop-piece.piece) 16384 c.args.zeros.now (g.D.Disk.view c.args.disk.now) (g.D.Disk.view c.loop-piece.disk) (g.D.Disk.view c.write_at.new.self) c.requires.zeros (omega arith) (omega (arith, c.requires.disk)) c.write_at.ensures.size c.in_ok-write_at.ensures.passed c.loop-piece.invariant)

pub returns-in_err-write_at-clause-within : goal.returns-in_err-write_at-clause-within
returns-in_err-write_at-clause-within g c =
    let u = g.D.Disk.view c.args.disk.now in
    let v = g.D.Disk.view c.loop-piece.disk in
    let w = g.D.Disk.view c.write_at.new.self in
    let a : ℕ = DATA + c.args.room in
    let long : length c.args.zeros.now ≡ 16384 = zeros_long 16384 c.args.zeros.now c.requires.zeros in
    within_joined a (WHOLE - DATA) u v w c.loop-piece.invariant.ran.told c.loop-piece.invariant.within (within_part_failed a (WHOLE - DATA) (a + 16384 * c.loop-piece.piece) (length c.args.zeros.now) v w (omega arith) (omega (arith, long, c.loop-piece-test.true)) c.in_err-write_at.ensures.failed)
