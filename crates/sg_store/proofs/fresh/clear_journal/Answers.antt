use Rattle.std.proofs.Common.{ℕ, ◌+◌, ◌*◌, ◌≡◌, subst, arith}
use Rattle.sg_store.proofs.FreshLemmas.{Cleared, cleared_none, cleared_more}
use Rattle.sg_store.proofs.fresh.clear_journal.Goals as goal

pub loop-piece-init : goal.loop-piece-init
loop-piece-init g c = cleared_none (g.D.Disk.view c.args.disk.now)

pub loop-piece-preserved : goal.loop-piece-preserved
loop-piece-preserved g c =
    let next : 16384 * c.loop-piece.piece + 16384 ≡ 16384 * (c.loop-piece.piece + 1) = omega arith in
    subst (λ (n : ℕ). Cleared n (g.D.Disk.view c.args.disk.now) (g.D.Disk.view c.write_at.new.self)) next
    (cleared_more (16384 * c.loop-piece.piece) 16384 c.args.zeros.now (g.D.Disk.view c.args.disk.now) (g.D.Disk.view c.loop-piece.disk) (g.D.Disk.view c.write_at.new.self) c.requires.zeros (omega arith) c.requires.disk c.write_at.ensures.size c.in_ok-write_at.ensures.passed c.loop-piece.invariant)
