use Rattle.std.proofs.Common.{ℕ, ◌+◌, ◌*◌, ◌≡◌, subst, arith}
use Rattle.sg_format.proofs.FormatLemmas.{Cleared, cleared_none, cleared_more}
use Rattle.sg_format.proofs.formatting.clear_area.Goals as goal

pub loop-piece-init : goal.loop-piece-init
loop-piece-init g c = cleared_none c.args.place (16384 * c.args.pieces) (g.D.Disk.view c.args.disk.now)

pub loop-piece-preserved : goal.loop-piece-preserved
loop-piece-preserved g c =
    let next : 16384 * c.loop-piece.piece + 16384 ≡ 16384 * (c.loop-piece.piece + 1) = omega arith in
    subst (λ (n : ℕ). Cleared c.args.place (16384 * c.args.pieces) n (g.D.Disk.view c.args.disk.now) (g.D.Disk.view c.write_at.new.self)) next
    (cleared_more c.args.place (16384 * c.args.pieces) (16384 * c.loop-piece.piece) 16384 c.args.zeros.now (g.D.Disk.view c.args.disk.now) (g.D.Disk.view c.loop-piece.disk) (g.D.Disk.view c.write_at.new.self) c.requires.zeros (omega (arith, c.loop-piece-test.true)) c.requires.disk c.write_at.ensures.size c.in_ok-write_at.ensures.passed c.loop-piece.invariant)
