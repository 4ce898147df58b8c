use Rattle.std.proofs.Common.{arith}
use Rattle.sg_disk.specs.Contents.{IsClear}
use Rattle.sg_placing.specs.Placing.{segment_of}
use Rattle.sg_placing.proofs.GapLemmas.{All-front, All-back}
use Rattle.sg_placing.proofs.gaps.lowest_gap.Goals as goal

pub loop-place-preserved : goal.loop-place-preserved
loop-place-preserved c = (
  omega (arith, c.past-behind.ensures.behind, c.past-next.ensures.behind, c.loop-place.invariant),
  c.past-next.ensures.high,
  λ q free. c.past-next.ensures.none_between q
      (c.past-behind.ensures.none_between q (c.loop-place.invariant.2 q free) (All-front (λ p. IsClear q c.args.need (segment_of p)) c.args.current.now c.args.staged.now free.clear))
      (All-back (λ p. IsClear q c.args.need (segment_of p)) c.args.current.now c.args.staged.now free.clear),
)

pub returns-clause-none : goal.returns-clause-none
returns-clause-none c q free = omega (arith, c.loop-place.invariant.2 q free, free.high, c.loop-place-test.false, c.from.ensures)
