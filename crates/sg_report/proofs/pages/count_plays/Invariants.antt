use Rattle.std.proofs.Common.{[], ◌≤◌}
use Rattle.sg_base.specs.Keys.{number}
use Rattle.sg_keeper.specs.Pages.{end_of}
use Rattle.sg_keeper.specs.View.{Ran, Same}
use Rattle.sg_report.specs.Counting.{CountsPlays, cursor, left}
use Rattle.sg_report.proofs.pages.count_plays.Given as goal

abbrev pub invariant-loop-next : goal.invariant-loop-next
invariant-loop-next g l = record {
  counts : CountsPlays l.from l.to (g.K.Keeper.view l.fn.keeper) (number 10 0 0) (cursor l.next) [] l.lines.items;
  low : number 10 0 0 ≤ cursor l.next;
  high : cursor l.next ≤ end_of 10;
  ran : Ran 1 (g.K.Keeper.view l.fn.keeper) (g.K.Keeper.view l.keeper);
  same : Same (g.K.Keeper.view l.fn.keeper) (g.K.Keeper.view l.keeper);
}

abbrev pub decreases-loop-next : goal.decreases-loop-next
decreases-loop-next g l = left l.next
