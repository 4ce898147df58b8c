use Rattle.std.proofs.Common.{◌≤◌}
use Rattle.sg_base.specs.Keys.{number}
use Rattle.sg_keeper.specs.Pages.{end_of}
use Rattle.sg_keeper.specs.View.{Ran, Same}
use Rattle.sg_loading.specs.Loading.{IsLawful, core_of, rows_below}
use Rattle.sg_loading.specs.Pages.{left, reached}
use Rattle.sg_steps.specs.State.{AreRows}
use Rattle.sg_loading.proofs.pages.load_kind.Given as goal

abbrev pub invariant-loop-after : goal.invariant-loop-after
invariant-loop-after g l = record {
  within : reached l.fn.kind l.after ≤ end_of l.fn.kind;
  lawful : IsLawful (core_of l.parts l.fn.limit);
  rows : (g.K.Keeper.view l.fn.keeper).told → AreRows (core_of l.fn.parts l.fn.limit) (rows_below (number l.fn.kind 0 0) (g.K.Keeper.view l.fn.keeper).rows) → AreRows (core_of l.parts l.fn.limit) (rows_below (reached l.fn.kind l.after) (g.K.Keeper.view l.fn.keeper).rows);
  ran : Ran 1 (g.K.Keeper.view l.fn.keeper) (g.K.Keeper.view l.keeper);
  same : Same (g.K.Keeper.view l.fn.keeper) (g.K.Keeper.view l.keeper);
}

abbrev pub decreases-loop-after : goal.decreases-loop-after
decreases-loop-after g l = left l.fn.kind l.after
