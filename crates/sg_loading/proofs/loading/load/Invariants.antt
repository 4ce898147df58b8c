use Rattle.std.proofs.Common.{◌-◌}
use Rattle.sg_base.specs.Keys.{number}
use Rattle.sg_keeper.specs.View.{Ran, Same}
use Rattle.sg_loading.specs.Loading.{HasKinds, IsLawful, core_of, rows_below}
use Rattle.sg_steps.specs.State.{AreRows}
use Rattle.sg_loading.proofs.loading.load.Given as goal

abbrev pub invariant-loop-kind : goal.invariant-loop-kind
invariant-loop-kind g l = record {
  lawful : IsLawful (core_of l.parts l.fn.limit);
  rows : (g.K.Keeper.view l.fn.keeper).told → HasKinds (g.K.Keeper.view l.fn.keeper).rows → AreRows (core_of l.parts l.fn.limit) (rows_below (number l.kind 0 0) (g.K.Keeper.view l.fn.keeper).rows);
  ran : Ran (l.kind - 1) (g.K.Keeper.view l.fn.keeper) (g.K.Keeper.view l.keeper);
  same : Same (g.K.Keeper.view l.fn.keeper) (g.K.Keeper.view l.keeper);
}
