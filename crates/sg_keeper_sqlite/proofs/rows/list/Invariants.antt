use Rattle.std.proofs.Common.{◌≤◌}
use Rattle.std.specs.Prelude.{IsSome}
use Rattle.sg_base.specs.Ranks.{rank_of}
use Rattle.sg_keeper.specs.Pages.{start_of, end_of, HasPageForm}
use Rattle.sg_keeper_sqlite.proofs.rows.list.Given as goal

-- The page is right as far as it goes, the next row comes from `from` on, and the cursor is at it.
abbrev pub invariant-loop : goal.invariant-loop
invariant-loop g l = record {
  live : IsSome ((g.S.Store.view l.store).cursors 0);
  form : HasPageForm (start_of l.kind l.after) (rank_of l.from) l.limit l.page.items;
  low : start_of l.kind l.after ≤ rank_of l.from;
  high : rank_of l.from ≤ end_of l.kind;
}
