use Rattle.std.proofs.Common.{ℕ, List}
use Rattle.std.specs.Prelude.{Option}
use Rattle.std.specs.Vec.Iter.{into_iter_items, into_iter_len}
use Rattle.sg_loading.specs.Loading.{IsLawful, core_of, rows_below}
use Rattle.sg_loading.specs.Pages.{AreNext, GoesOn}
use Rattle.sg_steps.specs.State.{AreRows}
use Rattle.sg_loading.proofs.pages.load_page.Given as goal

abbrev pub invariant-loop-key : goal.invariant-loop-key
invariant-loop-key l = record {
  lawful : IsLawful (core_of l.parts l.fn.limit);
  on : (kept : ℕ → Option (List ℕ)) (start end : ℕ) → AreNext kept start end l.fn.page.items → AreRows (core_of l.fn.parts l.fn.limit) (rows_below start kept) → GoesOn kept end (core_of l.parts l.fn.limit) (into_iter_items l.rest);
}

abbrev pub decreases-loop-key : goal.decreases-loop-key
decreases-loop-key l = into_iter_len l.rest
