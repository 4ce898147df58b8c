use Rattle.std.proofs.Common.{◌≡◌, List, ℕ, ◌++◌, false}
use Rattle.sg_http.specs.Search.{end_from}
use Rattle.sg_http.proofs.search.skip_newlines.Given as goal

abbrev pub invariant-loop-at : goal.invariant-loop-at
invariant-loop-at l = (more : List ℕ) → end_from false l.from (l.bytes ++ more) ≡ end_from false l.at (l.bytes ++ more)
