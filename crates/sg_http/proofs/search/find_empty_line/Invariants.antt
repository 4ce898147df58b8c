use Rattle.std.proofs.Common.{◌≡◌, List, ℕ, ◌++◌, true}
use Rattle.sg_http.specs.Search.{end_from}
use Rattle.sg_http.proofs.search.find_empty_line.Given as goal

abbrev pub invariant-loop-at : goal.invariant-loop-at
invariant-loop-at l = (more : List ℕ) → end_from true l.from (l.bytes ++ more) ≡ end_from true l.at (l.bytes ++ more)
