use Rattle.std.proofs.Common.{◌≡◌, ℕ, List, false, map, drop}
use Rattle.serde_json.specs.View.{items_of}
use Rattle.sg_rows.specs.Written.{items_before}
use Rattle.sg_rows.proofs.writing.put_list.Given as goal

abbrev pub invariant-loop-row : goal.invariant-loop-row
invariant-loop-row g l = (rest : List ℕ) →
    g.O.TextOut.after l.out (items_before l.later (items_of (map g.T.Entry.json (drop l.row-index l.rows))) rest)
    ≡ g.O.TextOut.after l.initial.out (items_before false (items_of (map g.T.Entry.json l.rows)) rest)
