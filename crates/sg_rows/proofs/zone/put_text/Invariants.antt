use Rattle.std.proofs.Common.{◌≡◌, ℕ, List, ◌++◌, drop}
use Rattle.json.specs.Print.{escape}
use Rattle.sg_rows.proofs.zone.put_text.Given as goal

abbrev pub invariant-loop-byte : goal.invariant-loop-byte
invariant-loop-byte g l = (rest : List ℕ) →
    g.O.TextOut.after l.out (escape (drop l.byte-index l.text) ++ rest)
    ≡ g.O.TextOut.after l.initial.out (escape l.text ++ rest)
