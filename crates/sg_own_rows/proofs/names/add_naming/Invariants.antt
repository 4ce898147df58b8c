use Rattle.std.proofs.Common.{◌≡◌, ◌++◌, map, take}
use Rattle.sg_own_rows.specs.Numbers.{number_of_row, naming}
use Rattle.sg_own_rows.specs.Own.{named_by}
use Rattle.sg_own_rows.proofs.names.add_naming.Given as goal

abbrev pub invariant-loop-entry : goal.invariant-loop-entry
invariant-loop-entry l = l.numbers.items ≡ l.fn.numbers.items ++ map number_of_row (named_by (naming l.some (take l.entry-index l.entries)))
