use Rattle.std.proofs.Common.{◌≡◌, ◌++◌, map, take}
use Rattle.sg_own_rows.specs.Numbers.{number_of_row}
use Rattle.sg_own_rows.proofs.names.add_references.Given as goal

abbrev pub invariant-loop-id : goal.invariant-loop-id
invariant-loop-id l = l.numbers.items ≡ l.fn.numbers.items ++ map number_of_row (take l.id-index l.id-items)
