use Rattle.std.proofs.Common.{◌≡◌, ◌++◌, map, take}
use Rattle.sg_base.specs.declared.kind.Kind.TheVariants as kind
use Rattle.sg_own_rows.specs.Numbers.{number_of_row}
use Rattle.sg_tables.specs.Rows.{at}
use Rattle.sg_own_rows.proofs.names.add_groups.Given as goal

abbrev pub invariant-loop-group : goal.invariant-loop-group
invariant-loop-group l = l.numbers.items ≡ l.fn.numbers.items ++ map number_of_row (map (λ group. at kind.Group group.0) (take l.group-index l.groups))
