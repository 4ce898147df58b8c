use Rattle.std.specs.Prelude.{All}
use Rattle.std.proofs.Common.{◌≡◌, ◌++◌, map, take}
use Rattle.sg_base.specs.declared.kind.Kind.TheVariants as kind
use Rattle.sg_tables.specs.Counts.{IsShort}
use Rattle.sg_tables.specs.Rows.{at}
use Rattle.sg_tables.proofs.references.add_groups.Given as goal

abbrev pub invariant-loop-group : goal.invariant-loop-group
invariant-loop-group l = (l.ids.items ≡ l.fn.ids.items ++ map (λ group. at kind.Group group.0) (take l.group-index l.groups)) × (All IsShort l.fn.ids.items → All IsShort l.ids.items)
