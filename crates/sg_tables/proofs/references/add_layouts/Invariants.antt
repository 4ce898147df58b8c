use Rattle.std.specs.Prelude.{All}
use Rattle.std.proofs.Common.{◌≡◌, ◌++◌, map, take}
use Rattle.sg_base.specs.declared.kind.Kind.TheVariants as kind
use Rattle.sg_tables.specs.Counts.{IsShort}
use Rattle.sg_tables.specs.Rows.{at}
use Rattle.sg_tables.proofs.references.add_layouts.Given as goal

abbrev pub invariant-loop-layout : goal.invariant-loop-layout
invariant-loop-layout l = (l.ids.items ≡ l.fn.ids.items ++ map (λ layout. at kind.Layout layout.0) (take l.layout-index l.layouts)) × (All IsShort l.fn.ids.items → All IsShort l.ids.items)
