use Rattle.std.specs.Prelude.{All}
use Rattle.std.proofs.Common.{◌≡◌, ◌++◌, map, take}
use Rattle.sg_base.specs.declared.kind.Kind.TheVariants as kind
use Rattle.sg_tables.specs.Counts.{IsShort}
use Rattle.sg_tables.specs.Rows.{at}
use Rattle.sg_tables.proofs.references.add_displays.Given as goal

abbrev pub invariant-loop-display : goal.invariant-loop-display
invariant-loop-display l = (l.ids.items ≡ l.fn.ids.items ++ map (λ display. at kind.Display display.0) (take l.display-index l.displays)) × (All IsShort l.fn.ids.items → All IsShort l.ids.items)
