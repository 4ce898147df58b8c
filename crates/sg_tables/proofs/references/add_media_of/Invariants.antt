use Rattle.std.specs.Prelude.{All}
use Rattle.std.proofs.Common.{◌≡◌, ◌++◌, map, take}
use Rattle.sg_base.specs.declared.kind.Kind.TheVariants as kind
use Rattle.sg_tables.specs.Counts.{IsShort}
use Rattle.sg_tables.specs.Rows.{at}
use Rattle.sg_tables.proofs.references.add_media_of.Given as goal

abbrev pub invariant-loop-item : goal.invariant-loop-item
invariant-loop-item l = (l.ids.items ≡ l.fn.ids.items ++ map (λ item. at kind.Media item.media.0) (take l.item-index l.item-items)) × (All IsShort l.fn.ids.items → All IsShort l.ids.items)
