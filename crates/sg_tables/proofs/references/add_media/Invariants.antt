use Rattle.std.specs.Prelude.{All}
use Rattle.std.proofs.Common.{◌≡◌, ◌++◌, map, take}
use Rattle.std.specs.List.{flat_map}
use Rattle.sg_base.specs.declared.kind.Kind.TheVariants as kind
use Rattle.sg_tables.specs.Counts.{IsShort}
use Rattle.sg_tables.specs.Rows.{at}
use Rattle.sg_tables.proofs.references.add_media.Given as goal

abbrev pub invariant-loop-region : goal.invariant-loop-region
invariant-loop-region l = (l.ids.items ≡ l.fn.ids.items ++ flat_map (λ region. map (λ item. at kind.Media item.media.0) region.items) (take l.region-index l.region-items)) × (All IsShort l.fn.ids.items → All IsShort l.ids.items)
