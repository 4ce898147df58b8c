use Rattle.std.proofs.Common.{◌≡◌, ◌++◌, map, drop}
use Rattle.sg_resolver.specs.Lists.{play_of}
use Rattle.sg_resolver.proofs.catalog.Catalog.plays_in.Given as goal

abbrev pub invariant-loop-layout : goal.invariant-loop-layout
invariant-loop-layout l = l.plays.items ++ map (play_of l.self l.event) (drop l.layout-index l.layouts) ≡ map (play_of l.self l.event) l.layouts
