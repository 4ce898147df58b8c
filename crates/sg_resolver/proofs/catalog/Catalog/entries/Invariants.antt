use Rattle.std.proofs.Common.{◌≡◌, ◌++◌, map, drop}
use Rattle.sg_resolver.specs.Lists.{entry_of, entries_of}
use Rattle.sg_resolver.proofs.catalog.Catalog.entries.Given as goal

abbrev pub invariant-loop-event : goal.invariant-loop-event
invariant-loop-event l = l.entries.items ++ map (entry_of l.self) (drop l.event-index l.event-items) ≡ entries_of l.self l.fn.kind
