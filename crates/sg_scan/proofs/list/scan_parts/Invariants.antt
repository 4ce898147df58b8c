use Rattle.std.specs.List.{AllByRecursion}
use Rattle.sg_scan.proofs.list.scan_parts.Given as goal

abbrev pub invariant-loop : goal.invariant-loop
invariant-loop g l = AllByRecursion g.T.ScanPart.valid l.parts.items
