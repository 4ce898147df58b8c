use Rattle.std.specs.List.{AllByRecursion}
use Rattle.sg_scan.proofs.list.scan_rows.Given as goal

abbrev pub invariant-loop : goal.invariant-loop
invariant-loop g l = AllByRecursion (g.T.ScanRow.valid l.form) l.rows.items
